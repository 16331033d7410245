-- `strip_vertex::next_place` meets its contract. Assumes nothing.
use Rattle.edits.proofs.Stripped.{place_kept, place-next}
use Rattle.strip_vertex.proofs.next_place.Goals as goal

pub returns-then-c-eq0 : goal.returns-then-c-eq0
returns-then-c-eq0 c = search place_kept

pub returns : goal.returns
returns c = search place-next
