-- `read_frames::read_records` meets its contract. Assumes nothing.
use Rattle.reader.proofs.VertexLines.{stored-due}
use Rattle.reader.proofs.Texts.{text-vertex-bad, text-vertices-place, text-vertices-stored, text-vertices-made}
use borrow.Author.Rules.{rules}
use Rattle.read_frames.proofs.read_records.Goals as goal

pub returns-then-walked-n : goal.returns-then-walked-n
returns-then-walked-n c = search text-vertex-bad

pub read_rest-requires : goal.read_rest-requires
read_rest-requires c = record { valued = search rules; vertices_stored = search text-vertices-stored; vertices_made = (search text-vertices-made, search stored-due); place_value = search text-vertices-place }
