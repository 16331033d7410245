-- `read_states::note` meets its contract. Assumes nothing.
use Rattle.read_states.proofs.Noted.{noted-none, noted-at}
use Rattle.read_states.proofs.note.Goals as goal

pub returns-then-i-ge-VERTEX_LIMIT : goal.returns-then-i-ge-VERTEX_LIMIT
returns-then-i-ge-VERTEX_LIMIT c = search noted-none

pub returns : goal.returns
returns c = search noted-at
