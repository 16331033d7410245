-- `changes::make_transfer` meets its contract. Assumes nothing.
use Rattle.changes.proofs.Told.{change-refused, sized-by-desk, transfer-done}
use Rattle.changes.proofs.make_transfer.Goals as goal

pub next_hyperedge-next-requires : goal.next_hyperedge-next-requires
next_hyperedge-next-requires c = search sized-by-desk

pub returns-then-not-is_done : goal.returns-then-not-is_done
returns-then-not-is_done c = search change-refused

pub returns : goal.returns
returns c = search transfer-done
