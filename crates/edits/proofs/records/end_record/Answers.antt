-- `edits::records::end_record` meets its contract. Assumes nothing.
use lib.ListN.{length-set}
use native.Mathlib.Omega.{arith}
use Rattle.edits.proofs.records.end_record.Goals as goal

pub bounds-t-a-2 : goal.bounds-t-a-2
bounds-t-a-2 c = simp length-set (omega arith)

pub bounds-t-a-3 : goal.bounds-t-a-3
bounds-t-a-3 c = simp length-set (omega arith)

pub returns : goal.returns
returns c = cc
