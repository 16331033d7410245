-- `mark_rows::word_end` meets its contract. Assumes nothing.
use native.Mathlib.Omega.{arith}
use Rattle.mark_rows.proofs.Rows.{ends-none, ends-all}
use Rattle.mark_rows.proofs.word_end.Goals as goal

pub returns-then-n-first : goal.returns-then-n-first
returns-then-n-first c = search ends-none

pub returns : goal.returns
returns c = ends-all _ _ (omega arith)
