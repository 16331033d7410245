-- `inclusions::list_inclusions` meets its contract. Assumes nothing.
use native.Mathlib.Omega.{arith}
use Rattle.layout.proofs.Answers.{listed-over, listed-fits}
use borrow.Author.Rules.{rules}
use Rattle.inclusions.proofs.list_inclusions.Goals as goal

pub returns-then-out-c : goal.returns-then-out-c
returns-then-out-c c = search listed-over

pub write_pairs-requires : goal.write_pairs-requires
write_pairs-requires c = record { formed = search rules; sets = search rules; t_in_bounds = omega arith }

pub returns : goal.returns
returns c = search listed-fits
