-- `nestedness::list_profile` meets its contract. Assumes nothing.
use native.Mathlib.Omega.{arith}
use Rattle.layout.proofs.Answers.{listed-over, listed-fits}
use Rattle.properties.proofs.Rows.{classed}
use borrow.Author.Rules.{rules}
use Rattle.nestedness.proofs.list_profile.Goals as goal

pub count_rows-c-requires : goal.count_rows-c-requires
count_rows-c-requires c = record { formed = search rules; classed = search classed }

pub returns-then-out-c : goal.returns-then-out-c
returns-then-out-c c = search listed-over

pub write_rows-requires : goal.write_rows-requires
write_rows-requires c = record { formed = search rules; classed = search classed; t_in_bounds = omega arith }

pub returns : goal.returns
returns c = search listed-fits
