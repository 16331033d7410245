-- `batches::run_lines` meets its contract. Assumes nothing.
use Rattle.batches.proofs.Carrying.{carried-stop, carried-more, carried-end, left-falls, counted-more, done-not, done-is}
use Prim.Native.Nat.{◌-◌}
use borrow.Author.Rules.{rules}
use Rattle.batches.proofs.run_lines.Goals as goal

pub loop-from-init : goal.loop-from-init
loop-from-init c = (search rules, search rules, search rules, search rules, search rules, search rules)

pub returns-then-ne : goal.returns-then-ne
returns-then-ne c = search (carried-stop, done-not)

pub loop-from-smaller : goal.loop-from-smaller
loop-from-smaller c = search left-falls

pub loop-from-preserved : goal.loop-from-preserved
loop-from-preserved c = (search rules, search counted-more, search rules, search rules, search rules, search (carried-more, done-is))

pub returns : goal.returns
returns c = search carried-end
