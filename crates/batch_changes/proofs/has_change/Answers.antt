-- `batch_changes::has_change` meets its contract. Assumes nothing.
use Prim.Native.Nat.{◌-◌}
use Rattle.batches.proofs.Carrying.{left-falls}
use Rattle.batch_changes.proofs.Lines.{change-first, change-found, change-later, change-none}
use borrow.Author.Rules.{rules}
use Rattle.batch_changes.proofs.has_change.Goals as goal

pub loop-from-init : goal.loop-from-init
loop-from-init c = (search rules, search change-first)

pub returns-then-is_changing : goal.returns-then-is_changing
returns-then-is_changing c = search change-found

pub loop-from-smaller : goal.loop-from-smaller
loop-from-smaller c = search left-falls

pub loop-from-preserved : goal.loop-from-preserved
loop-from-preserved c = (search rules, search change-later)

pub returns : goal.returns
returns c = search change-none
