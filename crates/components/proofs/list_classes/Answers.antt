-- `components::list_classes` meets its contract. Assumes nothing.
use Rattle.components.proofs.Blocks.{classes-over, classes-fit, classes-room}
use borrow.Author.Rules.{rules}
use Rattle.components.proofs.list_classes.Goals as goal

pub returns-then-out-need : goal.returns-then-out-need
returns-then-out-need c = search classes-over

pub write_classes-requires : goal.write_classes-requires
write_classes-requires c = record { formed = search rules; n_value = (search rules, search classes-room) }

pub returns : goal.returns
returns c = search classes-fit
