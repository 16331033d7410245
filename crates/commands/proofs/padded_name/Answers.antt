-- `commands::padded_name` meets its contract: the table has every name. Assumes nothing.
use Rattle.lists.specs.Lists.{tab}
use Rattle.lists.proofs.Tab.{getD-tab}
use Rattle.commands.specs.Commands.{forms, command_count, form_at, name_at}
use Rattle.commands.specs.Inner.{padded}
use borrow.Author.Rules.{rules}
use Rattle.commands.proofs.padded_name.Goals as goal

pub returns : goal.returns
unfolding tab forms form_at name_at padded
returns c = getD-tab padded command_count c.args.k _ (search rules)
