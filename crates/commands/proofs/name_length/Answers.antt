-- `commands::name_length` meets its contract: the table has the length of every name. Assumes nothing.
use Prim.Native.Nat.{ℕ}
use lib.ListN.{length}
use Rattle.lists.specs.Lists.{tab}
use Rattle.lists.proofs.Tab.{getD-tab}
use Rattle.commands.specs.Commands.{forms, command_count, form_at, name_at}
use borrow.Author.Rules.{rules}
use Rattle.commands.proofs.name_length.Goals as goal

pub returns : goal.returns
unfolding tab forms form_at name_at
returns c = getD-tab (λ (k : ℕ). length (name_at k)) command_count c.args.k 0 (search rules)
