-- `command_forms::counts_of` meets its contract: the table has the counts of every command. Assumes nothing.
use mathlib.Core.List.{[], ◌∷◌}
use Prim.Native.Nat.{ℕ}
use Rattle.lists.specs.Lists.{tab}
use Rattle.lists.proofs.Tab.{getD-tab}
use Rattle.commands.specs.Commands.{forms, command_count, form_at}
use borrow.Author.Rules.{rules}
use Rattle.command_forms.proofs.counts_of.Goals as goal

pub returns : goal.returns
unfolding tab forms form_at
returns c = getD-tab (λ (k : ℕ). (form_at k).least ∷ (form_at k).most ∷ []) command_count c.args.k [] (search rules)
