-- `messages::is_change` meets its contract. Assumes nothing.
use mathlib.Core.Path.{refl}
use Rattle.causes.proofs.Causes.{a-change, no_change}
use Rattle.messages.specs.Messages.{any_change}
use Rattle.messages.proofs.is_change.Goals as goal

pub returns-in-Make : goal.returns-in-Make
unfolding any_change
returns-in-Make c = a-change _ _ _ _ c.in-Make.is refl

pub returns-in_default : goal.returns-in_default
returns-in_default c = no_change _ _ c.in_default.not-Make
