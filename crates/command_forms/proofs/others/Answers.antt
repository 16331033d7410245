-- `command_forms::others` meets its contract, arm by arm. Assumes nothing.
use native.Mathlib.Omega.{arith}
use Rattle.commands.specs.Commands.{forms, form_at}
use Rattle.command_forms.proofs.Asks.{form-at}
use Rattle.command_forms.proofs.others.Goals as goal

pub returns-in-29 : goal.returns-in-29
unfolding forms form_at
returns-in-29 c = form-at _ _ _ c.in-29.is

pub returns-in-30 : goal.returns-in-30
unfolding forms form_at
returns-in-30 c = form-at _ _ _ c.in-30.is

pub returns-in-31 : goal.returns-in-31
unfolding forms form_at
returns-in-31 c = form-at _ _ _ c.in-31.is

pub returns-in_default : goal.returns-in_default
unfolding forms form_at
returns-in_default c = form-at {k = c.args.k} {j = 32} _ _ _ (omega arith)
