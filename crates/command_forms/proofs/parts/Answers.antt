-- `command_forms::parts` meets its contract, arm by arm. Assumes nothing.
use native.Mathlib.Omega.{arith}
use Rattle.commands.specs.Commands.{forms, form_at}
use Rattle.command_forms.proofs.Asks.{form-at}
use Rattle.command_forms.proofs.parts.Goals as goal

pub returns-in-18 : goal.returns-in-18
unfolding forms form_at
returns-in-18 c = form-at _ _ _ c.in-18.is

pub returns-in-19 : goal.returns-in-19
unfolding forms form_at
returns-in-19 c = form-at _ _ _ c.in-19.is

pub returns-in-20 : goal.returns-in-20
unfolding forms form_at
returns-in-20 c = form-at _ _ _ c.in-20.is

pub returns-in-21 : goal.returns-in-21
unfolding forms form_at
returns-in-21 c = form-at _ _ _ c.in-21.is

pub returns-in-22 : goal.returns-in-22
unfolding forms form_at
returns-in-22 c = form-at _ _ _ c.in-22.is

pub returns-in_default : goal.returns-in_default
unfolding forms form_at
returns-in_default c = form-at {k = c.args.k} {j = 23} _ _ _ (omega arith)
