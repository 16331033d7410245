-- `command_forms::finds` meets its contract, arm by arm. Assumes nothing.
use native.Mathlib.Omega.{arith}
use Rattle.commands.specs.Commands.{forms, form_at}
use Rattle.command_forms.proofs.Asks.{form-at}
use Rattle.command_forms.proofs.finds.Goals as goal

pub returns-in-24 : goal.returns-in-24
unfolding forms form_at
returns-in-24 c = form-at _ _ _ c.in-24.is

pub returns-in-25 : goal.returns-in-25
unfolding forms form_at
returns-in-25 c = form-at _ _ _ c.in-25.is

pub returns-in-26 : goal.returns-in-26
unfolding forms form_at
returns-in-26 c = form-at _ _ _ c.in-26.is

pub returns-in-27 : goal.returns-in-27
unfolding forms form_at
returns-in-27 c = form-at _ _ _ c.in-27.is

pub returns-in_default : goal.returns-in_default
unfolding forms form_at
returns-in_default c = form-at {k = c.args.k} {j = 28} _ _ _ (omega arith)
