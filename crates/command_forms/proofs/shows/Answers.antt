-- `command_forms::shows` meets its contract, arm by arm. Assumes nothing.
use native.Mathlib.Omega.{arith}
use Rattle.commands.specs.Commands.{forms, form_at}
use Rattle.command_forms.proofs.Asks.{form-at}
use Rattle.command_forms.proofs.shows.Goals as goal

pub returns-in-0 : goal.returns-in-0
unfolding forms form_at
returns-in-0 c = form-at _ _ _ c.in-0.is

pub returns-in-1 : goal.returns-in-1
unfolding forms form_at
returns-in-1 c = form-at _ _ _ c.in-1.is

pub returns-in-2 : goal.returns-in-2
unfolding forms form_at
returns-in-2 c = form-at _ _ _ c.in-2.is

pub returns-in-3 : goal.returns-in-3
unfolding forms form_at
returns-in-3 c = form-at _ _ _ c.in-3.is

pub returns-in_default : goal.returns-in_default
unfolding forms form_at
returns-in_default c = form-at {k = c.args.k} {j = 4} _ _ _ (omega arith)
