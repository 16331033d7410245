-- `command_forms::ways` meets its contract, arm by arm. Assumes nothing.
use native.Mathlib.Omega.{arith}
use Rattle.commands.specs.Commands.{forms, form_at}
use Rattle.command_forms.proofs.Asks.{form-at}
use Rattle.command_forms.proofs.ways.Goals as goal

pub returns-in-11 : goal.returns-in-11
unfolding forms form_at
returns-in-11 c = form-at _ _ _ c.in-11.is

pub returns-in-12 : goal.returns-in-12
unfolding forms form_at
returns-in-12 c = form-at _ _ _ c.in-12.is

pub returns-in-13 : goal.returns-in-13
unfolding forms form_at
returns-in-13 c = form-at _ _ _ c.in-13.is

pub returns-in-14 : goal.returns-in-14
unfolding forms form_at
returns-in-14 c = form-at _ _ _ c.in-14.is

pub returns-in-15 : goal.returns-in-15
unfolding forms form_at
returns-in-15 c = form-at _ _ _ c.in-15.is

pub returns-in-16 : goal.returns-in-16
unfolding forms form_at
returns-in-16 c = form-at _ _ _ c.in-16.is

pub returns-in_default : goal.returns-in_default
unfolding forms form_at
returns-in_default c = form-at {k = c.args.k} {j = 17} _ _ _ (omega arith)
