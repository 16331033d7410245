-- `command_forms::edits` meets its contract, arm by arm. Assumes nothing.
use native.Mathlib.Omega.{arith}
use Rattle.commands.specs.Commands.{forms, form_at}
use Rattle.command_forms.proofs.Asks.{form-at}
use Rattle.command_forms.proofs.edits.Goals as goal

pub returns-in-5 : goal.returns-in-5
unfolding forms form_at
returns-in-5 c = form-at _ _ _ c.in-5.is

pub returns-in-6 : goal.returns-in-6
unfolding forms form_at
returns-in-6 c = form-at _ _ _ c.in-6.is

pub returns-in-7 : goal.returns-in-7
unfolding forms form_at
returns-in-7 c = form-at _ _ _ c.in-7.is

pub returns-in-8 : goal.returns-in-8
unfolding forms form_at
returns-in-8 c = form-at _ _ _ c.in-8.is

pub returns-in-9 : goal.returns-in-9
unfolding forms form_at
returns-in-9 c = form-at _ _ _ c.in-9.is

pub returns-in_default : goal.returns-in_default
unfolding forms form_at
returns-in_default c = form-at {k = c.args.k} {j = 10} c.args.a c.args.b c.args.c (omega arith)
