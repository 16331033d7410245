-- `formed::records_shaped` meets its contract. Assumes nothing.
use mathlib.Core.Path.{refl}
use Rattle.lists.specs.Tests.{every}
use Rattle.lists.proofs.Every.{every-on, every-no, every-end}
use borrow.Author.Rules.{rules}
use Rattle.formed.proofs.records_shaped.Goals as goal

pub loop-j-init : goal.loop-j-init
unfolding every
loop-j-init c = (search rules, refl)

pub returns-then-not-record_shaped : goal.returns-then-not-record_shaped
returns-then-not-record_shaped c = search every-no

pub loop-j-preserved : goal.loop-j-preserved
loop-j-preserved c = (search rules, search every-on)

pub returns : goal.returns
returns c = search every-end
