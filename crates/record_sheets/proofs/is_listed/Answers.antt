-- `record_sheets::is_listed` meets its contract. Assumes nothing.
use mathlib.Core.Path.{refl}
use Rattle.record_sheets.proofs.Records.{listed-yes, listed-on, listed-no}
use borrow.Author.Rules.{rules}
use Rattle.record_sheets.proofs.is_listed.Goals as goal

pub loop-j-init : goal.loop-j-init
loop-j-init c = (search rules, refl)

pub returns-then-holds : goal.returns-then-holds
returns-then-holds c = search listed-yes

pub loop-j-preserved : goal.loop-j-preserved
loop-j-preserved c = (search rules, search listed-on)

pub returns : goal.returns
returns c = search listed-no
