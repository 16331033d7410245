-- `member_sets::within` meets its contract. Assumes nothing.
use mathlib.Core.Path.{refl}
use Rattle.lists.specs.Tests.{every}
use Rattle.properties.proofs.SetRows.{within_on, within-no, within_end}
use borrow.Author.Rules.{rules}
use Rattle.member_sets.proofs.within.Goals as goal

pub loop-i-init : goal.loop-i-init
unfolding every
loop-i-init c = (search rules, refl)

pub returns-then-not-part_within : goal.returns-then-not-part_within
returns-then-not-part_within c = search within-no

pub loop-i-preserved : goal.loop-i-preserved
loop-i-preserved c = (search rules, search within_on)

pub returns : goal.returns
returns c = search within_end
