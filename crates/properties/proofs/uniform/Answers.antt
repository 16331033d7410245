-- `properties::uniform` meets its contract. Assumes nothing.
use mathlib.Core.Path.{refl}
use Rattle.lists.specs.Tests.{every}
use Rattle.properties.proofs.Members.{uniform-on, uniform-no, uniform-end}
use borrow.Author.Rules.{rules}
use Rattle.properties.proofs.uniform.Goals as goal

pub loop-j-init : goal.loop-j-init
unfolding every
loop-j-init c = (search rules, refl)

pub returns-then-member_count-k : goal.returns-then-member_count-k
returns-then-member_count-k c = search uniform-no

pub loop-j-preserved : goal.loop-j-preserved
loop-j-preserved c = (search rules, search uniform-on)

pub returns : goal.returns
returns c = search uniform-end
