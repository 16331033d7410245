-- `well_formed::all_members_below` meets its contract. Assumes nothing.
use mathlib.Core.Path.{refl}
use Prim.Native.Nat.{◌-◌}
use Rattle.lists.specs.Tests.{every}
use Rattle.lists.proofs.Every.{every-on, every-no, every-end}
use Rattle.layout.proofs.Shape.{count-le}
use borrow.Author.Rules.{rules}
use Rattle.well_formed.proofs.all_members_below.Goals as goal

pub loop-j-init : goal.loop-j-init
unfolding every
loop-j-init c = (search rules, refl)

pub members_below-requires : goal.members_below-requires
members_below-requires c = (search rules, (search rules, search count-le))

pub returns-then-not-members_below : goal.returns-then-not-members_below
returns-then-not-members_below c = search every-no

pub loop-j-preserved : goal.loop-j-preserved
loop-j-preserved c = (search rules, search every-on)

pub returns : goal.returns
returns c = search every-end
