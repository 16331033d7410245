-- `degrees::degree` meets its contract. Assumes nothing.
use mathlib.Core.Path.{refl}
use Prim.Native.Nat.{◌≤◌, ◌-◌}
use native.Mathlib.Omega.{arith}
use Rattle.layout.specs.Layout.{limit}
use Rattle.lookups.specs.Lookups.{degree}
use Rattle.lookups.proofs.Places.{summed-none, summed-more, summed-end, places-in, places-most}
use borrow.Author.Rules.{rules}
use Rattle.degrees.proofs.degree.Goals as goal

pub loop-j-init : goal.loop-j-init
loop-j-init c = (search rules, summed-none _ _ _ _)

pub overflow_add-n : goal.overflow_add-n
overflow_add-n c = let most : c.places_at-n.result ≤ limit = places-most limit c.args.t.now _ _ c.members_formed.ensures _ _ c.places_at-n.ensures c.requires (omega arith) in omega (arith, most)

pub loop-j-preserved : goal.loop-j-preserved
loop-j-preserved c = let most : c.places_at-n.result ≤ limit = places-most limit c.args.t.now _ _ c.members_formed.ensures _ _ c.places_at-n.ensures c.requires (omega arith) in (
  omega arith,
  summed-more c.loop-j.invariant.1 (omega arith) (places-in limit c.args.t.now _ _ c.members_formed.ensures _ _ c.places_at-n.ensures) (most) refl,
)

pub returns : goal.returns
unfolding degree
returns c = summed-end c.loop-j.invariant.1 (omega arith)
