-- Adjacency is the table's steps, read forward and backward. Assumes nothing.
use mathlib.Core.Path.{◌≡◌, refl}
use Prim.Native.Nat.{ℕ}
use Rattle.layout.specs.Content.{Table}
use Rattle.layout.specs.Steps.{has_step}
use Rattle.lookups.specs.declared.Direction.TheVariants.{From, To}
use Rattle.lookups.specs.declared.Relation.TheVariants.{Along}
use Rattle.lookups.specs.Lookups.{relates, is_related}

pub steps-from : (t : Table) (v y : ℕ) → is_related (Along From) t v y ≡ has_step t v y
unfolding is_related relates has_step
steps-from t v y = refl

pub steps-to : (t : Table) (v y : ℕ) → is_related (Along To) t v y ≡ has_step t y v
unfolding is_related relates has_step
steps-to t v y = refl
