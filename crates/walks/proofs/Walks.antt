-- Laws of walks. Assumes nothing.
use Prim.Native.Nat.{ℕ}
use Rattle.walks.specs.Walks.{Reach, here, step}

pub reach-trans : {R : ℕ → ℕ → Type 0} {x y z : ℕ} → Reach R x y → Reach R y z → Reach R x z
reach-trans a here = a
reach-trans a (step b r) = step (reach-trans a b) r

-- what holds of x and goes along steps holds of all that is reached
pub reach-keeps : {R : ℕ → ℕ → Type 0} (P : ℕ → Type 0) {x y : ℕ} → P x → ((u v : ℕ) → P u → R u v → P v) → Reach R x y → P y
reach-keeps P p h here = p
reach-keeps P p h (step {y = u} {z = v} w r) = h u v (reach-keeps P p h w) r

-- a walk along steps that are themselves walks
pub reach-through : {R S : ℕ → ℕ → Type 0} {x y : ℕ} → ((u v : ℕ) → R u v → Reach S u v) → Reach R x y → Reach S x y
reach-through f here = here
reach-through f (step {y = u} {z = v} w r) = reach-trans (reach-through f w) (f u v r)

pub reach-map : {R S : ℕ → ℕ → Type 0} {x y : ℕ} → ((u v : ℕ) → R u v → S u v) → Reach R x y → Reach S x y
reach-map f here = here
reach-map f (step {y = u} {z = v} w r) = step (reach-map f w) (f u v r)
