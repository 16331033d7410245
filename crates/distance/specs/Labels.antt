-- Labels: a number is 0 unlabelled, 1 labelled, 2 settled; its key is the total of a walk. Assumes nothing.
use Rattle.std.specs.Prelude.{◌≡◌, Bool, true, ◌&&◌, ◌||◌, not, cond, List, ℕ, ◌+◌, ◌≤◌, ◌<◌, eqb, ltb, length, get_or}
use Rattle.distance.specs.Way.{Way}
use Rattle.graph.specs.Reach.{Edge}
use Rattle.lists.specs.Tests.{count}

-- what the step from the settled number makes of a mark and of a key; b: there is a step, c: the total by it
abbrev pub relaxed_mark : Bool → ℕ → ℕ
relaxed_mark b m = cond (b && eqb m 0) 1 m

abbrev pub relaxed_key : Bool → ℕ → ℕ → ℕ → ℕ
relaxed_key b m d c = cond (b && (eqb m 0 || (eqb m 1 && ltb c d))) c d

-- the same at every number
pub record Relaxed (E : ℕ → ℕ → Bool) (W : ℕ → ℕ → ℕ) (B n u : ℕ) (m d m' d' : List ℕ) : Type 0 where
  pub bounded : (v : ℕ) → v < n → E u v ≡ true → W u v ≤ B
  pub wide : length m' ≡ 256
  pub long : length d' ≡ 256
  pub marks : (v : ℕ) → v < n → get_or m' v 0 ≡ relaxed_mark (E u v) (get_or m v 0)
  pub keys : (v : ℕ) → v < n → get_or d' v 0 ≡ relaxed_key (E u v) (get_or m v 0) (get_or d v 0) (get_or d u 0 + W u v)

-- the labels of a search from s; none is above b, or has a walk of more than r steps
pub record Labels (E : ℕ → ℕ → Bool) (W : ℕ → ℕ → ℕ) (n s b r : ℕ) (m d : List ℕ) : Type 0 where
  pub wide : length m ≡ 256
  pub long : length d ≡ 256
  pub three : (v : ℕ) → v < n → get_or m v 0 ≤ 2
  pub start : get_or m s 0 ≡ 0 → ⊥
  pub zero : get_or d s 0 ≡ 0
  pub sound : (v : ℕ) → v < n → (get_or m v 0 ≡ 0 → ⊥) → (j : ℕ) × (j ≤ r) × Way (Edge E n) W s v (get_or d v 0) j
  pub bound : (v : ℕ) → v < n → (get_or m v 0 ≡ 0 → ⊥) → get_or d v 0 ≤ b
  pub met : (u v : ℕ) → u < n → v < n → get_or m u 0 ≡ 2 → E u v ≡ true → get_or m v 0 ≡ 0 → ⊥
  pub tight : (u v : ℕ) → u < n → v < n → get_or m u 0 ≡ 2 → E u v ≡ true → get_or d v 0 ≤ get_or d u 0 + W u v
  pub order : (u v : ℕ) → u < n → v < n → get_or m u 0 ≡ 2 → get_or m v 0 ≡ 1 → get_or d u 0 ≤ get_or d v 0

-- how many numbers are not settled
unfoldable pub unsettled : ℕ → List ℕ → ℕ
unsettled n m = count (λ v. not (eqb (get_or m v 0) 2)) n

-- what the search leaves
pub record Shortest (E : ℕ → ℕ → Bool) (W : ℕ → ℕ → ℕ) (n s : ℕ) (m d : List ℕ) : Type 0 where
  pub wide : length m ≡ 256
  pub long : length d ≡ 256
  pub small : (y : ℕ) → y < n → get_or m y 0 ≡ 2 → get_or d y 0 ≤ 72057594037927936
  pub way : (y : ℕ) → y < n → get_or m y 0 ≡ 2 → (j : ℕ) × (j ≤ n) × Way (Edge E n) W s y (get_or d y 0) j
  pub least : (y k j : ℕ) → Way (Edge E n) W s y k j → (get_or m y 0 ≡ 2) × (get_or d y 0 ≤ k)

-- the labelled number of least key, or n
pub record Nearest (n : ℕ) (m d : List ℕ) (b : ℕ) : Type 0 where
  pub small : b ≤ n
  pub some : b < n → get_or m b 0 ≡ 1
  pub none : n ≤ b → (v : ℕ) → v < n → get_or m v 0 ≡ 1 → ⊥
  pub least : b < n → (v : ℕ) → v < n → get_or m v 0 ≡ 1 → get_or d b 0 ≤ get_or d v 0
