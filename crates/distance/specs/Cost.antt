-- The costs of steps: which step there is and what it costs, as the matrix of choices holds them; a step's key. Assumes nothing.
use Rattle.std.specs.Prelude.{◌≡◌, Bool, true, not, List, ℕ, ◌+◌, ◌-◌, ◌*◌, ◌≤◌, ◌<◌, eqb, length, get_or, set}
use Rattle.lists.specs.Tests.{count}
use Rattle.distance.specs.Labels.{relaxed_mark, relaxed_key, Labels, unsettled, Nearest}

-- what the matrix c chose for the step from u to v: 0 where there is no such step
abbrev pub choice_in : List ℕ → ℕ → ℕ → ℕ
choice_in c u v = get_or c (u * 256 + v) 0

-- there is a step from u to v
abbrev pub step_in : List ℕ → ℕ → ℕ → Bool
step_in c u v = not (eqb (choice_in c u v) 0)

-- the cost of the step: w has the cost of each choice
abbrev pub cost_in : List ℕ → List ℕ → ℕ → ℕ → ℕ
cost_in c w u v = get_or w (choice_in c u v) 0

-- a step's key: its cost, and in the low 16 bits one step
abbrev pub key_in : List ℕ → List ℕ → ℕ → ℕ → ℕ
key_in c w u v = cost_in c w u v * 65536 + 1

-- the same against the steps' direction
abbrev pub step_back : List ℕ → ℕ → ℕ → Bool
step_back c x v = step_in c v x

abbrev pub cost_back : List ℕ → List ℕ → ℕ → ℕ → ℕ
cost_back c w x v = cost_in c w v x

abbrev pub key_back : List ℕ → List ℕ → ℕ → ℕ → ℕ
key_back c w x v = key_in c w v x

-- how many steps u has
unfoldable pub step_count : List ℕ → ℕ → ℕ
step_count c u = count (step_in c u) 256

-- the lists of the steps: those of u are the first `counts u` places from u * 256 on; every step stands in one, and once
pub record Listed (c lists counts : List ℕ) : Type 0 where
  pub sized : length lists ≡ 65536
  pub rows : length counts ≡ 256
  pub counted : (u : ℕ) → u < 256 → get_or counts u 0 ≡ step_count c u
  pub each : (u i : ℕ) → u < 256 → i < get_or counts u 0 → (get_or lists (u * 256 + i) 0 < 256) × (step_in c u (get_or lists (u * 256 + i) 0) ≡ true)
  pub all : (u v : ℕ) → u < 256 → v < 256 → step_in c u v ≡ true → (i : ℕ) × (i < get_or counts u 0) × (get_or lists (u * 256 + i) 0 ≡ v)

-- no step leads from a number below n to one that is not
abbrev pub Within : ℕ → List ℕ → Type 0
Within n c = (u v : ℕ) → u < n → v < 256 → step_in c u v ≡ true → v < n

-- what the step from the settled number u does to the mark and the key of v
pub record RelaxedAt (E : ℕ → ℕ → Bool) (W : ℕ → ℕ → ℕ) (u v base : ℕ) (m d m' d' : List ℕ) : Type 0 where
  pub bounded : E u v ≡ true → W u v ≤ 281474976710656
  pub marks : m' ≡ set m v (relaxed_mark (E u v) (get_or m v 0))
  pub keys : d' ≡ set d v (relaxed_key (E u v) (get_or m v 0) (get_or d v 0) (base + W u v))

-- the search: every settled number adds a step's bound
abbrev pub Search : (ℕ → ℕ → Bool) → (ℕ → ℕ → ℕ) → ℕ → ℕ → List ℕ → List ℕ → ℕ → Type 0
Search E W n s m d u = Labels E W n s ((n - unsettled n m) * 281474976710656) (n - unsettled n m) m d × Nearest n m d u
