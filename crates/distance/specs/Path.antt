-- The way down the keys: from x the smallest step that keeps to a least key, and so on. Assumes nothing.
use Rattle.std.specs.Prelude.{Bool, ◌&&◌, cond, List, [], ◌∷◌, ℕ, zero, suc, ◌+◌, ◌*◌, eqb, ltb, get_or}
use Rattle.order.specs.Least.{least}

-- cost and steps in one number
abbrev pub key : (ℕ → ℕ → ℕ) → ℕ → ℕ → ℕ
key W x v = W x v * 65536 + 1

-- the step from x that keeps to a least key
unfoldable pub is_tight : (ℕ → ℕ → Bool) → (ℕ → ℕ → ℕ) → List ℕ → List ℕ → ℕ → ℕ → Bool
is_tight E K m d x v = E x v && (eqb (get_or m v 0) 2 && eqb (get_or d x 0) (K x v + get_or d v 0))

-- the smallest number that such a step leads to, or n
unfoldable pub hop : (ℕ → ℕ → Bool) → (ℕ → ℕ → ℕ) → ℕ → List ℕ → List ℕ → ℕ → ℕ
hop E K n m d x = least (is_tight E K m d x) n 0

-- from x down the keys, at most f steps
unfoldable pub path : (ℕ → ℕ → Bool) → (ℕ → ℕ → ℕ) → ℕ → List ℕ → List ℕ → ℕ → ℕ → List ℕ
path E K n m d zero x = []
path E K n m d (suc f) x =
    let r = hop E K n m d x ∷ path E K n m d f (hop E K n m d x) in
    cond (eqb (get_or d x 0) 0) [] (cond (ltb (hop E K n m d x) n) r [])
