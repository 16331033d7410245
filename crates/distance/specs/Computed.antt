-- The best walk computed. By `path-is-best`, `best-is-path`, `none-unreachable` and `unreachable-none` (paths/proofs/Theorems) it is the walk that
-- `Best` describes: who believes Best.antt need not believe this file. Assumes nothing.
use Rattle.std.specs.Prelude.{Bool, true, false, ◌&&◌, ◌||◌, cond, List, [], ◌∷◌, ℕ, zero, suc, eqb, ltb, length}
use Rattle.std.proofs.Math.Option.{Option, none, some}
use Rattle.distance.specs.Best.{total}

-- l comes lexicographically before k, or is k
unfoldable pub lex_le : List ℕ → List ℕ → Bool
lex_le [] k = true
lex_le (x ∷ l) [] = false
lex_le (x ∷ l) (y ∷ k) = ltb x y || (eqb x y && lex_le l k)

-- by total, then by steps, then by the vertex list
unfoldable pub ahead : (ℕ → ℕ → ℕ) → ℕ → List ℕ → List ℕ → Bool
ahead W x l k =
    ltb (total W x l) (total W x k) || (eqb (total W x l) (total W x k) && (ltb (length l) (length k) || (eqb (length l) (length k) && lex_le l k)))

-- the one ahead of two walks from x, of which each may be none
unfoldable pub better : (ℕ → ℕ → ℕ) → ℕ → Option (List ℕ) → Option (List ℕ) → Option (List ℕ)
better W x none q = q
better W x (some l) none = some l
better W x (some l) (some k) = cond (ahead W x l k) (some l) (some k)

-- a step to v, where there is one, and on from there
unfoldable pub onward : Bool → ℕ → Option (List ℕ) → Option (List ℕ)
onward false v p = none
onward true v none = none
onward true v (some l) = some (v ∷ l)

-- the best walk from x whose first step is to one of vs
unfoldable pub best_over : (ℕ → ℕ → Bool) → (ℕ → ℕ → ℕ) → ℕ → (ℕ → Option (List ℕ)) → List ℕ → Option (List ℕ)
best_over E W x on [] = none
best_over E W x on (v ∷ vs) = better W x (onward (E x v) v (on v)) (best_over E W x on vs)

-- no step: from x to itself
unfoldable pub stay : ℕ → ℕ → Option (List ℕ)
stay x y = cond (eqb x y) (some []) none

-- the best walk from x to y of at most f steps
unfoldable pub best_within : (ℕ → ℕ → Bool) → (ℕ → ℕ → ℕ) → List ℕ → ℕ → ℕ → ℕ → Option (List ℕ)
best_within E W vs y zero x = stay x y
best_within E W vs y (suc f) x = better W x (stay x y) (best_over E W x (λ v. best_within E W vs y f v) vs)

-- the best walk from x to y over the vertices vs: no best walk has as many steps as there are vertices
unfoldable pub best : (ℕ → ℕ → Bool) → (ℕ → ℕ → ℕ) → List ℕ → ℕ → ℕ → Option (List ℕ)
best E W vs x y = best_within E W vs y (length vs) x
