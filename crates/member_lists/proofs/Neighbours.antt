-- The first place of a list that equals the place after it. Assumes nothing.
use Rattle.std.specs.Prelude.{Option, Some, None, MatchOption}
use mathlib.Core.Path.{◌≡◌, refl}
use mathlib.Core.List.{List, [], ◌∷◌}
use Prim.Native.Nat.{ℕ, zero, suc, ◌+◌, ◌<◌, suc-le-suc}
use native.Mathlib.Nat.{le_of_suc-le-suc, zero-lt-suc, add-zero, zero-add, suc-add, add-suc}
use native.Mathlib.Numerals.{add-one}
use native.Mathlib.Omega.{arith}
use lib.Dec.{eqb}
use lib.Pointwise.{pointwise}
use lib.ListN.{length, get_or}
use borrow.Author.Tests.{eq-eqb, ne_eqb}
use Rattle.lists.specs.Tests.{◌and◌}
use Rattle.lists.specs.Lists.{same_list}
use Rattle.layout.specs.Steps.{steps_of, same_ends}
use Rattle.edits.specs.Results.{first_passing, first_passing_from}

-- place k differs from the place after it
abbrev pub Apart : List ℕ → ℕ → Type 0
Apart ms k = get_or ms k 0 ≡ get_or ms (suc k) 0 → ⊥

none : (j : ℕ) (ms : List ℕ) → ((k : ℕ) → suc k < length ms → Apart ms k) → None ≡ first_passing_from same_ends j (steps_of ms)
unfolding first_passing_from same_ends steps_of
none j [] n = refl
none j (x ∷ []) n = refl
none j (x ∷ y ∷ ms) n = rw (ne_eqb x y (n zero (suc-le-suc (zero-lt-suc (length ms))))) (none (suc j) (y ∷ ms) (λ k l. n (suc k) (suc-le-suc l)))

some : (j i : ℕ) (ms : List ℕ) → suc i < length ms → get_or ms i 0 ≡ get_or ms (suc i) 0 → ((k : ℕ) → k < i → Apart ms k)
    → Some (j + i) ≡ first_passing_from same_ends j (steps_of ms)
unfolding first_passing_from same_ends steps_of
some j i [] h e n = absurd (omega arith)
some j i (x ∷ []) h e n = absurd (omega arith)
some j zero (x ∷ y ∷ ms) h e n = rw (eq-eqb x y e, add-zero) refl
some j (suc i) (x ∷ y ∷ ms) h e n =
    rw (ne_eqb x y (n zero (zero-lt-suc i)), add-suc j i, ← suc-add j i)
    (some (suc j) i (y ∷ ms) (le_of_suc-le-suc h) e (λ k l. n (suc k) (suc-le-suc l)))

-- what the search ensures of its result
abbrev pub FirstEqual : List ℕ → Option ℕ → Type 0
FirstEqual ms r =
    MatchOption r ((k : ℕ) → k + 1 < length ms → (get_or ms k 0 ≡ get_or ms (k + 1) 0 → ⊥))
    (λ (i : ℕ). (i + 1 < length ms) × (get_or ms i 0 ≡ get_or ms (i + 1) 0) × ((k : ℕ) → k < i → (get_or ms k 0 ≡ get_or ms (k + 1) 0 → ⊥)))

pub first_equal : (ms : List ℕ) (r : Option ℕ) → FirstEqual ms r → r ≡ first_passing same_ends (steps_of ms)
unfolding first_passing
first_equal ms None n = none zero ms (λ k l e. n k (rw (add-one k) l) (rw (add-one k) e))
first_equal ms (Some i) q =
    rw (zero-add i) at (some zero i ms (rw (add-one i) at q.0) (rw (add-one i) at q.1) (λ k l e. q.2 k l (rw (add-one k) e)))
