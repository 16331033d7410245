-- What a search says of one number, and the first of a list that no search finds. Assumes nothing.
use Rattle.std.specs.Prelude.{Option, Some, None, is_none, is_some}
use Rattle.std.specs.List.{position_from}
use mathlib.Core.Path.{◌≡◌, refl, sym, ◌∙◌}
use mathlib.Core.Bool.{Bool}
use mathlib.Core.List.{List, [], ◌∷◌}
use Prim.Native.Nat.{ℕ, zero, suc}
use native.Mathlib.Numerals.{add-one}
use Rattle.std.specs.List as items
use Rattle.std.proofs.lemmas.Iterator.Adapters.{position_from-zero}
use Rattle.layout.specs.Content.{position, is_live}
use Rattle.layout.specs.Inner.{first_missing, first_missing_from}
use Rattle.layout.proofs.Position.{found-live, missing-dead}

-- a search finds a place exactly of what is live
pub searched : (xs : List ℕ) (x : ℕ) (p : Option ℕ) → p ≡ position x xs → is_some p ≡ is_live xs x
searched xs x None e = sym (missing-dead x xs (sym e))
searched xs x (Some i) e = sym (found-live x xs i (sym e))

-- the search for x finds nothing
abbrev pub misses : List ℕ → ℕ → Bool
misses live x = is_none (position x live)

turn : (live : List ℕ) (i x : ℕ) (xs : List ℕ) (p : Option ℕ) → position x live ≡ p
    → position_from (misses live) (suc i) xs ≡ first_missing_from (suc i) live xs → position_from (misses live) i (x ∷ xs) ≡ first_missing_from i live (x ∷ xs)
unfolding first_missing_from
turn live i x xs None e q = rw (e, missing-dead x live e) refl
turn live i x xs (Some k) e q = rw (e, found-live x live k e, add-one i) q

from : (live : List ℕ) (i : ℕ) (xs : List ℕ) → position_from (misses live) i xs ≡ first_missing_from i live xs
unfolding first_missing_from
from live i [] = refl
from live i (x ∷ xs) = turn live i x xs (position x live) refl (from live (suc i) xs)

pub first_missed : (live xs : List ℕ) → items.position (misses live) xs ≡ first_missing live xs
unfolding first_missing
first_missed live xs = position_from-zero (misses live) xs ∙ from live zero xs
