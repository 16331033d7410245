-- One place more, and the records that have no mark by a test of them. Assumes nothing.
use mathlib.Core.Path.{◌≡◌, ap, ◌∙◌}
use mathlib.Core.Bool.{Bool, true, false, not}
use mathlib.Core.List.{List, [], ◌∷◌, ◌++◌, map}
use Prim.Native.Nat.{ℕ, ◌+◌, ◌<◌}
use Rattle.lists.specs.Tests.{chosen}
use Rattle.lists.specs.Lists.{filter, tab}
use Rattle.lists.proofs.Maps.{map_snoc}
use Rattle.lists.proofs.Chosen.{chosen_none, chosen-in, chosen-out}
use Rattle.lists.proofs.Filter.{filter-tab}
use Rattle.marks.specs.Marks.{is_marked}
use Rattle.sift_vertices.specs.Unmarked.{is_unmarked, unmarked}

module _ {A : Type 0} (f : ℕ → A) (marks : List Bool) where
  pub unmarked-none : unmarked f marks 0 ≡ []
  unfolding unmarked
  unmarked-none = ap (map f) (chosen_none (is_unmarked marks))

  pub unmarked-in : (i : ℕ) → is_marked marks i ≡ false → unmarked f marks (i + 1) ≡ unmarked f marks i ++ (f i ∷ [])
  unfolding unmarked
  unmarked-in i m = ap (map f) (chosen-in (is_unmarked marks) i (ap not m)) ∙ map_snoc f (chosen (is_unmarked marks) i) i

  pub unmarked-out : (i : ℕ) → is_marked marks i ≡ true → unmarked f marks (i + 1) ≡ unmarked f marks i
  unfolding unmarked
  unmarked-out i m = ap (map f) (chosen-out (is_unmarked marks) i (ap not m))

  -- where the test of a record says whether it has a mark
  pub unmarked-filter : (p : A → Bool) (n : ℕ) → ((i : ℕ) → i < n → is_unmarked marks i ≡ p (f i)) → unmarked f marks n ≡ filter p (tab f n)
  unfolding unmarked
  unmarked-filter p n h = filter-tab p (is_unmarked marks) f n h
