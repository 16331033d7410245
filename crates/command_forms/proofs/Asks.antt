-- What a command asks for by its number, and how many numbers it takes. Assumes nothing.
use mathlib.Core.Path.{◌≡◌, sym, ap}
use mathlib.Core.Bool.{true, false}
use mathlib.Core.List.{List, [], ◌∷◌}
use Prim.Native.Nat.{ℕ, ◌≤◌, ◌<◌}
use lib.ListN.{get_or}
use borrow.Author.Tests.{le-leb, lt-leb}
use Rattle.lists.proofs.Cases.{and_both, and-false-left, and-false-right}
use Rattle.commands.specs.Commands.{form_at, takes}

pub form-at : {k j : ℕ} (a b c : ℕ) → k ≡ j → (form_at j).asks a b c ≡ (form_at k).asks a b c
form-at a b c e = ap (λ (i : ℕ). (form_at i).asks a b c) (sym e)

-- ---- the count of numbers

module _ (k n : ℕ) (counts : List ℕ) (e : counts ≡ (form_at k).least ∷ (form_at k).most ∷ []) where
  least : get_or counts 0 0 ≡ (form_at k).least
  least = ap (λ (l : List ℕ). get_or l 0 0) e

  most : get_or counts 1 0 ≡ (form_at k).most
  most = ap (λ (l : List ℕ). get_or l 1 0) e

  pub takes-few : n < get_or counts 0 0 → false ≡ takes k n
  unfolding takes
  takes-few h = sym (and-false-left _ _ (lt-leb (form_at k).least n (rw (← least) h)))

  pub takes-many : get_or counts 1 0 < n → false ≡ takes k n
  unfolding takes
  takes-many h = sym (and-false-right _ _ (lt-leb n (form_at k).most (rw (← most) h)))

  pub takes-so : get_or counts 0 0 ≤ n → n ≤ get_or counts 1 0 → true ≡ takes k n
  unfolding takes
  takes-so h l =
      sym (and_both _ _ (le-leb (form_at k).least n (rw (← least) h)) (le-leb n (form_at k).most (rw (← most) l)))
