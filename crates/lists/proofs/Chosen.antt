-- Laws of `chosen`, and of a list written from the front of another. Assumes nothing.
use mathlib.Core.Path.{◌≡◌, refl, sym, ap, ◌∙◌}
use mathlib.Core.Bool.{Bool, true, false}
use mathlib.Core.List.{List, [], ◌∷◌, ◌++◌, append_assoc}
use Prim.Native.Nat.{ℕ, zero, suc, ◌+◌, ◌≤◌, ◌<◌}
use native.Mathlib.Numerals.{add-one}
use native.Mathlib.Omega.{arith}
use lib.ListN.{length, get_or, set, drop, take, length-append, length-drop}
use lib.Seq.{drop-cons, set_at, append_snoc, drop-drop, take_at, drop_at}
use Rattle.lists.specs.Tests.{count, chosen}
use Rattle.lists.specs.Lists.{over}
use Rattle.lists.proofs.Cases.{on}

module _ (p : ℕ → Bool) where
  pub chosen-in : (n : ℕ) → p n ≡ true → chosen p (n + 1) ≡ chosen p n ++ (n ∷ [])
  unfolding chosen
  chosen-in n e = rw (add-one n, e)

  pub chosen-out : (n : ℕ) → p n ≡ false → chosen p (n + 1) ≡ chosen p n
  unfolding chosen
  chosen-out n e = rw (add-one n, e)

  pub chosen_none : chosen p 0 ≡ []
  unfolding chosen
  chosen_none = refl

  pub chosen-count : (n : ℕ) → length (chosen p n) ≡ count p n
  unfolding chosen
  chosen-count zero = refl
  chosen-count (suc n) =
      on (p n)
      (λ e. rw e (omega (arith, length-append (chosen p n) (n ∷ []), chosen-count n)))
      (λ e. rw e (omega (arith, chosen-count n)))

pub chosen-ext : (p q : ℕ → Bool) (n : ℕ) → ((i : ℕ) → i < n → p i ≡ q i) → chosen p n ≡ chosen q n
unfolding chosen
chosen-ext p q zero h = refl
chosen-ext p q (suc n) h = rw (h n (omega arith), chosen-ext p q n (λ i l. h i (omega arith)))

pub over_none : (d : List ℕ) → over [] d ≡ d
unfolding over
over_none d = refl

-- the next word
pub over-more : (w d : List ℕ) (v i : ℕ) → length w ≡ i → i < length d → set (over w d) i v ≡ over (w ++ (v ∷ [])) d
unfolding over
over-more w d v i e l =
    let s : suc (length w) ≡ length (w ++ (v ∷ [])) = omega (arith, length-append w (v ∷ [])) in
    ap (λ (x : List ℕ). set (w ++ x) i v) (drop-cons d (length w) 0 (omega arith))
    ∙ set_at w (get_or d (length w) 0) (drop (suc (length w)) d) v i e
    ∙ sym (append_snoc w v (drop (suc (length w)) d))
    ∙ ap (λ (k : ℕ). w ++ (v ∷ []) ++ drop k d) s

-- a part from where w ends on, written over by v
pub over-part : (w v d : List ℕ) (i : ℕ) → length w ≡ i → take i (over w d) ++ over v (drop i (over w d)) ≡ over (w ++ v) d
unfolding over
over-part w v d i e =
    ap (λ (x : List ℕ). x ++ (v ++ drop (length v) (drop i (w ++ drop (length w) d)))) (take_at w (drop (length w) d) i e)
    ∙ ap (λ (x : List ℕ). w ++ (v ++ drop (length v) x)) (drop_at w (drop (length w) d) i e)
    ∙ ap (λ (x : List ℕ). w ++ (v ++ x)) (drop-drop (length v) (length w) d)
    ∙ sym (append_assoc w v (drop (length w + length v) d))
    ∙ ap (λ (k : ℕ). w ++ v ++ drop k d) (sym (length-append w v))

pub over-length : (w d : List ℕ) → length w ≤ length d → length (over w d) ≡ length d
unfolding over
over-length w d l = omega (arith, length-append w (drop (length w) d), length-drop (length w) d)
