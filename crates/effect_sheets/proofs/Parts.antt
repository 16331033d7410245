-- Sheets put together from parts, in words or plain. Assumes nothing.
use mathlib.Core.Path.{◌≡◌, sym, ◌∙◌}
use mathlib.Core.Bool.{Bool, true, false, cond}
use mathlib.Core.List.{List, [], ◌∷◌, ◌++◌}
use Prim.Native.Nat.{ℕ}
use Rattle.wording.specs.Texts.{text}
use Rattle.wording.specs.Pages.{Page, page, write_byte, write}
use Rattle.wording.proofs.Writing.{one_byte, nothing_written, then}

-- ---- parts, one after the other

module _ (p : Page) (b c : List ℕ) (r q : ℕ) where
  -- the line feed last
  pub ended : (xs : List ℕ) → page b r ≡ write xs p → page c q ≡ write_byte 10 (page b r) → page c q ≡ write (xs ++ text "\n") p
  ended xs e f = then p b c xs (10 ∷ []) r q e (f ∙ sym (one_byte 10 (page b r)))

  pub and-ended : (xs ys d : List ℕ) (s : ℕ) → page b r ≡ write xs p → page c q ≡ write ys (page b r) → page d s ≡ write_byte 10 (page c q)
      → page d s ≡ write (xs ++ (ys ++ text "\n")) p
  and-ended xs ys d s e f g = then p b d xs (ys ++ (10 ∷ [])) r s e (then (page b r) c d ys (10 ∷ []) q s f (g ∙ sym (one_byte 10 (page c q))))

  pub three : (xs ys zs d : List ℕ) (s : ℕ) → page b r ≡ write xs p → page c q ≡ write ys (page b r) → page d s ≡ write zs (page c q)
      → page d s ≡ write (xs ++ (ys ++ zs)) p
  three xs ys zs d s e f g = then p b d xs (ys ++ zs) r s e (then (page b r) c d ys zs q s f g)

-- ---- plain: the numbers alone, here xs; else the words, here ys

module _ (plain : Bool) (xs ys : List ℕ) (p : Page) (c : List ℕ) (q : ℕ) where
  pub in-numbers : plain ≡ true → page c q ≡ write xs p → page c q ≡ write (cond plain xs ys) p
  in-numbers h e = rw h e

  pub in_words : plain ≡ false → page c q ≡ write ys p → page c q ≡ write (cond plain xs ys) p
  in_words h e = rw h e

pub no-numbers : (plain : Bool) (ys b : List ℕ) (at : ℕ) → plain ≡ true → page b at ≡ write (cond plain [] ys) (page b at)
no-numbers plain ys b at h = rw h (nothing_written b at)
