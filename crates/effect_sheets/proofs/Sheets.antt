-- The sheets of what was withdrawn and merged, put together from their parts. Assumes nothing.
use mathlib.Core.Path.{◌≡◌}
use mathlib.Core.Bool.{Bool, false, cond}
use mathlib.Core.List.{List, [], ◌∷◌}
use Prim.Native.Nat.{ℕ}
use lib.Dec.{eqb}
use lib.ListN.{length}
use borrow.Author.Tests.{eq-eqb, ne_eqb}
use Rattle.layout.specs.Content.{Table}
use Rattle.wording.specs.Texts.{text}
use Rattle.wording.specs.Pages.{Page, page, write_byte, write}
use Rattle.wording.specs.Forms.{filled, joined}
use Rattle.effect_sheets.specs.Effects.{effects, withdrawn_said, tubes_said, transfers_said, merged_said}
use Rattle.effect_sheets.proofs.Parts.{ended, and-ended, three, in_words}

-- ---- one or several

module _ (one several : List ℕ) (n : ℕ) (p : Page) (c : List ℕ) (q : ℕ) where
  pub for-one : n ≡ 1 → page c q ≡ write one p → page c q ≡ write (cond (eqb n 1) one several) p
  for-one h e = rw (eq-eqb n 1 h) e

  pub for-several : (n ≡ 1 → ⊥) → page c q ≡ write several p → page c q ≡ write (cond (eqb n 1) one several) p
  for-several h e = rw (ne_eqb n 1 h) e

-- ---- the pages b, c and d follow each other

module _ (p : Page) (b c : List ℕ) (r q : ℕ) where
  pub withdrawn-put : (one several list d : List ℕ) (s : ℕ) → page b r ≡ write (cond (eqb (length list) 1) one several) p
      → page c q ≡ write (joined list) (page b r) → page d s ≡ write (text " withdrawn") (page c q) → page d s ≡ write (withdrawn_said one several list) p
  unfolding withdrawn_said
  withdrawn-put one several list d s e f g = three p b c r q (cond (eqb (length list) 1) one several) (joined list) (text " withdrawn") d s e f g

  module _ (plain : Bool) (h : plain ≡ false) where
    pub transfers-put : (list : List ℕ) → page b r ≡ write (withdrawn_said (text "transfer ") (text "transfers ") list) p
        → page c q ≡ write_byte 10 (page b r) → page c q ≡ write (cond plain [] (transfers_said list)) p
    unfolding transfers_said
    transfers-put list e f = in_words plain [] (transfers_said list) p c q h (ended p b c r q (withdrawn_said (text "transfer ") (text "transfers ") list) e f)

    module _ (before after : Table) (d : List ℕ) (s : ℕ) (g : page d s ≡ write_byte 10 (page c q)) where
      pub tubes-put : (list : List ℕ) → page b r ≡ write (withdrawn_said (text "tube ") (text "tubes ") list) p
          → page c q ≡ write (effects (text "; transfer A keeps ") before after) (page b r) → page d s ≡ write (cond plain [] (tubes_said list before after)) p
      unfolding tubes_said
      tubes-put list e f =
          in_words plain [] (tubes_said list before after) p d s h
          (and-ended p b c r q (withdrawn_said (text "tube ") (text "tubes ") list) (effects (text "; transfer A keeps ") before after) d s e f g)

      pub merged-put : (v w : ℕ) → page b r ≡ write (filled (text "tube A merged into tube B") (w ∷ v ∷ []) []) p
          → page c q ≡ write (effects (text "; transfer A lists ") before after) (page b r) → page d s ≡ write (cond plain [] (merged_said v w before after)) p
      unfolding merged_said
      merged-put v w e f =
          in_words plain [] (merged_said v w before after) p d s h
          (and-ended p b c r q (filled (text "tube A merged into tube B") (w ∷ v ∷ []) []) (effects (text "; transfer A lists ") before after) d s e f g)
