-- The sheets of a tube, a transfer and a list, put together from their parts. Assumes nothing.
use mathlib.Core.Path.{◌≡◌}
use mathlib.Core.Bool.{Bool, true, false, cond}
use mathlib.Core.List.{List, [], ◌∷◌, ◌++◌}
use Prim.Native.Nat.{ℕ, ◌≤◌, ◌<◌}
use borrow.Author.Tests.{lt-ltb, le-ltb}
use Rattle.layout.specs.Answers.{Answer}
use Rattle.layout.specs.Answers.{detail}
use Rattle.wording.specs.Texts.{text, decimal}
use Rattle.wording.specs.Pages.{Page, page, write_byte, write}
use Rattle.wording.specs.Forms.{filled, number_line}
use Rattle.wording.proofs.Writing.{then}
use Rattle.effect_sheets.proofs.Parts.{ended, three, in-numbers, in_words}
use Rattle.entry_sheets.specs.Entries.{number_alone, tube_said, identical_said, recorded_said, transfer_said, relist_said}

-- ---- the pages b, c, d and f follow each other

module _ (p : Page) (b c : List ℕ) (r q : ℕ) where
  pub alone-put : (n : ℕ) → page b r ≡ write (decimal n) p → page c q ≡ write_byte 10 (page b r) → page c q ≡ write (number_alone n) p
  unfolding number_alone
  alone-put n e f = ended p b c r q (decimal n) e f

  pub relist-put : (plain : Bool) (x : ℕ) (list : List ℕ) → plain ≡ false → page b r ≡ write (filled (text "transfer A now lists") (x ∷ []) []) p
      → page c q ≡ write (number_line (text " tubes ") [] list) (page b r) → page c q ≡ write (cond plain [] (relist_said x list)) p
  unfolding relist_said
  relist-put plain x list h e f =
      in_words plain [] (relist_said x list) p c q h (then p b c (filled (text "transfer A now lists") (x ∷ []) []) (number_line (text " tubes ") [] list) r q e f)

  module _ (n : ℕ) (d : List ℕ) (s : ℕ) (f : page c q ≡ write (decimal n) (page b r)) where
    pub tube-put : (w : ℕ) → page b r ≡ write (text "tube ") p → page d s ≡ write (filled (text " registered, weight A\n") (w ∷ []) []) (page c q)
        → page d s ≡ write (tube_said n w) p
    unfolding tube_said
    tube-put w e g = three p b c r q (text "tube ") (decimal n) (filled (text " registered, weight A\n") (w ∷ []) []) d s e f g

    module _ (e : page b r ≡ write (text "transfer ") p) where
      pub identical-put : page d s ≡ write (text " is identical, nothing recorded\n") (page c q) → page d s ≡ write (identical_said n) p
      unfolding identical_said
      identical-put g = three p b c r q (text "transfer ") (decimal n) (text " is identical, nothing recorded\n") d s e f g

      pub recorded-put : (w : ℕ) (list k : List ℕ) (u : ℕ) → page d s ≡ write (filled (text " recorded, cost A") (w ∷ []) []) (page c q)
          → page k u ≡ write (number_line (text ", tubes ") [] list) (page d s) → page k u ≡ write (recorded_said n w list) p
      unfolding recorded_said
      recorded-put w list k u g h =
          three p b c r q (text "transfer ") (decimal n) (filled (text " recorded, cost A") (w ∷ []) [] ++ number_line (text ", tubes ") [] list) k u e f
          (then (page c q) d k (filled (text " recorded, cost A") (w ∷ []) []) (number_line (text ", tubes ") [] list) s u g h)

-- ---- new or found

module _ (n next w : ℕ) (list : List ℕ) (p : Page) (c : List ℕ) (q : ℕ) where
  pub found-put : n < next → page c q ≡ write (identical_said n) p → page c q ≡ write (transfer_said n next w list) p
  unfolding transfer_said
  found-put h e = rw (lt-ltb n next h) e

  pub new-put : next ≤ n → page c q ≡ write (recorded_said n w list) p → page c q ≡ write (transfer_said n next w list) p
  unfolding transfer_said
  new-put h e = rw (le-ltb n next h) e

-- ---- n is what `Reply::from` says of the answer

module _ (plain : Bool) (a : Answer) (n : ℕ) (e : n ≡ detail a) (p : Page) (c : List ℕ) (q : ℕ) where
  pub number_put : (ys : List ℕ) → plain ≡ true → page c q ≡ write (number_alone n) p → page c q ≡ write (cond plain (number_alone (detail a)) ys) p
  number_put ys h f = in-numbers plain (number_alone (detail a)) ys p c q h (rw (← e) f)

  pub tube-words : (w : ℕ) → plain ≡ false → page c q ≡ write (tube_said n w) p → page c q ≡ write (cond plain (number_alone (detail a)) (tube_said (detail a) w)) p
  tube-words w h f = in_words plain (number_alone (detail a)) (tube_said (detail a) w) p c q h (rw (← e) f)

  pub transfer-words : (next w : ℕ) (list : List ℕ) → plain ≡ false → page c q ≡ write (transfer_said n next w list) p
      → page c q ≡ write (cond plain (number_alone (detail a)) (transfer_said (detail a) next w list)) p
  transfer-words next w list h f = in_words plain (number_alone (detail a)) (transfer_said (detail a) next w list) p c q h (rw (← e) f)
