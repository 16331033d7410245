-- The line of a frame: what `frame_end` finds. Assumes nothing.
use mathlib.Core.Path.{◌≡◌, sym, ap, ◌∙◌}
use mathlib.Core.Bool.{true, false}
use mathlib.Core.List.{List}
use Prim.Native.Nat.{ℕ, ◌+◌, ◌*◌, ◌-◌, ◌%◌, ◌≤◌, ◌<◌}
use native.Mathlib.Omega.{arith}
use lib.Dec.{eqb, leb}
use lib.ListN.{length, get_or}
use borrow.Author.Tests.{leb-true, eq-eqb, ne_eqb}
use Rattle.lists.specs.Tests.{◌and◌}
use Rattle.lists.specs.Lists.{all, is_below}
use Rattle.lists.proofs.Cases.{on, clash, and_left, and_right, and_both}
use Rattle.frames.specs.Frames.{byte_values}
use Rattle.frames.specs.Reading.{number_at}
use Rattle.frames.specs.Bytes.{bytes_at}
use Rattle.frames.proofs.Parse.{bytes-front, number_word}
use Rattle.reader.specs.Lines.{behind, frame_sum, line_end, sealed_at, Sealed}
use Rattle.reader.proofs.Ends.{behind-failed, behind-passed, stays-failed, goes-passed, goes_by}

module _ (text : List ℕ) (p k r : ℕ) (e : r ≡ line_end text p (k * 2 + 1)) where
  ends : r ≡ behind (leb (p + (k * 2 + 1)) (length text) and eqb (get_or text (p + k * 2) 0) 10) p (k * 2 + 1)
  unfolding line_end
  ends =
      let last : p + (k * 2 + 1 - 1) ≡ p + k * 2 = omega arith in
      e ∙ ap (λ (n : ℕ). behind (leb (p + (k * 2 + 1)) (length text) and eqb (get_or text n 0) 10) p (k * 2 + 1)) last

  unended : r ≡ p → false ≡ sealed_at text p k
  unfolding sealed_at
  unended q = on (sealed_at text p k)
      (λ s. clash (and_both _ _ (and_left _ _ s) (and_left _ _ (and_right _ _ s))) (stays-failed p (k * 2 + 1) _ r ends (omega arith) q))
      (λ s. sym s)

  pub frame-none : r ≡ p → p ≡ behind (sealed_at text p k) p (k * 2 + 1)
  frame-none q = behind-failed p (k * 2 + 1) (sealed_at text p k) (unended q)

  module _ (n : r ≡ p → ⊥) where
    roomy : leb (p + (k * 2 + 1)) (length text) ≡ true
    roomy = and_left _ _ (goes-passed p (k * 2 + 1) _ r ends n)

    ended : eqb (get_or text (p + k * 2) 0) 10 ≡ true
    ended = and_right _ _ (goes-passed p (k * 2 + 1) _ r ends n)

    pub frame-room : p + k * 2 ≤ length text
    frame-room = let h : p + (k * 2 + 1) ≤ length text = leb-true _ _ roomy in omega arith

    summed : (s : ℕ) → s ≡ frame_sum text p k → eqb (s % 256) 0 ≡ sealed_at text p k
    unfolding sealed_at frame_sum ◌and◌
    summed s q = rw (roomy, ended, q)
        (on (all (is_below byte_values) (bytes_at text p k)) (λ t. rw t) (λ t. rw t))

    pub frame-unsummed : (s : ℕ) → s ≡ frame_sum text p k → (s % 256 ≡ 0 → ⊥) → p ≡ behind (sealed_at text p k) p (k * 2 + 1)
    frame-unsummed s q h = behind-failed p (k * 2 + 1) (sealed_at text p k) (sym (ne_eqb (s % 256) 0 h) ∙ summed s q)

    pub frame-summed : (s : ℕ) → s ≡ frame_sum text p k → s % 256 ≡ 0 → r ≡ behind (sealed_at text p k) p (k * 2 + 1)
    frame-summed s q h =
        behind-passed p (k * 2 + 1) (sealed_at text p k) r (sym (eq-eqb (s % 256) 0 h) ∙ summed s q) (goes_by p (k * 2 + 1) _ r ends n)

-- what a frame that is one is known to be
pub sealed-is : (text : List ℕ) (p k : ℕ) → sealed_at text p k ≡ true → Sealed text p k
unfolding sealed_at
sealed-is text p k e = record { room = leb-true _ _ (and_left _ _ e); low = and_left _ _ (and_right _ _ (and_right _ _ e)); is = e }

pub sealed-by : (text : List ℕ) (p k r : ℕ) → r ≡ behind (sealed_at text p k) p (k * 2 + 1) → (r ≡ p → ⊥) → Sealed text p k
sealed-by text p k r e n = sealed-is text p k (goes-passed p (k * 2 + 1) (sealed_at text p k) r e n)

module _ (text : List ℕ) (p k : ℕ) (s : Sealed text p k) where
  -- each number that stands in a frame is a word
  pub number-word-at : (i x : ℕ) → i + 4 ≤ k → x ≡ number_at text (p + i * 2) → x < 4294967296
  number-word-at i x h e =
      let n : i + (4 + (k - (i + 4))) ≡ k = omega arith in
      let a = bytes-front text p i (4 + (k - (i + 4))) (rw (← n) at s).low in
      rw e (number_word text (p + i * 2) (bytes-front text (p + i * 2) 4 (k - (i + 4)) a.1).0)
