-- Laws of numbers in decimal: the last digit, and those before it. Assumes nothing.
use mathlib.Core.Path.{◌≡◌, sym, ap, ◌∙◌}
use mathlib.Core.List.{List, [], ◌∷◌, ◌++◌}
use Prim.Native.Nat.{ℕ, zero, suc, ◌+◌, ◌*◌, ◌/◌, ◌%◌, ◌≤◌, ◌<◌}
use native.Mathlib.Omega.{arith}
use lib.Dec.{ltb}
use borrow.Author.Tests.{lt-ltb, le-ltb}
use Rattle.lists.proofs.Cases.{on}
use Rattle.wording.specs.Texts.{digit, spelled, decimal}
use Rattle.wording.specs.Pages.{Page, page, write_byte, write}
use Rattle.wording.proofs.Writing.{one_byte, then}

-- the numbers of at most k digits are those below it
tens : ℕ → ℕ
tens zero = 1
tens (suc k) = 10 * tens k

-- more room for digits adds none
spelled-more : (k n : ℕ) → n < tens (suc k) → spelled (suc (suc k)) n ≡ spelled (suc k) n
unfolding spelled tens
spelled-more zero n h = rw (lt-ltb n 10 (omega arith))
spelled-more (suc k) n h =
    on (ltb n 10) (λ e. rw e)
    (λ e. rw e (ap (λ (l : List ℕ). l ++ (digit (n % 10) ∷ [])) (spelled-more k (n / 10) (omega arith))))

pub decimal-low : (n : ℕ) → n < 10 → decimal n ≡ digit n ∷ []
unfolding decimal spelled
decimal-low n h = rw (lt-ltb n 10 h)

pub decimal-high : (n : ℕ) → 10 ≤ n → n < 18446744073709551616 → decimal n ≡ decimal (n / 10) ++ (digit (n % 10) ∷ [])
unfolding decimal spelled tens
decimal-high n h l =
    rw (le-ltb n 10 h) (ap (λ (d : List ℕ). d ++ (digit (n % 10) ∷ [])) (sym (spelled-more 18 (n / 10) (omega arith))))

-- the digits as they are written
module _ (n : ℕ) (p : Page) (c : List ℕ) (q : ℕ) where
  pub one-digit : n < 10 → page c q ≡ write_byte (48 + n) p → page c q ≡ write (decimal n) p
  one-digit h e = rw (decimal-low n h, one_byte) e

  pub last-digit : (b : List ℕ) (r : ℕ) → 10 ≤ n → n < 18446744073709551616 → page b r ≡ write (decimal (n / 10)) p → page c q ≡ write_byte (48 + n % 10) (page b r)
      → page c q ≡ write (decimal n) p
  last-digit b r h l e f = rw (decimal-high n h l) (then p b c _ _ r q e (f ∙ sym (one_byte _ _)))
