-- The numbers of records, one after the other: from the least that may come to the greatest that leaves room for the rest. Assumes nothing.
use mathlib.Core.Path.{◌≡◌, refl}
use Prim.Native.Nat.{ℕ, zero, suc, ◌+◌, ◌-◌, ◌≤◌, ◌<◌}
use native.Mathlib.Numerals.{add-one}
use native.Mathlib.Omega.{arith}
use lib.Dec.{leb, ltb}
use borrow.Author.Tests.{le-leb, leb-true, lt-ltb, ltb-true}
use Rattle.lists.proofs.Cases.{test-ext}
use Rattle.frames.specs.Reading.{climbs_to, number_good}
use Rattle.reader.specs.Lines.{lowest, number_fits}

module _ (number : ℕ → ℕ) where
  climbs-from : (i : ℕ) → leb (lowest number i) (number i) ≡ climbs_to number i
  unfolding lowest climbs_to
  climbs-from zero = le-leb 0 (number 0) (omega arith)
  climbs-from (suc i) = test-ext (leb (number i + 1) (number (suc i))) (ltb (number i) (number (suc i)))
      (λ e. let h : number i + 1 ≤ number (suc i) = leb-true _ _ e in lt-ltb (number i) (number (suc i)) (omega arith))
      (λ e. let h : number i < number (suc i) = ltb-true _ _ e in le-leb (number i + 1) (number (suc i)) (omega arith))

  room_for : (n next i : ℕ) → n ≤ next → leb (number i) (next - (n - i)) ≡ leb (number i + (n - i)) next
  room_for n next i h = test-ext (leb (number i) (next - (n - i))) (leb (number i + (n - i)) next)
      (λ e. let g : number i ≤ next - (n - i) = leb-true _ _ e in le-leb (number i + (n - i)) next (omega arith))
      (λ e. let g : number i + (n - i) ≤ next = leb-true _ _ e in le-leb (number i) (next - (n - i)) (omega arith))

  -- record i of n: the code's test is the rule
  pub number-good : (n next i : ℕ) → n ≤ next → number_fits (number i) (lowest number i) (next - (n - i)) ≡ number_good number n next i
  unfolding number_fits number_good
  number-good n next i h = rw (climbs-from i, room_for n next i h)

  pub lowest-first : 0 ≡ lowest number 0
  unfolding lowest
  lowest-first = refl

  pub lowest-next : (i x : ℕ) → x ≡ number i → x + 1 ≡ lowest number (i + 1)
  unfolding lowest
  lowest-next i x e = rw (add-one i, e)
