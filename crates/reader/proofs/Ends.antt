-- The place behind a line: what it says of the test, and what `line_end` finds. Assumes nothing.
use mathlib.Core.Path.{◌≡◌, refl, sym, ap, ◌∙◌}
use mathlib.Core.Bool.{Bool, true, false, not, cond}
use mathlib.Core.List.{List}
use Prim.Native.Nat.{ℕ, ◌+◌, ◌-◌, ◌≤◌, ◌<◌}
use native.Mathlib.Omega.{arith}
use lib.Dec.{eqb, leb}
use lib.ListN.{length, get_or}
use borrow.Author.Tests.{le-leb, lt-leb, eq-eqb, ne_eqb, not-true, not-false}
use Rattle.lists.specs.Tests.{◌and◌}
use Rattle.lists.proofs.Cases.{on}
use Rattle.reader.specs.Lines.{behind, line_end}

module _ (p width : ℕ) where
  as-tested : (b c : Bool) → b ≡ c → behind b p width ≡ cond c (p + width) p
  unfolding behind
  as-tested b c e = ap (λ (t : Bool). cond t (p + width) p) e

  -- the place of a line that fails its test, and of one that passes
  pub behind-failed : (b : Bool) → false ≡ b → p ≡ behind b p width
  behind-failed b e = sym (as-tested b false (sym e))

  pub behind-passed : (b : Bool) (r : ℕ) → true ≡ b → r ≡ p + width → r ≡ behind b p width
  behind-passed b r e q = q ∙ sym (as-tested b true (sym e))

  -- the same place says that the test failed; another says that it passed, and lies behind the line
  module _ (b : Bool) (r : ℕ) (e : r ≡ behind b p width) where
    pub stays-failed : 0 < width → r ≡ p → b ≡ false
    stays-failed w q = on b (λ t. absurd (omega (arith, e ∙ as-tested b true t))) (λ t. t)

    module _ (n : r ≡ p → ⊥) where
      pub goes-passed : b ≡ true
      goes-passed = on b (λ t. t) (λ t. absurd (n (e ∙ as-tested b false t)))

      pub goes_by : r ≡ p + width
      goes_by = e ∙ as-tested b true goes-passed

  -- a further test of the same line
  module _ (b c : Bool) where
    pub further-failed : c ≡ b → not c ≡ true → p ≡ behind b p width
    further-failed e n = behind-failed b (sym (not-true c n) ∙ e)

    pub further-passed : (a : Bool) (r : ℕ) → r ≡ behind a p width → (r ≡ p → ⊥) → c ≡ b → not c ≡ false → r ≡ behind b p width
    further-passed a r q n e t = behind-passed b r (sym (not-false c t) ∙ e) (goes_by a r q n)

module _ (text : List ℕ) (p width : ℕ) where
  pub end-outside : length text < p → p ≡ line_end text p width
  unfolding line_end behind ◌and◌
  end-outside h = rw (lt-leb (p + width) (length text) (omega arith))

  pub end_short : p ≤ length text → length text - p < width → p ≡ line_end text p width
  unfolding line_end behind ◌and◌
  end_short h l = rw (lt-leb (p + width) (length text) (omega arith))

  pub end_none : width ≡ 0 → p ≡ line_end text p width
  unfolding line_end behind
  end_none e = sym (same (leb (p + width) (length text) and eqb (get_or text (p + (width - 1)) 0) 10))
    where
      same : (b : Bool) → cond b (p + width) p ≡ p
      same true = omega arith
      same false = refl

  module _ (h : p ≤ length text) (room : width ≤ length text - p) where
    pub end-other : (get_or text (p + (width - 1)) 0 ≡ 10 → ⊥) → p ≡ line_end text p width
    unfolding line_end behind ◌and◌
    end-other n = rw (le-leb (p + width) (length text) (omega arith), ne_eqb (get_or text (p + (width - 1)) 0) 10 n)

    pub end-here : get_or text (p + (width - 1)) 0 ≡ 10 → p + width ≡ line_end text p width
    unfolding line_end behind ◌and◌
    end-here e = rw (le-leb (p + width) (length text) (omega arith), eq-eqb (get_or text (p + (width - 1)) 0) 10 e)
