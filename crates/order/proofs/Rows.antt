-- A row of marks added to the counts, or taken from them, number by number. Assumes nothing.
use mathlib.Core.Path.{◌≡◌, refl, sym, ap, ◌∙◌}
use mathlib.Core.Bool.{Bool, true}
use mathlib.Core.List.{List}
use Prim.Native.Nat.{ℕ, ◌+◌, ◌≤◌, ◌<◌}
use native.Mathlib.Nat.{not-suc-le-zero}
use native.Mathlib.Omega.{arith}
use lib.ListN.{length, get_or, set, length-set}
use lib.Seq.{get_or-set_same, get_or-set_other}
use Rattle.lists.specs.Tests.{bit}
use Rattle.lists.proofs.Cases.{on_same}
use Rattle.lists.proofs.Count.{count-le}
use Rattle.order.specs.State.{Degrees, Row, Part, Owed}

pub part-first : (E : ℕ → ℕ → Bool) (v : ℕ) (d : List ℕ) → length d ≡ 256 → Part E v 0 d d
part-first E v d h = record { long = h; longer = h; is = λ i l. absurd (not-suc-le-zero l); same = λ i _. refl }

module _ {E : ℕ → ℕ → Bool} {v w : ℕ} {d d' : List ℕ} (p : Part E v w d d') where
  pub part_end : {n : ℕ} → n ≤ w → Row E n v d d'
  part_end h = record { long = p.long; longer = p.longer; is = λ i l. p.is i (omega arith) }

  -- a count before it is added to, and before it is taken from
  pub part_small : {n : ℕ} → n ≤ 256 → v < n → Degrees E n v d → w < n → get_or d' w 0 ≤ 256
  part_small b lv g l = omega (arith, p.same w (omega arith), g.is w l, count-le (λ x. E x w) v)

  pub part-owed : {n : ℕ} → Owed E n v d' → w < n → E v w ≡ true → 0 < get_or d w 0
  part-owed o l e = omega (arith, p.same w (omega arith), o.is w l e)

  module _ {n : ℕ} (b : n ≤ 256) (h : w < n) (x : ℕ) where
    pub part-added : x ≡ get_or d' w 0 + bit (E v w) → Part E v (w + 1) d (set d' w x)
    part-added e = record {
      long = p.long;
      longer = length-set d' w x ∙ p.longer;
      is = λ i l. on_same i w
          (λ s. rw s (get_or-set_same d' w x 0 (omega (arith, p.longer)) ∙ e ∙ ap (λ (y : ℕ). y + bit (E v w)) (p.same w (omega arith))))
          (λ ne. get_or-set_other d' w i x 0 ne ∙ p.is i (omega arith));
      same = λ i l. get_or-set_other d' w i x 0 (λ s. not-below i (omega arith)) ∙ p.same i (omega arith);
    }
      where
        not-below : (i : ℕ) → i < i → ⊥
        not-below i h = omega arith

    pub part-taken : get_or d w 0 ≡ x + bit (E v w) → Part E v (w + 1) (set d w x) d'
    part-taken e = record {
      long = length-set d w x ∙ p.long;
      longer = p.longer;
      is = λ i l. on_same i w
          (λ s. rw s (p.same w (omega arith) ∙ e ∙ ap (λ (y : ℕ). y + bit (E v w)) (sym (get_or-set_same d w x 0 (omega (arith, p.long))))))
          (λ ne. p.is i (omega arith) ∙ ap (λ (y : ℕ). y + bit (E v i)) (sym (get_or-set_other d w i x 0 ne)));
      same = λ i l. p.same i (omega arith) ∙ sym (get_or-set_other d w i x 0 (λ s. not-below i (omega arith)));
    }
      where
        not-below : (i : ℕ) → i < i → ⊥
        not-below i h = omega arith
