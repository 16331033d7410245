-- Laws of the loops that mark records: those that pass a test, and those that are held. Assumes nothing.
use mathlib.Core.Path.{◌≡◌, refl, sym, ap, ap₂, ◌∙◌, subst}
use mathlib.Core.Bool.{Bool, true, false, not, ◌||◌}
use mathlib.Core.List.{List}
use Prim.Native.Nat.{ℕ, ◌+◌, ◌*◌, ◌≤◌, ◌<◌}
use native.Mathlib.Nat.{le_antisymm}
use native.Mathlib.Numerals.{add-one}
use native.Mathlib.Omega.{arith}
use lib.Dec.{eqb}
use lib.ListN.{length, get_or, set, length-set}
use lib.Seq.{get_or-set_same, get_or-set_other}
use borrow.Author.Tests.{eq-eqb, ne_eqb}
use Rattle.lists.specs.Tests.{◌and◌}
use Rattle.lists.specs.Lists.{any, tab, up_to}
use Rattle.lists.proofs.Cases.{on_same, or-false, or_right, and-true, and-false-right}
use Rattle.lists.proofs.Tab.{tab-suc}
use Rattle.lists.proofs.Any.{any_snoc}
use Rattle.layout.specs.Layout.{vertex_limit}
use Rattle.marks.specs.Marks.{is_marked}
use Rattle.graph.specs.Reach.{matrix}
use Rattle.lookups.specs.State.{no_marks}
use Rattle.lookups.proofs.Marking.{no-mark, no-marks-length}
use Rattle.desk.specs.States.{reviewed, released}
use Rattle.desk_looks.specs.Held.{MarkedWhere, record_in, record_free, holds_record, Held, Joined}

nothing-below : {A : Type 0} (i : ℕ) → i < 0 → A
nothing-below i h = absurd (let z : ◌≡◌ {A = ℕ} 0 1 = omega arith in omega arith)

-- ---- a loop over k that marks the records that pass a test

pub where-none : (p : ℕ → Bool) → MarkedWhere p 0 no_marks
where-none p = record { sized = no-marks-length; each = λ i h. nothing-below i h }

module _ {p : ℕ → Bool} {k : ℕ} {marks : List Bool} (w : MarkedWhere p k marks) where
  -- b is what the code found of record k
  where-more : (b : Bool) → b ≡ p k → k < vertex_limit → MarkedWhere p (k + 1) (set marks k b)
  where-more b e h = record {
    sized = length-set marks k b ∙ w.sized;
    each = λ i l. on_same i k
        (λ q. rw (q, get_or-set_same marks k b false (omega (arith, w.sized))) e)
        (λ ne. get_or-set_other marks k i b false ne ∙ w.each i (omega arith));
  }

  pub where-end : (n : ℕ) → k ≤ n → n ≤ k → MarkedWhere p n marks
  where-end n a b = subst (λ (i : ℕ). MarkedWhere p i marks) (le_antisymm a b) w

module _ (ss : List ℕ) (n k : ℕ) (marks : List Bool) (h : k < n) (most : n ≤ vertex_limit) where
  pub state-more : (x : ℕ) → MarkedWhere (record_in ss x) k marks → MarkedWhere (record_in ss x) (k + 1) (set marks k (eqb (get_or ss k 0) x))
  unfolding record_in
  state-more x w = where-more w (eqb (get_or ss k 0) x) refl (omega arith)

  -- b is what `is_free` returned
  pub free_more : (held : List Bool) (b : Bool) → b ≡ (eqb (get_or ss k 0) reviewed and not (is_marked held k)) → MarkedWhere (record_free ss held) k marks
      → MarkedWhere (record_free ss held) (k + 1) (set marks k b)
  unfolding record_free
  free_more held b e w = where-more w b e (omega arith)

pub held-not-free : (x : ℕ) (held : Bool) → held ≡ true → false ≡ (eqb x reviewed and not held)
held-not-free x held h = sym (and-false-right (eqb x reviewed) (not held) (ap not h))

pub unheld-free : (x : ℕ) (held : Bool) → held ≡ false → eqb x reviewed ≡ (eqb x reviewed and not held)
unheld-free x held h = sym (ap (λ (b : Bool). eqb x reviewed and not b) h ∙ and-true (eqb x reviewed))

-- ---- a loop over k that marks a row: the records behind are as they were

pub record Joining (p : ℕ → Bool) (k : ℕ) (old new : List Bool) : Type 0 where
  pub first : Joined p k old new
  pub rest : (i : ℕ) → k ≤ i → is_marked new i ≡ is_marked old i

pub joining-none : (p : ℕ → Bool) (old : List Bool) → Joining p 0 old old
joining-none p old = record { first = record { sized = refl; each = λ i h. nothing-below i h }; rest = λ i h. refl }

module _ {p : ℕ → Bool} {k : ℕ} {old new : List Bool} (j : Joining p k old new) where
  joining-more : (b : Bool) → b ≡ (is_marked new k || p k) → k < length new → Joining p (k + 1) old (set new k b)
  joining-more b e h = record {
    first = record {
      sized = length-set new k b ∙ j.first.sized;
      each = λ i l. on_same i k
          (λ q. rw (q, get_or-set_same new k b false h) (e ∙ ap (λ (x : Bool). x || p k) (j.rest k (omega arith))))
          (λ ne. get_or-set_other new k i b false ne ∙ j.first.each i (omega arith));
    };
    rest = λ i l. get_or-set_other new k i b false (λ q. nothing-below k (omega arith)) ∙ j.rest i (omega arith);
  }

  pub joining-end : (n : ℕ) → k ≤ n → n ≤ k → Joined p n old new
  joining-end n a b = subst (λ (i : ℕ). Joined p i old new) (le_antisymm a b) j.first

-- b is what `either` made of the mark of record k
pub row_more : (m : List ℕ) (u k : ℕ) (old new : List Bool) (b : Bool) → Joining (matrix m u) k old new → b ≡ (is_marked new k || eqb (get_or m (u * 256 + k) 0) 1)
    → k < 256 → length new ≡ vertex_limit → Joining (matrix m u) (k + 1) old (set new k b)
row_more m u k old new b j e h l = joining-more j b e (omega arith)

pub either-marked : (held : Bool) (x : ℕ) → x ≡ 1 → true ≡ (held || eqb x 1)
either-marked held x h = sym (or_right held (eqb x 1) (eq-eqb x 1 h))

pub either_same : (held : Bool) (x : ℕ) → (x ≡ 1 → ⊥) → held ≡ (held || eqb x 1)
either_same held x h = sym (ap (λ (b : Bool). held || b) (ne_eqb x 1 h) ∙ or-false held)

-- ---- a loop over u that marks what the records hold

pub held_none : (E : ℕ → ℕ → Bool) (ss : List ℕ) → Held E ss 0 no_marks
unfolding any tab
held_none E ss = record { sized = no-marks-length; each = λ k h. no-mark k h }

module _ {E : ℕ → ℕ → Bool} {ss : List ℕ} {u : ℕ} {held : List Bool} (w : Held E ss u held) where
  one_more_lem : (k : ℕ) → any (holds_record E ss k) (up_to (u + 1)) ≡ (any (holds_record E ss k) (up_to u) || holds_record E ss k u)
  one_more_lem k = rw (add-one u, tab-suc (λ (i : ℕ). i) u) (any_snoc (holds_record E ss k) (up_to u) u)

  -- record u is released: it holds none
  pub held_on : get_or ss u 0 ≡ released → Held E ss (u + 1) held
  unfolding holds_record
  held_on e = record {
    sized = w.sized;
    each = λ k h. w.each k h ∙ sym (one_more_lem k
        ∙ ap (λ (b : Bool). any (holds_record E ss k) (up_to u) || b) (and-false-right (E u k) _ (ap not (eq-eqb (get_or ss u 0) released e))) ∙ or-false _);
  }

  -- record u is not: next is what `hold_row` left
  pub held_more : (next : List Bool) → (get_or ss u 0 ≡ released → ⊥) → Joined (E u) vertex_limit held next → Held E ss (u + 1) next
  unfolding holds_record
  held_more next ne j = record {
    sized = j.sized ∙ w.sized;
    each = λ k h. j.each k h
        ∙ ap₂ ◌||◌ (w.each k h) (sym (ap (λ (b : Bool). E u k and not b) (ne_eqb (get_or ss u 0) released ne) ∙ and-true (E u k)))
        ∙ sym (one_more_lem k);
  }

  pub held-end : (n : ℕ) → u ≤ n → n ≤ u → Held E ss n held
  held-end n a b = subst (λ (i : ℕ). Held E ss i held) (le_antisymm a b) w
