-- Laws of the rows of the profile: which records are included, how many have a size, and a row as words. Assumes nothing.
use mathlib.Core.Path.{◌≡◌, refl, sym, ap, ap₂, ◌∙◌, subst}
use mathlib.Core.Bool.{Bool, true, false, cond, ◌||◌}
use mathlib.Core.List.{List, [], ◌∷◌, ◌++◌, append-nil}
use Prim.Native.Nat.{ℕ, zero, suc, ◌+◌, ◌≤◌, ◌<◌}
use native.Mathlib.Nat.{lt_irrefl, le_antisymm}
use native.Mathlib.Numerals.{add-one}
use native.Mathlib.Omega.{arith}
use lib.Dec.{eqb}
use lib.ListN.{length, get_or, drop, set, length-set, length-append, get_or-replicate, drop_of_length-le, replicate}
use lib.Seq.{get_or-set_same, get_or-set_other}
use borrow.Author.Tests.{eq-eqb, ne_eqb}
use Rattle.lists.specs.Tests.{◌and◌, bit, count, chosen}
use Rattle.lists.specs.Lists.{any, filter, flat, tab, itself}
use Rattle.lists.specs.Inner.{Wrote}
use Rattle.lists.proofs.Cases.{on, on_same, clash, and-true, and-false-left}
use Rattle.lists.proofs.Tab.{tab-suc, drop-tab, length-tab, getD-tab}
use Rattle.lists.proofs.Count.{bit_le, count-ext, count-below, count_none}
use Rattle.lists.proofs.Filter.{filter-snoc}
use Rattle.lists.proofs.Flat.{flat-snoc}
use Rattle.layout.specs.Content.{Table}
use Rattle.layout.specs.Layout.{limit, vertex_limit, vertex_count, hyperedge_count, vertex_at, hyperedge_at, read_hyperedges, read_vertices, read}
use Rattle.layout.specs.Inner.{Formed}
use Rattle.marks.specs.Marks.{is_marked}
use Rattle.lists.proofs.Any.{any_at, any_of}
use Rattle.lookups.specs.State.{no_marks}
use Rattle.lookups.proofs.Marking.{no-marks-length}
use Rattle.properties.specs.Properties.{is_within, has_size, is_included, included_of_size, included, total_of, is_size, row, nestedness}
use Rattle.properties.specs.State.{Sets, Including, Classed, size_at, row_if}
use Rattle.properties.proofs.Blocks.{wrote_none, wrote-three}

-- ---- a search along the records: m is what `hyperedge_count` found, r what the code found of record i

module _ (ws : List ℕ) (m i a : ℕ) (e : m ≡ hyperedge_count ws) (whole : Bool) (inv : any (is_within (read limit ws) (hyperedge_at limit ws a)) (drop i (read_hyperedges limit ws)) ≡ whole) where
  turn : i < m → any (is_within (read limit ws) (hyperedge_at limit ws a)) (drop i (read_hyperedges limit ws))
      ≡ (is_within (read limit ws) (hyperedge_at limit ws a) (hyperedge_at limit ws i) || any (is_within (read limit ws) (hyperedge_at limit ws a)) (drop (i + 1) (read_hyperedges limit ws)))
  unfolding any
  turn h = ap (any (is_within (read limit ws) (hyperedge_at limit ws a))) (drop-tab (hyperedge_at limit ws) (hyperedge_count ws) i (omega arith))

  module _ (r : Bool) (q : r ≡ is_within (read limit ws) (hyperedge_at limit ws a) (hyperedge_at limit ws i)) (h : i < m) where
    pub some-on : r ≡ false → any (is_within (read limit ws) (hyperedge_at limit ws a)) (drop (i + 1) (read_hyperedges limit ws)) ≡ whole
    some-on f = sym (turn h ∙ rw (← q, f)) ∙ inv

    pub some-here : r ≡ true → true ≡ whole
    some-here f = sym (turn h ∙ rw (← q, f)) ∙ inv

  pub some-none : m ≤ i → false ≡ whole
  unfolding any
  some-none h = sym (ap (any (is_within (read limit ws) (hyperedge_at limit ws a))) (drop_of_length-le (read_hyperedges limit ws) {i = i} (rw length-tab (omega arith)))) ∙ inv

-- ---- the loop over a that marks the included records

pub including-none : (ws : List ℕ) → Including ws 0 no_marks
including-none ws = record { sized = no-marks-length; each = λ j h. absurd (lt_irrefl 0 (omega arith)) }

module _ {ws : List ℕ} {a : ℕ} {inc : List Bool} (w : Including ws a inc) where
  pub including-more : (r : Bool) → r ≡ is_included (read limit ws) (hyperedge_at limit ws a) → a < vertex_limit → Including ws (a + 1) (set inc a r)
  including-more r e h = record {
    sized = length-set inc a r ∙ w.sized;
    each = λ i l. on_same i a
        (λ s. rw (s, get_or-set_same inc a r false (omega (arith, w.sized))) e)
        (λ ne. get_or-set_other inc a i r false ne ∙ w.each i (omega arith));
  }

  pub including-end : (k : ℕ) → k ≡ hyperedge_count ws → a ≤ k → k ≤ a → Including ws (hyperedge_count ws) inc
  including-end k e x y = subst (λ (i : ℕ). Including ws i inc) (le_antisymm x y ∙ e) w

-- every record is marked
pub classed : (ws sizes : List ℕ) (m inc : List Bool) → Formed limit ws → Sets ws (hyperedge_count ws) m sizes → Including ws (hyperedge_count ws) inc
    → Classed ws sizes (replicate vertex_limit true) inc
classed ws sizes m inc f s i = record {
  counts = s.counts;
  whole = λ j h. get_or-replicate vertex_limit j true false (omega (arith, f.shape.hyperedges-le));
  included = i.each;
}

-- ---- how many pass

filter-count : {A : Type 0} (p : A → Bool) (g : ℕ → A) (n : ℕ) → length (filter p (tab g n)) ≡ count (λ j. p (g j)) n
unfolding filter tab
filter-count p g zero = refl
filter-count {A} p g (suc n) =
    ap length (ap (filter p) (tab-suc g n) ∙ filter-snoc p (tab g n) (g n))
    ∙ on (p (g n))
    (λ e. rw e (omega (arith, length-append (filter p (tab g n)) (g n ∷ []), filter-count p g n)))
    (λ e. rw e (omega (arith, filter-count p g n)))

module _ {A : Type 0} (p : A → Bool) (g : ℕ → A) (n : ℕ) where
  none_any : count (λ j. p (g j)) n ≡ 0 → any p (tab g n) ≡ false
  none_any z = on (any p (tab g n))
      (λ e.
      let r = any_at p (tab g n) (g 0) e in
      let h : r.0 < n = rw length-tab at r.1 in
      absurd (lt_irrefl 0 (omega (arith, count-below (λ j. p (g j)) n r.0 h (sym (ap p (getD-tab g n r.0 (g 0) h)) ∙ r.2)))))
      (λ e. e)

  some-any : (count (λ j. p (g j)) n ≡ 0 → ⊥) → any p (tab g n) ≡ true
  some-any z = on (any p (tab g n)) (λ e. e)
      (λ e. absurd (z (count_none (λ j. p (g j)) n (λ i h.
      on (p (g i))
      (λ y. clash (any_of p (tab g n) (g 0) i (rw length-tab h) (ap p (getD-tab g n i (g 0) h) ∙ y)) e)
      (λ y. y)))))

-- ---- the counts of a size: k is what `hyperedge_count` found

module _ (ws sizes : List ℕ) (all inc : List Bool) (w : Classed ws sizes all inc) (s k : ℕ) (e : k ≡ hyperedge_count ws) where
  total-count : count (size_at sizes all s) k ≡ count (λ j. has_size (read limit ws) s (hyperedge_at limit ws j)) (hyperedge_count ws)
  unfolding size_at has_size
  total-count =
      ap (count (size_at sizes all s)) e
      ∙ count-ext (size_at sizes all s) (λ j. has_size (read limit ws) s (hyperedge_at limit ws j)) (hyperedge_count ws)
      (λ j h. ap₂ (λ (x : ℕ) (b : Bool). eqb x s and b) (w.counts j h) (w.whole j h) ∙ and-true _)

  included-count : count (size_at sizes inc s) k ≡ included (read limit ws) s
  unfolding included included_of_size size_at has_size
  included-count =
      ap (count (size_at sizes inc s)) e
      ∙ count-ext (size_at sizes inc s) (λ j. included_of_size (read limit ws) s (hyperedge_at limit ws j)) (hyperedge_count ws)
      (λ j h. ap₂ (λ (x : ℕ) (b : Bool). eqb x s and b) (w.counts j h) (w.included j h))
      ∙ sym (filter-count (included_of_size (read limit ws) s) (hyperedge_at limit ws) (hyperedge_count ws))

  -- c is what `count_of_size` found of all records
  module _ (c : ℕ) (q : c ≡ count (size_at sizes all s) k) where
    total-is : c ≡ total_of (read limit ws) s
    unfolding total_of
    total-is = q ∙ total-count ∙ sym (filter-count (has_size (read limit ws) s) (hyperedge_at limit ws) (hyperedge_count ws))

    row-no : c ≡ 0 → row_if (read limit ws) s ≡ []
    unfolding row_if is_size
    row-no z = rw (none_any (has_size (read limit ws) s) (hyperedge_at limit ws) (hyperedge_count ws) (sym total-count ∙ sym q ∙ z))

    row-yes : (c ≡ 0 → ⊥) → row_if (read limit ws) s ≡ row (read limit ws) s
    unfolding row_if is_size
    row-yes z = rw (some-any (has_size (read limit ws) s) (hyperedge_at limit ws) (hyperedge_count ws) (λ y. z (q ∙ total-count ∙ y)))

    pub row-none : c ≡ 0 → 0 ≡ length (row_if (read limit ws) s)
    row-none z = sym (ap length (row-no z))

    pub row-three : (c ≡ 0 → ⊥) → 3 ≡ length (row_if (read limit ws) s)
    unfolding row
    row-three z = sym (ap length (row-yes z))

    pub row_kept : (out : List ℕ) → c ≡ 0 → Wrote (row_if (read limit ws) s) out 0 out
    row_kept out z = subst (λ (xs : List ℕ). Wrote xs out 0 out) (sym (row-no z)) (wrote_none out)

    pub row_wrote : (out : List ℕ) (d x y z : ℕ) → (c ≡ 0 → ⊥) → length (row_if (read limit ws) s) ≤ length out → d ≡ count (size_at sizes inc s) k
        → x ≡ s → y ≡ d → z ≡ c → Wrote (row_if (read limit ws) s) out 3 (set (set (set out 0 x) 1 y) 2 z)
    unfolding row
    row_wrote out d x y z n l o ex ey ez =
        let words : x ∷ y ∷ z ∷ [] ≡ row_if (read limit ws) s =
        ap (λ (u : ℕ). u ∷ y ∷ z ∷ []) ex ∙ ap₂ (λ (u v : ℕ). s ∷ u ∷ v ∷ []) (ey ∙ o ∙ included-count) (ez ∙ total-is) ∙ sym (row-yes n) in
        subst (λ (xs : List ℕ). Wrote xs out 3 (set (set (set out 0 x) 1 y) 2 z)) words (wrote-three x y z out (omega (arith, row-three n)))

pub row-most : (t : Table) (s : ℕ) → length (row_if t s) ≤ 3
unfolding row_if row
row-most t s = on (is_size t s) (λ e. rw e (omega arith)) (λ e. rw e (omega arith))

-- ---- all rows

flat-chosen : (f : ℕ → List ℕ) (p : ℕ → Bool) (g : ℕ → List ℕ) (n : ℕ) → ((s : ℕ) → g s ≡ cond (p s) (f s) []) → flat f (chosen p n) ≡ flat g (tab itself n)
unfolding flat chosen tab
flat-chosen f p g zero h = refl
flat-chosen f p g (suc n) h =
    on (p n)
    (λ e. rw e (flat-snoc f (chosen p n) n ∙ ap₂ ◌++◌ (flat-chosen f p g n h) (sym (h n ∙ rw e))))
    (λ e. rw e (flat-chosen f p g n h ∙ sym (append-nil (flat g (tab itself n))) ∙ ap (λ (r : List ℕ). flat g (tab itself n) ++ r) (sym (h n ∙ rw e))))
    ∙ sym (ap (flat g) (tab-suc itself n) ∙ flat-snoc g (tab itself n) n)

pub rows_are : (ws : List ℕ) (e : ℕ) → e ≡ vertex_count ws + 1 → flat (row_if (read limit ws)) (tab itself e) ≡ nestedness (read limit ws)
unfolding nestedness row_if
rows_are ws e q =
    ap (λ (k : ℕ). flat (row_if (read limit ws)) (tab itself k)) (q ∙ add-one (vertex_count ws) ∙ ap suc (sym (length-tab (vertex_at ws) (vertex_count ws))))
    ∙ sym (flat-chosen (row (read limit ws)) (is_size (read limit ws)) (row_if (read limit ws)) (suc (length (read_vertices ws))) (λ s. refl))

-- ---- one record, and the loop over j that counts: c so far, x is what `of_size` found

module _ (x s : ℕ) (marked : Bool) where
  pub size-other : (x ≡ s → ⊥) → 0 ≡ bit (eqb x s and marked)
  size-other ne = sym (ap bit (and-false-left (eqb x s) marked (ne_eqb x s ne)))

  pub size-marked : x ≡ s → marked ≡ true → 1 ≡ bit (eqb x s and marked)
  unfolding ◌and◌
  size-marked e m = rw (eq-eqb x s e, m)

  pub size-bare : x ≡ s → marked ≡ false → 0 ≡ bit (eqb x s and marked)
  unfolding ◌and◌
  size-bare e m = rw (eq-eqb x s e, m)

pub bit-most : (x : ℕ) (b : Bool) → x ≡ bit b → x ≤ 1
bit-most x b e = omega (arith, bit_le b)

module _ (sizes : List ℕ) (marks : List Bool) (s j c : ℕ) (e : c ≡ count (size_at sizes marks s) j) where
  pub size-more : (x : ℕ) → x ≡ bit (eqb (get_or sizes j 0) s and is_marked marks j) → c + x ≡ count (size_at sizes marks s) (j + 1)
  unfolding size_at
  size-more x q = rw (add-one j) (omega arith)
