-- Laws of the matrix of member sets and of its sizes. Assumes nothing.
use mathlib.Core.Path.{◌≡◌, refl, sym, ap, ◌∙◌, subst}
use mathlib.Core.Bool.{Bool, true, false, not, cond}
use mathlib.Core.List.{List}
use Prim.Native.Nat.{ℕ, ◌+◌, ◌*◌, ◌≤◌, ◌<◌}
use native.Mathlib.Nat.{lt_irrefl, le_antisymm}
use native.Mathlib.Numerals.{add-one}
use native.Mathlib.Omega.{arith}
use lib.Dec.{eqb}
use lib.ListN.{length, get_or, set, length-set}
use lib.Seq.{get_or-set_same, get_or-set_other}
use borrow.Author.Tests.{not-true, not-false}
use Rattle.lists.proofs.Memb.{any-memb}
use Rattle.lists.specs.Tests.{◌and◌, every, count}
use Rattle.lists.specs.Lists.{any, memb}
use Rattle.lists.proofs.Cases.{on, on_same, clash, and-true, and-false-right}
use Rattle.lists.proofs.Tab.{length-tab}
use Rattle.lists.proofs.Count.{count-ext}
use Rattle.lists.proofs.Every.{every-at, every_of, every-end}
use Rattle.layout.specs.Content.{live_vertices}
use Rattle.layout.specs.Layout.{limit, vertex_limit, vertex_count, hyperedge_count, vertex_at, hyperedge_at, members_at, read_vertices, read}
use Rattle.layout.specs.Inner.{Formed}
use Rattle.layout.proofs.Read.{live-length}
use Rattle.marks.specs.Marks.{is_marked}
use Rattle.steps.specs.Inner.{cell}
use Rattle.lookups.specs.State.{some_of, no_marks, MarkedBy}
use Rattle.properties.specs.Properties.{member_set, set_size, under, within, is_within}
use Rattle.properties.specs.State.{row_of, SetOf, RowPut, Sets}
use Rattle.properties.proofs.Marking.{marks-are}
use Rattle.properties.proofs.Subsets.{strict-no, strict-if, within-ext}

-- ---- the marks of a record: ms is what `members_formed` returned

pub set-marked : (ws : List ℕ) → Formed limit ws → (j : ℕ) (ms : List ℕ) (marks : List Bool) → ms ≡ members_at limit ws j
    → MarkedBy (live_vertices (read limit ws)) (some_of eqb ms) no_marks marks → SetOf ws j (is_marked marks)
unfolding some_of member_set
set-marked ws f j ms marks e b i h =
    marks-are (live_vertices (read limit ws)) (λ y. any (eqb y) ms) marks b i (omega (arith, f.shape.vertices-le)) (rw live-length h)
    ∙ any-memb (get_or (live_vertices (read limit ws)) i 0) ms ∙ ap (memb (get_or (live_vertices (read limit ws)) i 0)) e

-- ---- the loop over i that puts a row

pub putting-none : (marks : List Bool) (j : ℕ) (old : List Bool) → RowPut marks j old 0 old
putting-none marks j old = record { sized = refl; here = λ i h. absurd (lt_irrefl 0 (omega arith)); rest = λ r i h ne. refl }

module _ {marks : List Bool} {j : ℕ} {old : List Bool} {k : ℕ} {new : List Bool} (w : RowPut marks j old k new) where
  pub putting-more : j < vertex_limit → length old ≡ vertex_limit * vertex_limit → k < vertex_limit → RowPut marks j old (k + 1) (set new (cell j k) (is_marked marks k))
  putting-more hj n h = record {
    sized = length-set new (cell j k) (is_marked marks k) ∙ w.sized;
    here = λ i l. on_same i k
        (λ s. rw (s, get_or-set_same new (cell j k) (is_marked marks k) false (omega (arith, w.sized))))
        (λ ne. get_or-set_other new (cell j k) (cell j i) (is_marked marks k) false (λ q. ne (omega arith)) ∙ w.here i (omega arith));
    rest = λ r i l ne. get_or-set_other new (cell j k) (cell r i) (is_marked marks k) false (λ q. ne (omega arith)) ∙ w.rest r i l ne;
  }

  pub putting-end : vertex_limit ≤ k → RowPut marks j old vertex_limit new
  putting-end h = record { sized = w.sized; here = λ i l. w.here i (omega arith); rest = w.rest }

-- ---- the loop over j along the records

vertices-length : (ws : List ℕ) → length (read_vertices ws) ≡ vertex_count ws
vertices-length ws = length-tab (vertex_at ws) (vertex_count ws)

pub sets-none : (ws : List ℕ) (m : List Bool) (sizes : List ℕ) → length m ≡ vertex_limit * vertex_limit → length sizes ≡ vertex_limit → Sets ws 0 m sizes
sets-none ws m sizes a b = record {
  marks-sized = a;
  sizes-sized = b;
  marks = λ j h. absurd (lt_irrefl 0 (omega arith));
  counts = λ j h. absurd (lt_irrefl 0 (omega arith));
}

module _ {ws : List ℕ} {j : ℕ} {m : List Bool} {sizes : List ℕ} (w : Sets ws j m sizes) where
  -- marks is what `member_marks` returned, next what `put_row` left, c what `count_marked` found
  pub sets_more : (marks next : List Bool) (n c : ℕ) → Formed limit ws → n ≡ vertex_count ws → j < hyperedge_count ws → SetOf ws j (is_marked marks) → RowPut marks j m vertex_limit next
      → c ≡ count (is_marked marks) n → Sets ws (j + 1) next (set sizes j c)
  unfolding set_size
  sets_more marks next n c f e h s r q =
      let below : j < vertex_limit = omega (arith, f.shape.hyperedges-le) in
      record {
        marks-sized = r.sized ∙ w.marks-sized;
        sizes-sized = length-set sizes j c ∙ w.sizes-sized;
        marks = λ i l. on_same i j
            (λ o. subst (λ (x : ℕ). SetOf ws x (row_of next x)) (sym o) (λ x y. r.here x (omega (arith, f.shape.vertices-le)) ∙ s x y))
            (λ ne. λ x y. r.rest i x (omega (arith, f.shape.vertices-le)) ne ∙ w.marks i (omega arith) x y);
        counts = λ i l. on_same i j
            (λ o. rw (o, get_or-set_same sizes j c 0 (omega (arith, w.sizes-sized))) (q ∙ counted))
            (λ ne. get_or-set_other sizes j i c 0 ne ∙ w.counts i (omega arith));
      }
    where
      counted : count (is_marked marks) n ≡ count (member_set (read limit ws) (hyperedge_at limit ws j)) (length (read_vertices ws))
      counted =
          ap (count (is_marked marks)) (e ∙ sym (vertices-length ws))
          ∙ count-ext (is_marked marks) (member_set (read limit ws) (hyperedge_at limit ws j)) (length (read_vertices ws)) (λ i l. s i (rw vertices-length at l))

  pub sets_end : (k : ℕ) → k ≡ hyperedge_count ws → j ≤ k → k ≤ j → Sets ws (hyperedge_count ws) m sizes
  sets_end k e a b = subst (λ (i : ℕ). Sets ws i m sizes) (le_antisymm a b ∙ e) w

-- ---- one set within another

-- the code tested `!p` and then `!q`
module _ (ok p q : Bool) where
  pub still-bare : not p ≡ true → ok ≡ (ok and cond p q true)
  still-bare h = rw (not-true p h) (sym (and-true ok))

  pub still-no : not p ≡ false → not q ≡ true → false ≡ (ok and cond p q true)
  still-no h k = sym (and-false-right ok (cond p q true) (rw (not-false p h) (not-true q k)))

  pub still-yes : not p ≡ false → not q ≡ false → ok ≡ (ok and cond p q true)
  still-yes h k = rw (not-false p h, not-false q k) (sym (and-true ok))

module _ (m : List Bool) (a b : ℕ) where
  -- the loop over i along a part: ok so far, r is what `still` found
  module _ (i : ℕ) (ok : Bool) (e : ok ≡ every (under (row_of m a) (row_of m b)) i) where
    pub part-more : (r : Bool) → r ≡ (ok and cond (is_marked m (cell a i)) (is_marked m (cell b i)) true) → r ≡ every (under (row_of m a) (row_of m b)) (i + 1)
    unfolding under every
    part-more r q = rw (add-one i, ← e) q

    pub part-all : (to : ℕ) → i ≤ to → to ≤ i → ok ≡ every (under (row_of m a) (row_of m b)) to
    part-all to x y = e ∙ ap (every (under (row_of m a) (row_of m b))) (le_antisymm x y)

  -- the loop over the parts: r is what `part_within` found of the records below e
  module _ (n e : ℕ) (r : Bool) (q : r ≡ every (under (row_of m a) (row_of m b)) e) where
    pub within_on : not r ≡ false → every (under (row_of m a) (row_of m b)) e ≡ true
    within_on h = sym q ∙ not-false r h

    pub within-no : e ≤ n → not r ≡ true → false ≡ within n (row_of m a) (row_of m b)
    unfolding within
    within-no l h =
        on (every (under (row_of m a) (row_of m b)) n)
        (λ y. clash (every_of (under (row_of m a) (row_of m b)) e (λ i x. every-at (under (row_of m a) (row_of m b)) n i y (omega arith))) (sym q ∙ not-true r h))
        (λ y. sym y)

  pub within_end : (n i : ℕ) → every (under (row_of m a) (row_of m b)) i ≡ true → i ≤ n → n ≤ i → true ≡ within n (row_of m a) (row_of m b)
  unfolding within
  within_end n i inv x y = every-end (under (row_of m a) (row_of m b)) n i inv x y

-- ---- strictly: the code compared the sizes of records a and b

module _ (ws : List ℕ) (m : List Bool) (sizes : List ℕ) (w : Sets ws (hyperedge_count ws) m sizes) (a b : ℕ) (ha : a < hyperedge_count ws) (hb : b < hyperedge_count ws) where
  pub sizes-no : get_or sizes b 0 ≤ get_or sizes a 0 → false ≡ is_within (read limit ws) (hyperedge_at limit ws a) (hyperedge_at limit ws b)
  unfolding is_within set_size
  sizes-no h = strict-no (length (read_vertices ws)) (member_set (read limit ws) (hyperedge_at limit ws a)) (member_set (read limit ws) (hyperedge_at limit ws b)) (omega (arith, w.counts a ha, w.counts b hb))

  pub sizes-if : (n : ℕ) (r : Bool) → n ≡ vertex_count ws → get_or sizes a 0 < get_or sizes b 0 → r ≡ within n (row_of m a) (row_of m b)
      → r ≡ is_within (read limit ws) (hyperedge_at limit ws a) (hyperedge_at limit ws b)
  unfolding is_within set_size
  sizes-if n r e h q =
      q ∙ within-ext n (row_of m a) (row_of m b) (member_set (read limit ws) (hyperedge_at limit ws a)) (member_set (read limit ws) (hyperedge_at limit ws b))
      (λ i l. w.marks a ha i (omega arith)) (λ i l. w.marks b hb i (omega arith))
      ∙ ap (λ (k : ℕ). within k (member_set (read limit ws) (hyperedge_at limit ws a)) (member_set (read limit ws) (hyperedge_at limit ws b))) (e ∙ sym (vertices-length ws))
      ∙ strict-if (length (read_vertices ws)) (member_set (read limit ws) (hyperedge_at limit ws a)) (member_set (read limit ws) (hyperedge_at limit ws b)) (omega (arith, w.counts a ha, w.counts b hb))
