-- The entries of an order, one after the other, and what is answered of it. Assumes nothing.
use Rattle.std.specs.Prelude.{Option, Some, None, Ok, Err}
use mathlib.Core.Path.{◌≡◌, refl, sym, ap, ap₂, ◌∙◌}
use mathlib.Core.Bool.{Bool, true, false, not, ◌||◌, or_comm}
use mathlib.Core.List.{List, [], ◌∷◌, ◌++◌}
use Prim.Native.Nat.{ℕ, suc, ◌+◌, ◌≤◌, ◌<◌}
use native.Mathlib.Numerals.{add-one}
use native.Mathlib.Omega.{arith}
use lib.Dec.{eqb, ltb}
use lib.ListN.{length, get_or, take, drop, set, length-set}
use lib.Seq.{take-suc, get_or-set_same, get_or-set_other}
use borrow.Author.Tests.{ltb-true, lt-ltb, le-ltb}
use Rattle.lists.specs.Tests.{◌and◌, bit}
use Rattle.lists.specs.Lists.{all, any, memb, up_to}
use Rattle.lists.proofs.Cases.{on, on_same, clash, test-ext, and_left, and_right, and_both}
use Rattle.lists.proofs.Tab.{length-tab, getD-tab}
use Rattle.lists.proofs.Any.{any-more, any_at, any_of}
use Rattle.lists.proofs.All.{all-at, all_snoc}
use Rattle.lists.proofs.Memb.{memb-at, memb-getD, memb-snoc-self, memb-snoc-other}
use Rattle.lists.proofs.Ascend.{ascending-apart}
use Rattle.layout.specs.declared.Refusal.TheVariants.{BadOrder}
use Rattle.layout.specs.Content.{Table, live_vertices, is_live, position}
use Rattle.layout.specs.Layout.{limit, vertex_limit, vertex_count, read}
use Rattle.layout.specs.Inner.{Formed}
use Rattle.layout.specs.Steps.{has_step}
use Rattle.layout.specs.Answers.{Result, result_of}
use Rattle.layout.proofs.Position.{position-found, found-live, missing-dead}
use Rattle.layout.proofs.Read.{live-length, live-ascends}
use Rattle.marks.specs.Marks.{is_marked}
use Rattle.lookups.specs.State.{no_marks}
use Rattle.lookups.proofs.Marking.{no-mark, no-marks-length}
use Rattle.graph.specs.Reach.{matrix}
use Rattle.steps.specs.Matrices.{steps_between}
use Rattle.steps.specs.Inner.{Holds}
use Rattle.steps.proofs.Holds.{holds-matrix}
use Rattle.edits.specs.Results.{first_passing_from, first_passing}
use Rattle.edits.proofs.Passing.{passing-on, passing-here, passing-none}
use Rattle.desk.specs.Orders.{at_fault, first_fault, stops_short, accept_result}
use Rattle.desk_order.specs.Placed.{meets_at, misplaced, Placed, PlacedNext, Judged, on_length}

-- a mark of the matrix is of a record that is there
marked-within : (E : ℕ → ℕ → Bool) (n : ℕ) (m : List ℕ) → Holds E n m → (i j : ℕ) → i < vertex_limit → j < vertex_limit → matrix m i j ≡ true → j < n
marked-within E n m w i j hi hj e = on (ltb i n and ltb j n and E i j)
    (λ q. ltb-true j n (and_left (ltb j n) (E i j) (and_right (ltb i n) _ q)))
    (λ q. clash e (ap (λ (x : ℕ). eqb x 1) (w.entry i j hi hj ∙ ap bit q)))

-- ---- entry i: p is what `find_vertex` returned

module _ (ws order : List ℕ) (i : ℕ) (p : Option ℕ) (e : p ≡ position (get_or order i 0) (live_vertices (read limit ws))) (placed : List Bool) where
  abbrev t : Table
  t = read limit ws

  -- the numbers of the records, the vertex of the entry, and the entries before it
  abbrev live : List ℕ
  live = live_vertices t

  abbrev v : ℕ
  v = get_or order i 0

  abbrev before : List ℕ
  before = take i order

  -- what is left to ask of a live vertex
  abbrev asked : Bool → Bool
  asked there = not there || (memb v before || any (has_step t v) (take (suc i) order))

  pub not_live : p ≡ None → Judged t order i true placed
  unfolding at_fault
  not_live h = record { told = sym (ap asked (missing-dead v live (sym e ∙ h))); placed = λ q. clash refl q }

  module _ (f : Formed limit ws) (k : ℕ) (h : p ≡ Some k) where
    here : (k < length live) × (get_or live k 0 ≡ v)
    here = position-found v live k (sym e ∙ h)

    there : is_live live v ≡ true
    there = found-live v live k (sym e ∙ h)

    pub place-within : k < vertex_limit
    place-within = omega (arith, here.0, live-length limit ws, f.shape.vertices-le)

    module _ (m : List ℕ) (steps : Holds (steps_between t) (vertex_count ws) m) (l : i < length order) (w : Placed t order i placed) where
      -- the marks of row k are the steps of v
      row_step : (j : ℕ) → j < vertex_count ws → matrix m k j ≡ has_step t v (get_or live j 0)
      row_step j hj =
          holds-matrix steps f.shape.vertices-le k j (rw live-length at here.0) hj ∙ ap (λ (x : ℕ). has_step t x (get_or live j 0)) here.1

      own-step : matrix m k k ≡ has_step t v v
      own-step = row_step k (rw live-length at here.0) ∙ ap (has_step t v) here.1

      -- the row meets a placed record exactly where v has a step to an earlier entry
      met-entry : any (meets_at m placed k) (up_to vertex_limit) ≡ true → any (has_step t v) before ≡ true
      unfolding meets_at
      met-entry q =
          let a = any_at (meets_at m placed k) (up_to vertex_limit) 0 q in
          let j = a.0 in
          let hj : j < vertex_limit = rw length-tab at a.1 in
          let both : (matrix m k j and is_marked placed j) ≡ true = ap (meets_at m placed k) (sym (getD-tab (λ (x : ℕ). x) vertex_limit j 0 hj)) ∙ a.2 in
          let step = and_left (matrix m k j) (is_marked placed j) both in
          let n : j < vertex_count ws = marked-within _ _ m steps k j place-within hj step in
          let b = memb-at (get_or live j 0) before (sym (w.each j (rw live-length n)) ∙ and_right (matrix m k j) (is_marked placed j) both) in
          any_of (has_step t v) before 0 b.0 b.1 (ap (has_step t v) b.2 ∙ sym (row_step j n) ∙ step)

      entry-met : any (has_step t v) before ≡ true → any (meets_at m placed k) (up_to vertex_limit) ≡ true
      unfolding meets_at
      entry-met q =
          let a = any_at (has_step t v) before 0 q in
          let b = memb-at (get_or before a.0 0) live (all-at (is_live live) before a.0 0 w.live a.1) in
          let j = b.0 in
          let n : j < vertex_count ws = rw live-length at b.1 in
          let hj : j < vertex_limit = omega (arith, f.shape.vertices-le) in
          let step : matrix m k j ≡ true = row_step j n ∙ ap (has_step t v) b.2 ∙ a.2 in
          let mark : is_marked placed j ≡ true = w.each j b.1 ∙ ap (λ (x : ℕ). memb x before) b.2 ∙ memb-getD before a.0 a.1 in
          any_of (meets_at m placed k) (up_to vertex_limit) 0 j (rw length-tab hj)
          (ap (meets_at m placed k) (getD-tab (λ (x : ℕ). x) vertex_limit j 0 hj) ∙ and_both (matrix m k j) (is_marked placed j) step mark)

      -- a step to itself or to an earlier entry
      step-told : (matrix m k k || any (meets_at m placed k) (up_to vertex_limit)) ≡ any (has_step t v) (take (suc i) order)
      step-told =
          ap₂ ◌||◌ own-step (test-ext _ _ met-entry entry-met) ∙ or_comm (has_step t v v) (any (has_step t v) before)
          ∙ sym (any-more (has_step t v) order i 0 l) ∙ ap (λ (x : ℕ). any (has_step t v) (take x order)) (add-one i)

      fault-told : misplaced m placed k ≡ at_fault t order i
      unfolding misplaced at_fault
      fault-told = ap₂ ◌||◌ (w.each k here.0 ∙ ap (λ (x : ℕ). memb x before) here.1) step-told ∙ ap asked (sym there)

      one_more_lem : take (i + 1) order ≡ before ++ (v ∷ [])
      one_more_lem = rw (add-one i) (take-suc order i 0 l)

      -- the record of v is marked, and no other
      marked_next : (j : ℕ) → j < length live → is_marked (set placed k true) j ≡ memb (get_or live j 0) (before ++ (v ∷ []))
      marked_next j hj = on_same j k
          (λ q. rw (q, get_or-set_same placed k true false (omega (arith, place-within, w.sized)), here.1) (sym (memb-snoc-self v before)))
          (λ ne. get_or-set_other placed k j true false ne ∙ w.each j hj
          ∙ sym (memb-snoc-other (get_or live j 0) v before (λ q. ascending-apart live (live-ascends limit ws f) j k hj here.0 ne (q ∙ sym here.1))))

      placed-more : Placed t order (i + 1) (set placed k true)
      placed-more = record {
        sized = length-set placed k true ∙ w.sized;
        live = rw one_more_lem (all_snoc (is_live live) before v ∙ and_both _ _ w.live there);
        each = λ j hj. rw one_more_lem (marked_next j hj);
      }

      -- r and next are what `place` returned and left
      pub entry-judged : (r : Bool) (next : List Bool) → PlacedNext m k placed r next → Judged t order i r next
      entry-judged r next d = record { told = d.told ∙ fault-told; placed = λ q. rw (d.done, q) placed-more }

-- ---- the loop over i: the entries before it are placed, and what is left of the search finds what the whole finds

pub record Judging (t : Table) (order : List ℕ) (i : ℕ) (placed : List Bool) : Type 0 where
  pub within : i ≤ length order
  pub so_far : Placed t order i placed
  pub left : first_passing_from (at_fault t order) i (drop i (up_to (length order))) ≡ first_fault t order

pub judging-first : (ws order : List ℕ) → Formed limit ws → Judging (read limit ws) order 0 no_marks
unfolding all first_fault first_passing
judging-first ws order f = record {
  within = omega arith;
  so_far = record {
    sized = no-marks-length;
    live = refl;
    each = λ k h. no-mark k (omega (arith, live-length limit ws, f.shape.vertices-le));
  };
  left = refl;
}

module _ (t : Table) (order : List ℕ) (i : ℕ) (placed : List Bool) (j : Judging t order i placed) where
  -- r and next are what `is_at_fault` returned and left
  module _ (r : Bool) (next : List Bool) (d : Judged t order i r next) (h : i < length order) where
    pub judging-on : r ≡ false → Judging t order (i + 1) next
    judging-on q = record { within = omega arith; so_far = d.placed q; left = passing-on (at_fault t order) (λ k. k) (length order) i _ j.left (length order) refl r d.told h q }

    pub judging-here : r ≡ true → Some i ≡ first_fault t order
    judging-here q = passing-here (at_fault t order) (λ k. k) (length order) i _ j.left (length order) refl r d.told h q

  pub judging-none : length order ≤ i → None ≡ first_fault t order
  judging-none h = passing-none (at_fault t order) (λ k. k) (length order) i _ j.left (length order) refl h

-- ---- answers: s is what `first_fault` returned

module _ (t : Table) (order : List ℕ) (s : Option ℕ) (e : s ≡ first_fault t order) where
  pub bad-place : (i : ℕ) → s ≡ Some i → result_of (Err (BadOrder i)) [] ≡ accept_result order t
  unfolding accept_result
  bad-place i h = rw (← e, h)

  -- x is what `judge_length` answered
  pub no-bad-place : (x : Result) → s ≡ None → x ≡ on_length t order → x ≡ accept_result order t
  unfolding accept_result on_length
  no-bad-place x h q = rw (← e, h) q

-- n is what `vertex_count` returned
module _ (ws order : List ℕ) (n : ℕ) (q : n ≡ vertex_count ws) where
  pub order-short : length order < n → result_of (Err (BadOrder (length order))) [] ≡ on_length (read limit ws) order
  unfolding on_length stops_short
  order-short h = rw (live-length limit ws, ← q, lt-ltb (length order) n h)

  pub order-whole : n ≤ length order → result_of (Ok 0) [] ≡ on_length (read limit ws) order
  unfolding on_length stops_short
  order-whole h = rw (live-length limit ws, ← q, le-ltb (length order) n h)
