-- A text that has the first lines of a written one: those lines are good, and they are read as what was written. Assumes nothing.
use mathlib.Core.Path.{◌≡◌, refl, sym, ap, ◌∙◌}
use mathlib.Core.Bool.{true}
use mathlib.Core.List.{List}
use Prim.Native.Nat.{ℕ, zero, suc, ◌+◌, ◌-◌, ◌≤◌, ◌<◌}
use native.Mathlib.Nat.{add-zero}
use native.Mathlib.Omega.{arith}
use lib.Dec.{eqb, ltb}
use lib.ListN.{length, get_or, get_or-map}
use borrow.Author.Tests.{lt-ltb, le-ltb, le-leb, eq-eqb}
use Rattle.lists.specs.Tests.{◌and◌}
use Rattle.lists.specs.Lists.{tab}
use Rattle.lists.proofs.Cases.{on_below, and_both, or_right}
use Rattle.lists.proofs.All.{all-at}
use Rattle.lists.proofs.Tab.{tab-ext}
use Rattle.lists.proofs.Flat.{tab-getD}
use Rattle.lists.proofs.Maps.{map-length}
use Rattle.layout.specs.Content.{Table, vertex_number, hyperedge_number, live_vertices, live_hyperedges, numbered, members_live, no_vertex, no_hyperedge}
use Rattle.layout.specs.Layout.{vertex_limit, hyperedge_limit, limit}
use Rattle.layout.specs.WellFormed.{count_fits}
use Rattle.layout.proofs.Read.{numbered-ascends}
use Rattle.layout.proofs.Holdable.{Holdable, members-le}
use Rattle.frames.specs.Frames.{head_line, hyperedge_line}
use Rattle.frames.specs.Reading.{stands_at, next_vertex_of, next_hyperedge_of, vertices_due, hyperedges_due, vertex_place, count_in, vertex_in, hyperedge_place, hyperedge_in, content_of, head_good, climbs_to, number_good, vertex_number_in, hyperedge_number_in, vertex_good, hyperedge_good, line_good, lines_due}
use Rattle.frame_laws.proofs.Rows.{row_at, rows, place_at, Agrees, row-vertex, row-hyperedge, vertex-place, hyperedge-next}
use Rattle.frame_laws.proofs.Standing.{next-vertex-back, next-hyperedge-back, vertices-back, hyperedges-back, vertex-back, count-back, hyperedge-back}
use Rattle.frame_laws.proofs.Held.{numbered-ahead, numbered-room, some-vertex, Worded}

-- a number of a numbered list fits at its place
number-good : (number : ℕ → ℕ) (xs : List ℕ) (next i : ℕ) → numbered xs next ≡ true → i < length xs → ((k : ℕ) → k ≤ i → number k ≡ get_or xs k 0)
    → number_good number (length xs) next i ≡ true
unfolding number_good climbs_to
number-good number xs next zero e h f = and_both _ _ refl (le-leb _ next (rw (f 0 (omega arith)) (numbered-ahead xs next 0 e h)))
number-good number xs next (suc i) e h f =
    and_both _ _
    (lt-ltb (number i) (number (suc i)) (rw (f i (omega arith), f (suc i) (omega arith)) (numbered-ascends xs next e i (suc i) (omega arith) h)))
    (le-leb (number (suc i) + (length xs - suc i)) next (rw (f (suc i) (omega arith)) (numbered-ahead xs next (suc i) e h)))

module _ (text : List ℕ) (t : Table) (d : Holdable limit t) (w : Worded t) (g : ℕ) (a : Agrees g text t) where
  -- ---- the head

  module _ (h : 0 < g) where
    head-stands : stands_at text 0 (head_line t) ≡ true
    unfolding row_at place_at
    head-stands = a 0 h

    next-vertex-is : next_vertex_of text ≡ t.next_vertex
    next-vertex-is = next-vertex-back text t head-stands w.next-vertex

    next-hyperedge-is : next_hyperedge_of text ≡ t.next_hyperedge
    next-hyperedge-is = next-hyperedge-back text t head-stands w.next-hyperedge

    vertices-due : vertices_due text ≡ length t.vertices
    vertices-due = vertices-back text t head-stands (omega (arith, d.vertices-le))

    pub hyperedges-due : hyperedges_due text ≡ length t.hyperedges
    hyperedges-due = hyperedges-back text t head-stands (omega (arith, d.hyperedges-le))

    pub lines-due : lines_due text ≡ rows t
    lines-due = rw (vertices-due, hyperedges-due)

    head-good : head_good text ≡ true
    unfolding head_good head_line
    head-good =
        let n : ℕ = length t.vertices in
        let m : ℕ = length t.hyperedges in
        rw (next-vertex-is, next-hyperedge-is, vertices-due, hyperedges-due) (
        and_both _ _ head-stands
        (and_both _ _ (le-leb n vertex_limit d.vertices-le)
        (and_both _ _ (le-leb m hyperedge_limit d.hyperedges-le)
        (and_both _ _ (le-leb n t.next_vertex (rw map-length at (numbered-room (live_vertices t) t.next_vertex d.vertices-numbered)))
        (and_both _ _ (le-leb m t.next_hyperedge (rw map-length at (numbered-room (live_hyperedges t) t.next_hyperedge d.hyperedges-numbered)))
        (on_below 0 m (λ l. or_right (eqb m 0) (ltb 0 n) (lt-ltb 0 n (some-vertex t d l))) (λ l. rw (eq-eqb m 0 (omega arith)))))))))

  -- ---- the vertices

  vertex-is : (i : ℕ) → i < length t.vertices → suc i < g → vertex_in text i ≡ get_or t.vertices i no_vertex
  vertex-is i h l =
      vertex-back text (vertex_place i) (get_or t.vertices i no_vertex) (rw (vertex-place t i (omega arith), row-vertex t i h) at (a (suc i) l)) (w.vertex-number i h) (w.vertex-weight i h)

  vertex-good : (i : ℕ) → i < length t.vertices → suc i < g → vertex_good text i ≡ true
  unfolding vertex_good
  vertex-good i h l =
      let e : length (live_vertices t) ≡ length t.vertices = map-length vertex_number t.vertices in
      and_both _ _
      (rw (vertex-is i h l) (rw (vertex-place t i (omega arith), row-vertex t i h) at (a (suc i) l)))
      (rw (vertices-due (omega arith), next-vertex-is (omega arith), ← e) (number-good (vertex_number_in text) (live_vertices t) t.next_vertex i d.vertices-numbered (rw e h) (λ k q.
      ap vertex_number (vertex-is k (omega arith) (omega arith)) ∙ sym (get_or-map vertex_number t.vertices k no_vertex))))

  vertices-are : suc (length t.vertices) ≤ g → tab (vertex_in text) (vertices_due text) ≡ t.vertices
  vertices-are l =
      ap (tab (vertex_in text)) (vertices-due (omega arith))
      ∙ tab-ext (vertex_in text) (λ i. get_or t.vertices i no_vertex) (length t.vertices) (λ i h. vertex-is i h (omega arith)) ∙ tab-getD t.vertices no_vertex

  -- ---- the hyperedges

  module _ (gl : g ≤ rows t) where
    pub hyperedge-place : (j : ℕ) → suc (length t.vertices + j) ≤ g → hyperedge_place text j ≡ place_at t (suc (length t.vertices + j))
    unfolding hyperedge_place
    hyperedge-place zero l = rw (vertices-due (omega arith), add-zero) (sym (vertex-place t (length t.vertices) (omega arith)))
    hyperedge-place (suc j) l =
        let n : ℕ = length t.vertices in
        let p : hyperedge_place text j ≡ place_at t (suc (n + j)) = hyperedge-place j (omega arith) in
        let c : count_in text (place_at t (suc (n + j))) ≡ length (get_or t.hyperedges j no_hyperedge).members =
        count-back text (place_at t (suc (n + j))) (get_or t.hyperedges j no_hyperedge) (rw (row-hyperedge t j) at (a (suc (n + j)) (omega arith))) (omega (arith, members-le d no_hyperedge j (omega arith))) in
        rw (p, c) (sym (hyperedge-next t j))

    hyperedge-stands : (j : ℕ) → suc (length t.vertices + j) < g → stands_at text (hyperedge_place text j) (hyperedge_line (get_or t.hyperedges j no_hyperedge)) ≡ true
    hyperedge-stands j l = rw (hyperedge-place j (omega arith), ← row-hyperedge t j) (a (suc (length t.vertices + j)) l)

    hyperedge-is : (j : ℕ) → suc (length t.vertices + j) < g → hyperedge_in text j ≡ get_or t.hyperedges j no_hyperedge
    hyperedge-is j l =
        let h : j < length t.hyperedges = omega arith in
        hyperedge-back text (hyperedge_place text j) (get_or t.hyperedges j no_hyperedge) (hyperedge-stands j l) (w.hyperedge-number j h) (w.hyperedge-weight j h)
        (omega (arith, members-le d no_hyperedge j h)) (w.members j h)

    hyperedge-good : (j : ℕ) → suc (length t.vertices + j) < g → hyperedge_good text j ≡ true
    unfolding hyperedge_good content_of
    hyperedge-good j l =
        let h : j < length t.hyperedges = omega arith in
        let e : length (live_hyperedges t) ≡ length t.hyperedges = map-length hyperedge_number t.hyperedges in
        and_both _ _
        (rw (hyperedge-is j l) (hyperedge-stands j l))
        (and_both _ _
        (rw (hyperedges-due (omega arith), next-hyperedge-is (omega arith), ← e) (number-good (hyperedge_number_in text) (live_hyperedges t) t.next_hyperedge j d.hyperedges-numbered (rw e h) (λ k q.
        ap hyperedge_number (hyperedge-is k (omega arith)) ∙ sym (get_or-map hyperedge_number t.hyperedges k no_hyperedge))))
        (and_both _ _
        (rw (hyperedge-is j l) (all-at (count_fits limit) t.hyperedges j no_hyperedge d.counts h))
        (rw (hyperedge-is j l, vertices-are (omega arith)) (all-at (members_live (live_vertices t)) t.hyperedges j no_hyperedge d.members-live h))))

    pub line-good : (k : ℕ) → k < g → line_good text k ≡ true
    unfolding line_good
    line-good zero l = head-good l
    line-good (suc k) l =
        let n : ℕ = length t.vertices in
        on_below k n
        (λ h. rw (vertices-due (omega arith), lt-ltb k n h) (vertex-good k h l))
        (λ h. let e : n + (k - n) ≡ k = omega arith in rw (vertices-due (omega arith), le-ltb k n h) (hyperedge-good (k - n) (rw e l)))

    pub content-is : g ≡ rows t → content_of text ≡ t
    unfolding content_of
    content-is q =
        rw (
          next-vertex-is (omega arith),
          next-hyperedge-is (omega arith),
          vertices-are (omega arith),
          hyperedges-due (omega arith),
          tab-ext (hyperedge_in text) (λ j. get_or t.hyperedges j no_hyperedge) (length t.hyperedges) (λ j h. hyperedge-is j (omega arith)),
          tab-getD t.hyperedges no_hyperedge,
        )
