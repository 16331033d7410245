-- A mark looked up by a record's place says what the number's mark says. Assumes nothing.
use Rattle.std.specs.Prelude.{Option, Some, None}
use mathlib.Core.Path.{◌≡◌, ap}
use mathlib.Core.Bool.{Bool, true, not}
use mathlib.Core.List.{List}
use Prim.Native.Nat.{ℕ, ◌<◌}
use lib.ListN.{length, get_or}
use Rattle.lists.specs.Lists.{filter, Ascending}
use Rattle.lists.proofs.Tab.{length-tab, getD-tab}
use Rattle.layout.specs.Content.{live_vertices, live_hyperedges, position}
use Rattle.layout.specs.Layout.{limit, vertex_word, hyperedge_word, vertex_count, hyperedge_count, vertex_at, hyperedge_at, read_vertices, read_hyperedges, read}
use Rattle.layout.specs.Inner.{Formed}
use Rattle.layout.proofs.Position.{position_here}
use Rattle.layout.proofs.Read.{live-hyperedges, live-length, live_at, live-ascends}
use Rattle.marks.specs.Marks.{is_marked}
use Rattle.sift_vertices.specs.Unmarked.{is_unmarked, unmarked}
use Rattle.sift_vertices.proofs.Unmarked.{unmarked-filter}
use Rattle.withdraw_marked.specs.Sparing.{mark_at, spared, spared_vertex, spared_hyperedge}
use Rattle.withdraw_marked.specs.Sifting.{member_spared}

-- for `search`: p is what `find_vertex` found of x
module _ (marks : List Bool) (ws : List ℕ) (x : ℕ) (p : Option ℕ) (q : p ≡ position x (live_vertices (read limit ws))) where
  pub spared-none : p ≡ None → true ≡ member_spared marks ws x
  unfolding spared
  spared-none h = rw (← q, h)

  pub spared-at : (k : ℕ) → p ≡ Some k → not (is_marked marks k) ≡ member_spared marks ws x
  unfolding spared
  spared-at k h = rw (← q, h)

-- the number at place i of ascending numbers
spared-here : (marks : List Bool) (numbers : List ℕ) (x i : ℕ) → Ascending numbers → i < length numbers → get_or numbers i 0 ≡ x → is_unmarked marks i ≡ spared marks numbers x
unfolding spared
spared-here marks numbers x i asc h e = ap (λ (p : Option ℕ). not (mark_at marks p)) (position_here x numbers i asc h e)

-- so the records that have no mark are those whose number has none
module _ (p h : ℕ → Bool) (marks : List Bool) (ws : List ℕ) (f : Formed limit ws) where
  pub vertices-spared : p ≡ spared marks (live_vertices (read limit ws)) → unmarked (vertex_at ws) marks (vertex_count ws) ≡ filter (spared_vertex p h) (read_vertices ws)
  unfolding spared_vertex
  vertices-spared e = unmarked-filter (vertex_at ws) marks (spared_vertex p h) (vertex_count ws) (λ i l. rw e
      (spared-here marks (live_vertices (read limit ws)) (get_or ws (vertex_word i) 0) i (live-ascends limit ws f) (rw live-length l) (live_at limit ws i l)))

  pub hyperedges-spared : h ≡ spared marks (live_hyperedges (read limit ws)) → unmarked (hyperedge_at limit ws) marks (hyperedge_count ws) ≡ filter (spared_hyperedge p h) (read_hyperedges limit ws)
  unfolding spared_hyperedge
  hyperedges-spared e = unmarked-filter (hyperedge_at limit ws) marks (spared_hyperedge p h) (hyperedge_count ws) (λ j l. rw e
      (spared-here marks (live_hyperedges (read limit ws)) (get_or ws (hyperedge_word limit j) 0) j (rw live-hyperedges f.hyperedges-ascend)
      (rw (live-hyperedges, length-tab) l) (rw (live-hyperedges, getD-tab (λ (i : ℕ). get_or ws (hyperedge_word limit i) 0) (hyperedge_count ws) j 0 l))))
