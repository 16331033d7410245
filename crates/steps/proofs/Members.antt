-- The members of a well-formed table: each list has one, and each is live, so that a search finds its record. Assumes nothing.
use Rattle.std.specs.Prelude.{Option, Some, None, unwrap_or}
use mathlib.Core.Path.{◌≡◌, sym, ap, ◌∙◌}
use mathlib.Core.Bool.{true}
use mathlib.Core.List.{List}
use Prim.Native.Nat.{ℕ, ◌+◌, ◌-◌, ◌≤◌, ◌<◌}
use native.Mathlib.Omega.{arith}
use lib.ListN.{length, get_or, drop, length-drop}
use lib.Seq.{length-take-le}
use Rattle.lists.proofs.Cases.{and_right, clash}
use Rattle.lists.proofs.Tab.{length-tab, getD-tab}
use Rattle.lists.proofs.All.{all-at}
use Rattle.lists.proofs.Stride.{stride}
use Rattle.layout.specs.Content.{live_vertices, is_live, members_live, valid, position}
use Rattle.layout.specs.Layout.{vertex_limit, hyperedge_limit, record_size, hyperedges_at, hyperedge_word, hyperedge_count, count_at, hyperedge_at, members_at, read_hyperedges, read}
use Rattle.layout.specs.Inner.{Formed}
use Rattle.layout.proofs.Position.{missing-dead}
use Rattle.layout.proofs.Read.{vertex-found}
use Rattle.layout.proofs.Shape.{count-pos}

-- ms is what `members_formed` found of record j
module _ (L : ℕ) (ws : List ℕ) (f : Formed L ws) (j : ℕ) (h : j < hyperedge_count ws) (ms : List ℕ) (e : ms ≡ members_at L ws j) where
  pub members-some : 0 < length ms
  members-some =
      let p : 0 < count_at L ws j = count-pos L ws (hyperedge_count ws) j f.shape.records h in
      let r : hyperedge_word L j + record_size L ≤ length ws = stride hyperedges_at (record_size L) j hyperedge_limit (omega (arith, f.shape.hyperedges-le)) (omega (arith, f.shape.sized)) in
      omega (arith, ap length e, length-take-le (count_at L ws j) (drop (hyperedge_word L j + 3) ws) (rw length-drop (omega (arith, f.counts j h))))

  pub members-live : (i : ℕ) → i < length ms → is_live (live_vertices (read L ws)) (get_or ms i 0) ≡ true
  unfolding valid members_live
  members-live i l =
      let all_live_lem = all-at (members_live (live_vertices (read L ws))) (read_hyperedges L ws) j (hyperedge_at L ws j) (and_right _ _ (and_right _ _ f.content)) (rw length-tab h) in
      let mine = rw (getD-tab (hyperedge_at L ws) (hyperedge_count ws) j (hyperedge_at L ws j) h) at all_live_lem in
      rw e (all-at (is_live (live_vertices (read L ws))) (members_at L ws j) i 0 mine (rw (← e) l))

-- ---- for `search`: p is what `find_vertex` returned

pub place_here : (live : List ℕ) (x : ℕ) (p : Option ℕ) → p ≡ position x live → (i : ℕ) → p ≡ Some i → position x live ≡ Some i
place_here live x p e i h = sym e ∙ h

-- r is what `unwrap_or` made of p
pub place-of : (live : List ℕ) (x : ℕ) (p : Option ℕ) → p ≡ position x live → is_live live x ≡ true → (r : ℕ) → r ≡ unwrap_or p 0 → position x live ≡ Some r
place-of live x (Some i) e l r q = sym e ∙ ap Some (sym q)
place-of live x None e l r q = clash l (missing-dead x live (sym e))

pub place-below : (L : ℕ) (ws : List ℕ) → Formed L ws → (x a : ℕ) → position x (live_vertices (read L ws)) ≡ Some a → a < vertex_limit
place-below L ws f x a e = omega (arith, (vertex-found L ws x a e).0, f.shape.vertices-le)

-- ---- a place and the next one in a list of n: a loop goes up to n - 1

pub next-below : {i n : ℕ} → i < n - 1 → i + 1 < n
next-below h = omega arith

pub next-end : {i n : ℕ} → n - 1 ≤ i → n ≤ i + 1
next-end h = omega arith
