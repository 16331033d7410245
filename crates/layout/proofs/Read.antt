-- What reading a table's words gives, in terms of the words. Assumes nothing.
use Rattle.std.specs.Prelude.{Option, Some, None}
use mathlib.Core.Path.{◌≡◌, sym, ap, ◌∙◌}
use mathlib.Core.Bool.{true}
use mathlib.Core.List.{List}
use Prim.Native.Nat.{ℕ, ◌+◌, ◌*◌, ◌≤◌, ◌<◌}
use native.Mathlib.Omega.{arith}
use lib.ListN.{length, get_or, length-take}
use borrow.Author.Tests.{ltb-true}
use Rattle.lists.specs.Lists.{is_below, Ascending}
use Rattle.lists.proofs.Cases.{and_left, and_right}
use Rattle.lists.proofs.Tab.{map-tab, length-tab, getD-tab}
use Rattle.lists.proofs.All.{all-at}
use Rattle.lists.proofs.Ascend.{ascending-at}
use Rattle.layout.specs.Content.{vertex_number, hyperedge_number, live_vertices, live_hyperedges, numbered, valid, position}
use Rattle.layout.specs.Layout.{vertex_size, record_size, vertices_at, hyperedges_at, vertex_word, hyperedge_word, next_vertex_in, vertex_count, hyperedge_count, vertex_at, hyperedge_at, members_at, read}
use Rattle.layout.specs.WellFormed.{well_formed}
use Rattle.layout.specs.Inner.{column, vertex_column, hyperedge_column, Formed}
use Rattle.layout.proofs.Position.{position-found, dense-found, dense-none}
use Rattle.layout.proofs.Shape.{shaped_of, count-le}

pub numbered-ascends : (xs : List ℕ) (next : ℕ) → numbered xs next ≡ true → Ascending xs
unfolding numbered
numbered-ascends xs next e = ascending-at xs (and_left _ _ e)

pub numbered_below : (xs : List ℕ) (next : ℕ) → numbered xs next ≡ true → (i : ℕ) → i < length xs → get_or xs i 0 < next
unfolding numbered
numbered_below xs next e i h = ltb-true _ next (all-at (is_below next) xs i 0 (and_right _ _ e) h)

module _ (L : ℕ) (ws : List ℕ) where
  pub live-vertices : live_vertices (read L ws) ≡ vertex_column ws
  live-vertices = map-tab vertex_number (vertex_at ws) (vertex_count ws)

  pub live-hyperedges : live_hyperedges (read L ws) ≡ hyperedge_column L ws
  live-hyperedges = map-tab hyperedge_number (hyperedge_at L ws) (hyperedge_count ws)

  pub live-length : length (live_vertices (read L ws)) ≡ vertex_count ws
  live-length = ap length live-vertices ∙ length-tab _ (vertex_count ws)

  pub live_at : (k : ℕ) → k < vertex_count ws → get_or (live_vertices (read L ws)) k 0 ≡ get_or ws (vertex_word k) 0
  live_at k h = rw (live-vertices, getD-tab (λ (i : ℕ). get_or ws (vertex_word i) 0) (vertex_count ws) k 0 h)

  pub formed-of : well_formed L ws ≡ true → Formed L ws
  unfolding well_formed valid
  formed-of e =
      let s = shaped_of L ws (and_left _ _ e) in
      let v = and_right _ _ e in
      record {
        shape = s;
        counts = λ j h. count-le L ws _ j s.records h;
        vertices-ascend = rw live-vertices at (numbered-ascends _ _ (and_left _ _ v));
        hyperedges-ascend = rw live-hyperedges at (numbered-ascends _ _ (and_left _ _ (and_right _ _ v)));
        vertices-below = λ i h. rw (live_at i h) at (numbered_below _ _ (and_left _ _ v) i (rw live-length h));
        content = v;
      }

  pub members-le : Formed L ws → (j : ℕ) → j < hyperedge_count ws → length (members_at L ws j) ≤ L
  members-le f j h = rw length-take (omega (arith, f.counts j h))

  pub live-ascends : Formed L ws → Ascending (live_vertices (read L ws))
  live-ascends f = rw live-vertices f.vertices-ascend

  -- where a search found the number, the record has it
  column-found : (base step n x i : ℕ) → position x (column ws base step n) ≡ Some i → (i < n) × (get_or ws (base + i * step) 0 ≡ x)
  column-found base step n x i e =
      let p = position-found x (column ws base step n) i e in
      let h : i < n = rw length-tab at p.0 in
      (h, sym (getD-tab (λ (k : ℕ). get_or ws (base + k * step) 0) n i 0 h) ∙ p.1)

  pub vertex-found : (x i : ℕ) → position x (live_vertices (read L ws)) ≡ Some i → (i < vertex_count ws) × (get_or ws (vertex_word i) 0 ≡ x)
  vertex-found x i e = column-found vertices_at vertex_size (vertex_count ws) x i (sym (ap (position x) live-vertices) ∙ e)

  pub hyperedge-found : (x j : ℕ) → position x (live_hyperedges (read L ws)) ≡ Some j → (j < hyperedge_count ws) × (get_or ws (hyperedge_word L j) 0 ≡ x)
  hyperedge-found x j e = column-found hyperedges_at (record_size L) (hyperedge_count ws) x j (sym (ap (position x) live-hyperedges) ∙ e)

-- ---- for `search`: n is what `vertex_count` found, m what `hyperedge_count` found

module _ (L : ℕ) (ws : List ℕ) (n : ℕ) (f : Formed L ws) (e : n ≡ vertex_count ws) where
  pub vertices-rise : Ascending (column ws vertices_at vertex_size n)
  vertices-rise = rw e f.vertices-ascend

  pub vertex-searched : (x : ℕ) (p : Option ℕ) → p ≡ position x (column ws vertices_at vertex_size n) → p ≡ position x (live_vertices (read L ws))
  vertex-searched x p q = q ∙ rw (e, live-vertices L ws)

  -- as many vertices live as numbers were given: x is its own place
  module _ (x place given : ℕ) (p : place ≡ x) (g : given ≡ next_vertex_in ws) (q : given ≡ n) where
    below : (i : ℕ) → i < length (vertex_column ws) → get_or (vertex_column ws) i 0 < length (vertex_column ws)
    below i h =
        let l : length (vertex_column ws) ≡ vertex_count ws = length-tab _ (vertex_count ws) in
        let h' : i < vertex_count ws = rw l at h in
        rw (getD-tab (λ (k : ℕ). get_or ws (vertex_word k) 0) (vertex_count ws) i 0 h', l) (omega (arith, f.vertices-below i h'))

    pub vertex-dense : place < n → Some place ≡ position x (live_vertices (read L ws))
    vertex-dense h = ap Some p ∙ rw live-vertices (dense-found x (vertex_column ws) f.vertices-ascend below (rw (length-tab, ← e, ← p) h))

    pub vertex-over : n ≤ place → None ≡ position x (live_vertices (read L ws))
    vertex-over h = rw live-vertices (dense-none x (vertex_column ws) f.vertices-ascend below (rw (length-tab, ← e, ← p) h))

module _ (L : ℕ) (ws : List ℕ) (m : ℕ) (f : Formed L ws) (e : m ≡ hyperedge_count ws) where
  pub hyperedges-rise : Ascending (column ws hyperedges_at (record_size L) m)
  hyperedges-rise = rw e f.hyperedges-ascend

  pub hyperedge-searched : (x : ℕ) (p : Option ℕ) → p ≡ position x (column ws hyperedges_at (record_size L) m) → p ≡ position x (live_hyperedges (read L ws))
  hyperedge-searched x p q = q ∙ rw (e, live-hyperedges L ws)
