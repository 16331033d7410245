-- Laws of what a list of removals leaves: one removal after the other leaves the closed form, in any order. Assumes nothing.
use mathlib.Core.Path.{◌≡◌, refl, ap, ap₂, ◌∙◌, fun_ext}
use mathlib.Core.Bool.{Bool, true, false, not, ◌||◌}
use mathlib.Core.List.{List, [], ◌∷◌, map, map-map, map-id}
use Prim.Native.Nat.{ℕ}
use native.Mathlib.Nat.{le_trans}
use lib.Dec.{eqb}
use borrow.Author.Tests.{ltb-false, le-ltb, ne_eqb}
use Rattle.lists.specs.Tests.{◌and◌}
use Rattle.lists.specs.Lists.{any, filter, other_than, itself}
use Rattle.lists.proofs.Cases.{clash, and_left}
use Rattle.lists.proofs.Kept.{map-ext, filter-ext, all-always, all_then, map_whole, filter_map, filter-length, filter-whole, filter-filter, filter-swap, filter-late, all-other}
use Rattle.layout.specs.Content.{Vertex, Hyperedge, Table, vertex_number, hyperedge_number, live_vertices, live_hyperedges, is_live, members_live}
use Rattle.layout.specs.WellFormed.{count_fits, holdable}
use Rattle.layout.proofs.Holdable.{Holdable, holdable-of}
use Rattle.edits.specs.Edits.{without, has_members, remove_vertex, remove_hyperedge}
use Rattle.edits.proofs.Holdable.{remove-vertex-holdable, remove-hyperedge-holdable}
use Rattle.removals.specs.Removals.{Removal, vertex, hyperedge, is_vertex, is_hyperedge, stays_vertex, stays_hyperedge, kept_vertex, kept_hyperedge, thinned, withdrawn}

-- one removal, on the content
unfoldable pub taken : Removal → Table → Table
taken (vertex v) t = remove_vertex v t
taken (hyperedge x) t = remove_hyperedge x t

pub taken-holdable : (L : ℕ) (r : Removal) (t : Table) → holdable L t ≡ true → holdable L (taken r t) ≡ true
unfolding taken
taken-holdable L (vertex v) t h = remove-vertex-holdable L v t h
taken-holdable L (hyperedge x) t h = remove-hyperedge-holdable L x t h

-- ---- one removal, then the others

not-or : (a b : Bool) → (not a and not b) ≡ not (a || b)
unfolding ◌and◌
not-or true b = refl
not-or false b = refl

module _ (v : ℕ) (rs : List Removal) where
  -- what the removal of v keeps and the others keep
  vertices-first : {A : Type 0} (f : A → ℕ) (xs : List A) → filter (λ x. stays_vertex rs (f x)) (filter (other_than f v) xs) ≡ filter (λ x. stays_vertex (vertex v ∷ rs) (f x)) xs
  unfolding other_than stays_vertex is_vertex any
  vertices-first f xs = filter-filter (other_than f v) _ xs ∙ filter-ext _ _ xs (λ x. not-or (eqb (f x) v) (any (is_vertex (f x)) rs))

  hyperedges-first : (es : List Hyperedge) → filter (kept_hyperedge rs) (filter (other_than hyperedge_number v) es) ≡ filter (kept_hyperedge (hyperedge v ∷ rs)) es
  unfolding other_than kept_hyperedge stays_hyperedge is_hyperedge any
  hyperedges-first es =
      filter-filter (other_than hyperedge_number v) _ es ∙ filter-ext _ _ es (λ e. not-or (eqb e.number v) (any (is_hyperedge e.number) rs))

  thinned-first : (e : Hyperedge) → thinned rs (without v e) ≡ thinned (vertex v ∷ rs) e
  unfolding thinned without
  thinned-first e = ap (λ (ms : List ℕ). record { number = e.number; weight = e.weight; members = ms }) (vertices-first itself e.members)

-- an emptied list stays empty
emptied : (rs : List Removal) (e : Hyperedge) → has_members e ≡ false → has_members (thinned rs e) ≡ false
unfolding has_members thinned
emptied rs e h = le-ltb 0 _ (le_trans (filter-length (stays_vertex rs) e.members) (ltb-false 0 _ h))

lists-first : (v : ℕ) (rs : List Removal) (es : List Hyperedge)
    → filter has_members (map (thinned rs) (filter (kept_hyperedge rs) (filter has_members (map (without v) es))))
    ≡ filter has_members (map (thinned (vertex v ∷ rs)) (filter (kept_hyperedge (vertex v ∷ rs)) es))
unfolding without kept_hyperedge stays_hyperedge is_hyperedge any
lists-first v rs es =
    ap (λ (r : List Hyperedge). filter has_members (map (thinned rs) r)) (filter-swap has_members (kept_hyperedge rs) (map (without v) es))
    ∙ filter-late has_members (thinned rs) has_members (emptied rs) (filter (kept_hyperedge rs) (map (without v) es))
    ∙ ap (λ (r : List Hyperedge). filter has_members (map (thinned rs) r)) (filter_map (without v) (kept_hyperedge rs) es)
    ∙ ap (filter has_members) (map-map (thinned rs) (without v) (filter (kept_hyperedge rs) es))
    ∙ ap (filter has_members) (map-ext _ _ (filter (kept_hyperedge rs) es) (thinned-first v rs))

pub withdrawn-first : (r : Removal) (rs : List Removal) (t : Table) → withdrawn rs (taken r t) ≡ withdrawn (r ∷ rs) t
unfolding withdrawn taken remove_vertex remove_hyperedge kept_vertex thinned stays_vertex is_vertex any
withdrawn-first (vertex v) rs t = λ i. record {
  next_vertex = t.next_vertex;
  next_hyperedge = t.next_hyperedge;
  vertices = vertices-first v rs vertex_number t.vertices i;
  hyperedges = lists-first v rs t.hyperedges i;
}
withdrawn-first (hyperedge x) rs t = λ i. record {
  next_vertex = t.next_vertex;
  next_hyperedge = t.next_hyperedge;
  vertices = filter (kept_vertex rs) t.vertices;
  hyperedges = filter has_members (map (thinned rs) (hyperedges-first x rs t.hyperedges i));
}

-- ---- no removal, and a removal of what is not live, change nothing

module _ (L : ℕ) (t : Table) (h : holdable L t ≡ true) where
  full : filter has_members t.hyperedges ≡ t.hyperedges
  unfolding count_fits has_members
  full = let p : Holdable L t = holdable-of h in
      filter-whole has_members t.hyperedges (all_then (count_fits L) has_members t.hyperedges (λ e k. and_left _ _ k) p.counts)

  pub withdrawn-none : withdrawn [] t ≡ t
  unfolding withdrawn kept_vertex kept_hyperedge thinned stays_vertex stays_hyperedge any
  withdrawn-none = λ i. record {
    next_vertex = t.next_vertex;
    next_hyperedge = t.next_hyperedge;
    vertices = filter-whole (kept_vertex []) t.vertices (all-always _ t.vertices (λ v. refl)) i;
    hyperedges = (ap (λ (r : List Hyperedge). filter has_members (map (thinned []) r)) (filter-whole (kept_hyperedge []) t.hyperedges (all-always _ t.hyperedges (λ e. refl)))
        ∙ ap (filter has_members) (map-ext (thinned []) (λ e. e) t.hyperedges thinned-none ∙ map-id t.hyperedges) ∙ full) i;
  }
    where
      thinned-none : (e : Hyperedge) → thinned [] e ≡ e
      thinned-none e = ap (λ (ms : List ℕ). record { number = e.number; weight = e.weight; members = ms }) (filter-whole (stays_vertex []) e.members (all-always _ e.members (λ m. refl)))

  module _ (v : ℕ) where
    without-dead : is_live (live_vertices t) v ≡ false → (e : Hyperedge) → members_live (live_vertices t) e ≡ true → without v e ≡ e
    unfolding members_live without other_than
    without-dead d e k =
        ap (λ (ms : List ℕ). record { number = e.number; weight = e.weight; members = ms })
        (filter-whole (other_than itself v) e.members (all_then (is_live (live_vertices t)) (other_than itself v) e.members
        (λ m l. ap not (ne_eqb m v (λ q. clash l (ap (is_live (live_vertices t)) q ∙ d)))) k))

    pub vertex-dead : is_live (live_vertices t) v ≡ false → remove_vertex v t ≡ t
    unfolding remove_vertex
    vertex-dead d = let p : Holdable L t = holdable-of h in λ i. record {
      next_vertex = t.next_vertex;
      next_hyperedge = t.next_hyperedge;
      vertices = filter-whole (other_than vertex_number v) t.vertices (all-other vertex_number v t.vertices d) i;
      hyperedges = (ap (filter has_members) (map_whole (without v) (members_live (live_vertices t)) t.hyperedges (without-dead d) p.members-live) ∙ full) i;
    }

    pub hyperedge-dead : is_live (live_hyperedges t) v ≡ false → remove_hyperedge v t ≡ t
    unfolding remove_hyperedge
    hyperedge-dead d = λ i. record {
      next_vertex = t.next_vertex;
      next_hyperedge = t.next_hyperedge;
      vertices = t.vertices;
      hyperedges = filter-whole (other_than hyperedge_number v) t.hyperedges (all-other hyperedge_number v t.hyperedges d) i;
    }

-- ---- any order

-- two lists with the same removals, however often and in whatever order: a test passes at some of the one exactly when at some of the other
pub withdrawn-same : (rs ss : List Removal) → ((p : Removal → Bool) → any p rs ≡ any p ss) → (t : Table) → withdrawn rs t ≡ withdrawn ss t
unfolding withdrawn kept_vertex kept_hyperedge thinned stays_vertex stays_hyperedge
withdrawn-same rs ss q t =
    ap₂ (λ (v x : ℕ → Bool). record {
      next_vertex = t.next_vertex;
      next_hyperedge = t.next_hyperedge;
      vertices = filter (λ (a : Vertex). v a.number) t.vertices;
      hyperedges = filter has_members (map (λ (e : Hyperedge). record { number = e.number; weight = e.weight; members = filter v e.members }) (filter (λ (e : Hyperedge). x e.number) t.hyperedges));
    })
    (fun_ext (λ v. ap not (q (is_vertex v))))
    (fun_ext (λ x. ap not (q (is_hyperedge x))))
