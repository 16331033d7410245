-- Merging one vertex into another: the content that is left, and that a table can hold it. Assumes nothing.
use mathlib.Core.Path.{◌≡◌, sym, ap, ◌∙◌}
use mathlib.Core.Bool.{true, false, not}
use mathlib.Core.List.{List, map, map-map}
use Prim.Native.Nat.{ℕ}
use lib.Dec.{ltb, leb}
use borrow.Author.Tests.{eq-eqb, ne_eqb}
use Rattle.lists.specs.Tests.{◌and◌}
use Rattle.lists.specs.Lists.{all, any, filter, other_than, itself}
use Rattle.lists.proofs.Cases.{on_same, and_left}
use Rattle.lists.proofs.Maps.{map-length}
use Rattle.lists.proofs.Kept.{map-ext, all-always, all_then, all_map, filter-whole}
use Rattle.layout.specs.Content.{Hyperedge, Table, vertex_number, hyperedge_number, live_vertices, is_live, members_live}
use Rattle.layout.specs.WellFormed.{count_fits, holdable}
use Rattle.layout.proofs.Holdable.{Holdable, holdable-of, holdable-by}
use Rattle.edits.specs.Edits.{without, has_members, remove_vertex, read_as, renamed, rename_vertex, merge_vertices}
use Rattle.edits.specs.Results.{side_by_side}
use Rattle.edits.proofs.Holdable.{remove-vertex-holdable}

-- what a merge that is not refused meets: both vertices live, two of them, nowhere side by side
pub record Mergeable (v w : ℕ) (t : Table) : Type 0 where
  pub kept-live : is_live (live_vertices t) v ≡ true
  pub gone-live : is_live (live_vertices t) w ≡ true
  pub two : v ≡ w → ⊥
  pub apart : any (side_by_side v w) t.hyperedges ≡ false

-- ---- w read as v

module _ (v w x : ℕ) where
  pub read-gone : x ≡ w → read_as v w x ≡ v
  unfolding read_as
  read-gone e = rw (eq-eqb x w e)

  pub read-other : (x ≡ w → ⊥) → read_as v w x ≡ x
  unfolding read_as
  read-other ne = rw (ne_eqb x w ne)

  -- nothing is read as w
  pub read-never : (v ≡ w → ⊥) → read_as v w x ≡ w → ⊥
  read-never two e = on_same x w (λ q. two (sym (read-gone q) ∙ e)) (λ ne. ne (sym (read-other ne) ∙ e))

-- ---- the lists: none has w any more, and none is emptied

module _ (v w : ℕ) (two : v ≡ w → ⊥) where
  renamed-without : (e : Hyperedge) → without w (renamed v w e) ≡ renamed v w e
  unfolding without renamed other_than
  renamed-without e =
      ap (λ (ms : List ℕ). record { number = e.number; weight = e.weight; members = ms })
      (filter-whole (other_than itself w) (map (read_as v w) e.members)
      (all_map (read_as v w) (other_than itself w) e.members
      ∙ all-always _ e.members (λ m. ap not (ne_eqb (read_as v w m) w (read-never v w m two)))))

  renamed-some : (e : Hyperedge) → has_members (renamed v w e) ≡ has_members e
  unfolding has_members renamed
  renamed-some e = ap (ltb 0) (map-length (read_as v w) e.members)

  lists-renamed : (es : List Hyperedge) → all has_members es ≡ true → filter has_members (map (without w) (map (renamed v w) es)) ≡ map (renamed v w) es
  lists-renamed es h =
      ap (filter has_members) (map-map (without w) (renamed v w) es ∙ map-ext _ _ es renamed-without)
      ∙ filter-whole has_members (map (renamed v w) es)
      (all_map (renamed v w) has_members es ∙ all_then has_members _ es (λ e k. renamed-some e ∙ k) h)

module _ (L v w : ℕ) (t : Table) (h : holdable L t ≡ true) where
  -- what is left: the vertices but w, and every hyperedge with its list renamed
  pub merge-is : (v ≡ w → ⊥) → merge_vertices v w t ≡ record {
    next_vertex = t.next_vertex;
    next_hyperedge = t.next_hyperedge;
    vertices = filter (other_than vertex_number w) t.vertices;
    hyperedges = map (renamed v w) t.hyperedges;
  }
  unfolding merge_vertices remove_vertex rename_vertex count_fits has_members
  merge-is two =
      let p : Holdable L t = holdable-of h in
      ap (λ (es : List Hyperedge). record {
        next_vertex = t.next_vertex;
        next_hyperedge = t.next_hyperedge;
        vertices = filter (other_than vertex_number w) t.vertices;
        hyperedges = es;
      })
      (lists-renamed v w two t.hyperedges (all_then (count_fits L) has_members t.hyperedges (λ e k. and_left _ _ k) p.counts))

  -- ---- what is left can be held

  renamed-fits : (e : Hyperedge) → count_fits L e ≡ true → count_fits L (renamed v w e) ≡ true
  unfolding count_fits renamed
  renamed-fits e k = ap (λ (n : ℕ). ltb 0 n and leb n L) (map-length (read_as v w) e.members) ∙ k

  module _ (l : is_live (live_vertices t) v ≡ true) where
    read_live : (x : ℕ) → is_live (live_vertices t) x ≡ true → is_live (live_vertices t) (read_as v w x) ≡ true
    read_live x k = on_same x w
        (λ q. ap (is_live (live_vertices t)) (read-gone v w x q) ∙ l)
        (λ ne. ap (is_live (live_vertices t)) (read-other v w x ne) ∙ k)

    renamed-live : (e : Hyperedge) → members_live (live_vertices t) e ≡ true → members_live (live_vertices t) (renamed v w e) ≡ true
    unfolding members_live renamed
    renamed-live e k = all_map (read_as v w) _ e.members ∙ all_then _ _ e.members read_live k

    rename-holdable : holdable L (rename_vertex v w t) ≡ true
    unfolding rename_vertex renamed
    rename-holdable =
        let p : Holdable L t = holdable-of h in
        holdable-by (record {
          vertices-le = p.vertices-le;
          hyperedges-le = rw map-length p.hyperedges-le;
          counts = all_map (renamed v w) (count_fits L) t.hyperedges ∙ all_then _ _ t.hyperedges renamed-fits p.counts;
          vertices-numbered = p.vertices-numbered;
          hyperedges-numbered = rw (map-map hyperedge_number (renamed v w) t.hyperedges) p.hyperedges-numbered;
          members-live = all_map (renamed v w) _ t.hyperedges ∙ all_then _ _ t.hyperedges renamed-live p.members-live;
        })

    pub merge-holdable : holdable L (merge_vertices v w t) ≡ true
    unfolding merge_vertices
    merge-holdable = remove-vertex-holdable L w (rename_vertex v w t) rename-holdable
