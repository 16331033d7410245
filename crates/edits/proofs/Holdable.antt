-- What a removal leaves of a content that a table can hold can be held too. Assumes nothing.
use mathlib.Core.Path.{◌≡◌, ◌∙◌}
use mathlib.Core.Bool.{Bool, true}
use mathlib.Core.List.{List, map, map-map}
use Prim.Native.Nat.{ℕ}
use native.Mathlib.Nat.{le_trans}
use lib.Dec.{leb}
use lib.ListN.{length}
use borrow.Author.Tests.{leb-true, le-leb}
use Rattle.lists.specs.Tests.{◌and◌}
use Rattle.lists.specs.Lists.{all, filter, other_than, is_below, itself}
use Rattle.lists.proofs.Cases.{and_left, and_right, and_both}
use Rattle.lists.proofs.Maps.{map-length}
use Rattle.lists.proofs.Kept.{all_then, all_both, all_map, filter_map, filter-length, filter-pass, all-kept, keys_kept, ascending-kept, memb-filter}
use Rattle.layout.specs.Content.{Vertex, Hyperedge, Table, vertex_number, hyperedge_number, is_live, numbered, members_live, valid}
use Rattle.layout.specs.Layout.{vertex_limit, hyperedge_limit}
use Rattle.layout.specs.WellFormed.{count_fits, holdable}
use Rattle.edits.specs.Edits.{without, has_members, remove_vertex, remove_hyperedge}

-- a filtered list is not longer
few-kept : {A : Type 0} (p : A → Bool) (xs : List A) (n : ℕ) → leb (length xs) n ≡ true → leb (length (filter p xs)) n ≡ true
few-kept p xs n e = le-leb _ n (le_trans (filter-length p xs) (leb-true _ n e))

numbered-kept : {A : Type 0} (p : A → Bool) (f : A → ℕ) (xs : List A) (next : ℕ) → numbered (map f xs) next ≡ true → numbered (map f (filter p xs)) next ≡ true
unfolding numbered
numbered-kept p f xs next e = and_both _ _ (ascending-kept p f xs (and_left _ _ e)) (keys_kept p f (is_below next) xs (and_right _ _ e))

-- ---- the members without v

fits : ℕ → Hyperedge → Bool
fits L e = leb (length e.members) L

module _ (v : ℕ) where
  -- those that are live are live without v
  live-without : (vs : List Vertex) (x : ℕ) → (is_live (map vertex_number vs) x and other_than itself v x) ≡ true → is_live (map vertex_number (filter (other_than vertex_number v) vs)) x ≡ true
  unfolding other_than
  live-without vs x e =
      rw (← filter_map vertex_number (other_than itself v) vs) (memb-filter (other_than itself v) x (map vertex_number vs) ∙ and_both _ _ (and_right _ _ e) (and_left _ _ e))

  members-without : (vs : List Vertex) (e : Hyperedge) → members_live (map vertex_number vs) e ≡ true → members_live (map vertex_number (filter (other_than vertex_number v) vs)) (without v e) ≡ true
  unfolding members_live without
  members-without vs e h =
      all_then _ _ _ (live-without vs)
      (all_both _ _ _ (all-kept (other_than itself v) (is_live (map vertex_number vs)) e.members h) (filter-pass (other_than itself v) e.members))

  fits-without : (L : ℕ) (e : Hyperedge) → count_fits L e ≡ true → fits L (without v e) ≡ true
  unfolding count_fits without fits
  fits-without L e h = few-kept (other_than itself v) e.members L (and_right _ _ h)

  counted-without : (L : ℕ) (es : List Hyperedge) → all (count_fits L) es ≡ true → all (count_fits L) (filter has_members (map (without v) es)) ≡ true
  unfolding count_fits has_members fits
  counted-without L es h =
      all_both has_members (fits L) _ (filter-pass has_members (map (without v) es))
      (all-kept has_members (fits L) (map (without v) es) (all_map (without v) (fits L) es ∙ all_then _ _ es (fits-without L) h))

  numbers-without : (es : List Hyperedge) → map hyperedge_number (map (without v) es) ≡ map hyperedge_number es
  unfolding without
  numbers-without es = map-map hyperedge_number (without v) es

-- ---- the removals

module _ (L x : ℕ) (t : Table) (h : holdable L t ≡ true) where
  pub remove-vertex-holdable : holdable L (remove_vertex x t) ≡ true
  unfolding holdable valid remove_vertex
  remove-vertex-holdable =
      let a = and_right _ _ h in let b = and_right _ _ a in let c = and_right _ _ b in let d = and_right _ _ c in
      and_both _ _ (few-kept _ t.vertices vertex_limit (and_left _ _ h))
      (and_both _ _ (few-kept _ (map (without x) t.hyperedges) hyperedge_limit (rw map-length (and_left _ _ a)))
      (and_both _ _ (counted-without x L t.hyperedges (and_left _ _ b))
      (and_both _ _ (numbered-kept _ vertex_number t.vertices t.next_vertex (and_left _ _ c))
      (and_both _ _ (numbered-kept _ hyperedge_number (map (without x) t.hyperedges) t.next_hyperedge (rw (numbers-without x t.hyperedges) (and_left _ _ d)))
      (all-kept has_members _ (map (without x) t.hyperedges)
      (all_map (without x) _ t.hyperedges ∙ all_then _ _ t.hyperedges (members-without x t.vertices) (and_right _ _ d)))))))

  pub remove-hyperedge-holdable : holdable L (remove_hyperedge x t) ≡ true
  unfolding holdable valid remove_hyperedge
  remove-hyperedge-holdable =
      let a = and_right _ _ h in let b = and_right _ _ a in let c = and_right _ _ b in let d = and_right _ _ c in
      and_both _ _ (and_left _ _ h)
      (and_both _ _ (few-kept _ t.hyperedges hyperedge_limit (and_left _ _ a))
      (and_both _ _ (all-kept _ _ t.hyperedges (and_left _ _ b))
      (and_both _ _ (and_left _ _ c)
      (and_both _ _ (numbered-kept _ hyperedge_number t.hyperedges t.next_hyperedge (and_left _ _ d))
      (all-kept _ _ t.hyperedges (and_right _ _ d))))))
