-- What a merge leaves of a content; two merges into one vertex, the one before the other and after it. Assumes nothing.
use mathlib.Core.Path.{◌≡◌, sym, ap, ◌∙◌}
use mathlib.Core.Bool.{Bool, true, false, not, ◌||◌}
use mathlib.Core.Logic.{⊎_elim}
use mathlib.Core.List.{List, map, map-map}
use Prim.Native.Nat.{ℕ}
use lib.Dec.{eqb}
use borrow.Author.Tests.{not-true, eqb-true, eqb-false, ne_eqb}
use Rattle.lists.specs.Tests.{◌and◌}
use Rattle.lists.specs.Lists.{any, memb, filter, other_than, itself}
use Rattle.lists.proofs.Cases.{on, on_same, clash, test-ext, and_left, and_right, and_both, or-true, or_right}
use Rattle.lists.proofs.Kept.{map-ext, filter-ext, filter_map, any_at, filter-filter, filter-swap, memb-filter}
use Rattle.layout.specs.Content.{Vertex, Hyperedge, Table, vertex_number, live_vertices, is_live}
use Rattle.layout.specs.WellFormed.{holdable}
use Rattle.layout.specs.Steps.{makes_step, has_step, StepIn}
use Rattle.edits.specs.Edits.{remove_vertex, read_as, renamed, rename_vertex, merge_vertices}
use Rattle.edits.specs.Results.{side_by_side}
use Rattle.edits.proofs.Merged.{Mergeable, read-gone, read-other, merge-is, merge-holdable}
use Rattle.merges.specs.Merges.{StepReadAs, has_number}
use Rattle.merges.proofs.Steps.{renamed-was, renamed-stays}
use Rattle.merges.proofs.Walks.{read_kept}
use Rattle.merges.proofs.Apart.{Apart, apart-map, was-apart, stays-apart}

-- ---- what is left

-- the vertices but w, and each hyperedge with w read as v in its list
abbrev pub left : ℕ → ℕ → Table → Table
left v w t = record {
  next_vertex = t.next_vertex;
  next_hyperedge = t.next_hyperedge;
  vertices = filter (other_than vertex_number w) t.vertices;
  hyperedges = map (renamed v w) t.hyperedges;
}

-- ---- vertices

-- v is the vertex that it was
pub kept_same : (v w : ℕ) → (v ≡ w → ⊥) → (vs : List Vertex) → filter (has_number v) (filter (other_than vertex_number w) vs) ≡ filter (has_number v) vs
unfolding other_than has_number
kept_same v w two vs =
    filter-filter (other_than vertex_number w) (has_number v) vs
    ∙ filter-ext _ (has_number v) vs (λ a. test-ext _ _ (λ h. and_right _ _ h)
    (λ h. and_both _ _ (ap not (ne_eqb a.number w (λ q. two (sym (eqb-true a.number v h) ∙ q)))) h))

-- a vertex is live exactly when it was live and is not w
live-left : (v w : ℕ) (t : Table) (x : ℕ) → is_live (live_vertices (merge_vertices v w t)) x ≡ (not (eqb x w) and is_live (live_vertices t) x)
unfolding merge_vertices remove_vertex rename_vertex other_than
live-left v w t x = ap (memb x) (sym (filter_map vertex_number (other_than itself w) t.vertices)) ∙ memb-filter (other_than itself w) x (live_vertices t)

-- ---- side by side is joined by a step

module _ (v w : ℕ) (t : Table) where
  pub apart_of : any (side_by_side v w) t.hyperedges ≡ false → Apart (StepIn t) v w
  unfolding side_by_side has_step
  apart_of h = (
    λ s. let e = any_at (makes_step v w) t.hyperedges s in
        clash (e.2 (side_by_side v w) (ap (λ (b : Bool). b || makes_step w v e.0) e.1)) h,
    λ s. let e = any_at (makes_step w v) t.hyperedges s in
        clash (e.2 (side_by_side v w) (or_right (makes_step v w e.0) (makes_step w v e.0) e.1)) h,
  )

  apart_by : Apart (StepIn t) v w → any (side_by_side v w) t.hyperedges ≡ false
  unfolding side_by_side has_step
  apart_by a =
      on (any (side_by_side v w) t.hyperedges)
      (λ h. let e = any_at (side_by_side v w) t.hyperedges h in
      absurd (⊎_elim (λ k. a.0 (e.2 (makes_step v w) k)) (λ k. a.1 (e.2 (makes_step w v) k)) (or-true (makes_step v w e.0) (makes_step w v e.0) e.1)))
      (λ h. h)

-- ---- steps

module _ (L v w : ℕ) (t : Table) (h : holdable L t ≡ true) (two : v ≡ w → ⊥) where
  lists-left : (merge_vertices v w t).hyperedges ≡ map (renamed v w) t.hyperedges
  lists-left = ap (λ (u : Table). u.hyperedges) (merge-is L v w t h two)

  pub step_left : (x y : ℕ) → StepIn (merge_vertices v w t) x y → StepReadAs v w (StepIn t) x y
  step_left x y s = renamed-was v w x y t (merge_vertices v w t) lists-left s

  pub left_step : (x y : ℕ) → StepReadAs v w (StepIn t) x y → StepIn (merge_vertices v w t) x y
  left_step x y s = renamed-stays v w x y t (merge_vertices v w t) lists-left s

-- ---- w and x merged into v: either may come first

module _ (L v w x : ℕ) (t : Table) (h : holdable L t ≡ true) (m : Mergeable v w t) where
  module _ (n : Mergeable v x (merge_vertices v w t)) where
    third-other : x ≡ w → ⊥
    third-other = eqb-false x w (not-true (eqb x w) (and_left _ _ (sym (live-left v w t x) ∙ n.gone-live)))

    apart-read : Apart (StepReadAs v w (StepIn t)) v x
    apart-read = apart-map (left_step L v w t h m.two) v x (apart_of v x (merge_vertices v w t) n.apart)

    pub first-mergeable : Mergeable v x t
    first-mergeable = record {
      kept-live = m.kept-live;
      gone-live = and_right _ _ (sym (live-left v w t x) ∙ n.gone-live);
      two = n.two;
      apart = apart_by v x t (was-apart (StepIn t) v w x third-other apart-read);
    }

    pub then-mergeable : Mergeable v w (merge_vertices v x t)
    then-mergeable = record {
      kept-live = live-left v x t v ∙ and_both _ _ (ap not (ne_eqb v x n.two)) m.kept-live;
      gone-live = live-left v x t w ∙ and_both _ _ (ap not (ne_eqb w x (λ q. third-other (sym q)))) m.gone-live;
      two = m.two;
      apart = apart_by v w (merge_vertices v x t) (apart-map (step_left L v x t h n.two) v w
          (stays-apart (StepIn t) v w x third-other apart-read m.two (apart_of v w t m.apart)));
    }

-- ---- both orders leave the same

-- w read as v and x read as v
reads-swap : (v w x y : ℕ) → read_as v x (read_as v w y) ≡ read_as v w (read_as v x y)
reads-swap v w x y =
    on_same y w
    (λ p. ap (read_as v x) (read-gone v w y p) ∙ read_kept v x
    ∙ on_same y x
    (λ q. sym (read_kept v w) ∙ ap (read_as v w) (sym (read-gone v x y q)))
    (λ nq. sym (read-gone v w y p) ∙ ap (read_as v w) (sym (read-other v x y nq))))
    (λ np. ap (read_as v x) (read-other v w y np)
    ∙ on_same y x
    (λ q. read-gone v x y q ∙ sym (read_kept v w) ∙ ap (read_as v w) (sym (read-gone v x y q)))
    (λ nq. read-other v x y nq ∙ sym (read-other v w y np) ∙ ap (read_as v w) (sym (read-other v x y nq))))

renamed-swap : (v w x : ℕ) (e : Hyperedge) → renamed v x (renamed v w e) ≡ renamed v w (renamed v x e)
unfolding renamed
renamed-swap v w x e =
    ap (λ (ms : List ℕ). record { number = e.number; weight = e.weight; members = ms })
    (map-map (read_as v x) (read_as v w) e.members ∙ map-ext _ _ e.members (reads-swap v w x) ∙ sym (map-map (read_as v w) (read_as v x) e.members))

left-swap : (v w x : ℕ) (t : Table) → left v x (left v w t) ≡ left v w (left v x t)
left-swap v w x t = λ i. record {
  next_vertex = t.next_vertex;
  next_hyperedge = t.next_hyperedge;
  vertices = filter-swap (other_than vertex_number w) (other_than vertex_number x) t.vertices i;
  hyperedges = (map-map (renamed v x) (renamed v w) t.hyperedges ∙ map-ext _ _ t.hyperedges (renamed-swap v w x)
      ∙ sym (map-map (renamed v w) (renamed v x) t.hyperedges)) i;
}

module _ (L v w x : ℕ) (t : Table) (h : holdable L t ≡ true) where
  twice-is : Mergeable v w t → (v ≡ x → ⊥) → merge_vertices v x (merge_vertices v w t) ≡ left v x (left v w t)
  twice-is m ne = merge-is L v x (merge_vertices v w t) (merge-holdable L v w t h m.kept-live) ne ∙ ap (left v x) (merge-is L v w t h m.two)

module _ (L v w x : ℕ) (t : Table) (h : holdable L t ≡ true) (m : Mergeable v w t) (n : Mergeable v x t) where
  pub merges-swap : merge_vertices v x (merge_vertices v w t) ≡ merge_vertices v w (merge_vertices v x t)
  merges-swap = twice-is L v w x t h m n.two ∙ left-swap v w x t ∙ sym (twice-is L v x w t h n m.two)
