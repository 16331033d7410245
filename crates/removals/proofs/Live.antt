-- What is live after a list of removals. Assumes nothing.
use mathlib.Core.Path.{◌≡◌, refl, sym, ap, ◌∙◌}
use mathlib.Core.Bool.{Bool, true, false}
use mathlib.Core.List.{List, [], ◌∷◌, map, map-map}
use Prim.Native.Nat.{ℕ}
use native.Mathlib.Nat.{lt_irrefl, zero-lt-suc}
use lib.Dec.{eqb, ltb}
use lib.ListN.{length}
use borrow.Author.Tests.{eq-eqb, ne_eqb, lt-ltb, ltb-true}
use Rattle.lists.specs.Tests.{◌and◌}
use Rattle.lists.specs.Lists.{all, any, memb, filter, ascending}
use Rattle.lists.proofs.Cases.{on, on_same, clash, and_left, and_right, or_right}
use Rattle.lists.proofs.Kept.{filter_map, filter-swap, keys_kept, memb-filter}
use Rattle.lists.proofs.Memb.{memb-self}
use Rattle.layout.specs.Content.{Hyperedge, Table, vertex_number, hyperedge_number, live_vertices, live_hyperedges, is_live, numbered, valid}
use Rattle.layout.specs.WellFormed.{holdable}
use Rattle.edits.specs.Edits.{has_members}
use Rattle.edits.specs.Results.{members_of}
use Rattle.removals.specs.Removals.{Removal, stays_vertex, stays_hyperedge, kept_vertex, kept_hyperedge, thinned, withdrawn}

module _ (rs : List Removal) (t : Table) where
  -- a vertex is live exactly when it was live and is not named
  pub live-vertex : (v : ℕ) → is_live (live_vertices (withdrawn rs t)) v ≡ (stays_vertex rs v and is_live (live_vertices t) v)
  unfolding withdrawn kept_vertex
  live-vertex v = ap (memb v) (sym (filter_map vertex_number (stays_vertex rs) t.vertices)) ∙ memb-filter (stays_vertex rs) v (live_vertices t)

-- ---- hyperedges

-- one that has members is live
pub members-live : (p : ℕ → Bool) (x : ℕ) (es : List Hyperedge) → any p (members_of x es) ≡ true → memb x (map hyperedge_number es) ≡ true
unfolding any members_of
members-live p x [] e = clash e refl
members-live p x (f ∷ es) e =
    on_same f.number x
    (λ q. rw q (memb-self x (map hyperedge_number es)))
    (λ ne. or_right (eqb x f.number) (memb x (map hyperedge_number es)) (members-live p x es (rw (ne_eqb f.number x ne) at e)))

-- one stays of a list, or it is emptied
some_stay : (p : ℕ → Bool) (ms : List ℕ) → ltb 0 (length (filter p ms)) ≡ any p ms
unfolding filter any
some_stay p [] = refl
some_stay p (m ∷ ms) = on (p m) (λ h. rw h (lt-ltb 0 _ (zero-lt-suc (length (filter p ms))))) (λ h. rw h (some_stay p ms))

-- what is below all of a list is not in it
below_none : (x : ℕ) (ys : List ℕ) → all (ltb x) ys ≡ true → memb x ys ≡ false
unfolding all
below_none x [] e = refl
below_none x (y ∷ ys) e = rw (ne_eqb x y (λ q. lt_irrefl x (rw (← q) at (ltb-true x y (and_left _ _ e))))) (below_none x ys (and_right _ _ e))

module _ (rs : List Removal) where
  -- a member stays
  abbrev remains : Hyperedge → Bool
  remains e = has_members (thinned rs e)

  remains-some : (e : Hyperedge) → remains e ≡ any (stays_vertex rs) e.members
  unfolding has_members thinned
  remains-some e = some_stay (stays_vertex rs) e.members

  numbers-left : (es : List Hyperedge) → map hyperedge_number (filter has_members (map (thinned rs) (filter (kept_hyperedge rs) es))) ≡ filter (stays_hyperedge rs) (map hyperedge_number (filter remains es))
  unfolding kept_hyperedge thinned
  numbers-left es =
      ap (map hyperedge_number) (filter_map (thinned rs) has_members (filter (kept_hyperedge rs) es))
      ∙ map-map hyperedge_number (thinned rs) (filter remains (filter (kept_hyperedge rs) es))
      ∙ ap (map hyperedge_number) (filter-swap (kept_hyperedge rs) remains es)
      ∙ sym (filter_map hyperedge_number (stays_hyperedge rs) (filter remains es))

  remains-live : (x : ℕ) (es : List Hyperedge) → ascending (map hyperedge_number es) ≡ true → memb x (map hyperedge_number (filter remains es)) ≡ any (stays_vertex rs) (members_of x es)
  unfolding filter any members_of ascending
  remains-live x [] a = refl
  remains-live x (e ∷ es) a =
      on_same x e.number
      (λ q. let some : remains e ≡ any (stays_vertex rs) e.members = remains-some e in
      on (remains e)
      (λ h. rw (h, eq-eqb x e.number q, eq-eqb e.number x (sym q)) (sym h ∙ some))
      (λ h. rw (h, eq-eqb e.number x (sym q))
      (below_none x _ (keys_kept remains hyperedge_number (ltb x) es (rw q (and_left _ _ a))) ∙ sym h ∙ some)))
      (λ ne. on (remains e)
      (λ h. rw (h, ne_eqb x e.number ne, ne_eqb e.number x (λ q. ne (sym q))) (remains-live x es (and_right _ _ a)))
      (λ h. rw (h, ne_eqb e.number x (λ q. ne (sym q))) (remains-live x es (and_right _ _ a))))

  -- a hyperedge is live exactly when it is not named and a member of it is not named (`members_of` has none for a number that was not live)
  pub live-hyperedge : (L : ℕ) (t : Table) → holdable L t ≡ true → (x : ℕ)
      → is_live (live_hyperedges (withdrawn rs t)) x ≡ (stays_hyperedge rs x and any (stays_vertex rs) (members_of x t.hyperedges))
  unfolding withdrawn holdable valid numbered
  live-hyperedge L t h x =
      ap (memb x) (numbers-left t.hyperedges) ∙ memb-filter (stays_hyperedge rs) x _
      ∙ ap (λ (b : Bool). stays_hyperedge rs x and b)
      (remains-live x t.hyperedges (and_left _ _ (and_left _ _ (and_right _ _ (and_right _ _ (and_right _ _ (and_right _ _ h)))))))
