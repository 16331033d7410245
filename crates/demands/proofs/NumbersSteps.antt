-- What one edit of a well-formed table does to the numbers of a kind: it gives none, or the next one. Assumes nothing.
use mathlib.Core.Path.{◌≡◌, refl, sym, ap, ◌∙◌}
use mathlib.Core.Bool.{Bool, true, cond}
use mathlib.Core.List.{List, [], ◌∷◌, ◌++◌, map, map-map}
use Prim.Native.Nat.{ℕ, ◌+◌}
use lib.Dec.{eqb}
use Rattle.lists.specs.Lists.{any, memb, filter, other_than}
use Rattle.lists.proofs.Cases.{on}
use Rattle.lists.proofs.Kept.{any-map, any-kept}
use Rattle.lists.proofs.Memb.{any-memb}
use Rattle.layout.specs.Content.{Table, vertex_number, hyperedge_number, live_vertices, live_hyperedges}
use Rattle.layout.specs.Layout.{limit, read, words}
use Rattle.layout.specs.WellFormed.{well_formed, holdable}
use Rattle.layout.proofs.Back.{read-words, words-formed, read-holdable}
use Rattle.edits.specs.Edits
use Rattle.edits.specs.Results.{identical}
use Rattle.edits.proofs.AddHoldable.{add-vertex-live, add-hyperedge-live, update-live}
use Rattle.edits.proofs.Merged.{merge-is, merge-holdable}
use Rattle.edits.proofs.Outcomes.{add-vertex-goes, add-hyperedge-goes, update-goes, merge-goes}
use Rattle.removals.specs.Removals
use Rattle.removals.specs.Removals.{Removal, remove_all, withdrawn}
use Rattle.removals.proofs.Theorems.{removals-formed, removals-content, vertex-was-live, hyperedge-was-live}
use Rattle.trays.specs.declared.Withdrawal.{Withdrawal}
use Rattle.trays.specs.Outcomes.{left}
use Rattle.trays.proofs.Answered.{left-removals}
use Rattle.calls.specs.Calls.{Edit, add_vertex, add_hyperedge, update, merge, remove, withdraw, edit}
use Rattle.demands.specs.Numbers.{Kind, vertices, hyperedges, of_kind, live, next_number, answered, given_by}

-- from the words ws to the words s, with the numbers given between them: none, and nothing is live that was not; or the next one, and it is live
pub data Moved (k : Kind) (ws s : List ℕ) : List ℕ → Type 0 where
  kept : well_formed limit s ≡ true → next_number k s ≡ next_number k ws → ((x : ℕ) → memb x (live k s) ≡ true → memb x (live k ws) ≡ true) → Moved k ws s []
  grown : well_formed limit s ≡ true → next_number k s ≡ next_number k ws + 1 → live k s ≡ live k ws ++ (next_number k ws ∷ []) → Moved k ws s (next_number k ws ∷ [])

-- the live numbers and the next number of a content
abbrev live_of : Kind → Table → List ℕ
live_of k t = of_kind k (live_vertices t) (live_hyperedges t)

abbrev next_of : Kind → Table → ℕ
next_of k t = of_kind k t.next_vertex t.next_hyperedge

-- a call that leaves the words of the content t
module _ (k : Kind) (ws : List ℕ) (t : Table) (h : holdable limit t ≡ true) where
  left-next : next_number k (words limit t) ≡ next_of k t
  unfolding next_number
  left-next = ap (next_of k) (read-words limit t h)

  left-live : live k (words limit t) ≡ live_of k t
  unfolding live
  left-live = ap (live_of k) (read-words limit t h)

  to-kept : next_of k t ≡ next_number k ws → ((x : ℕ) → memb x (live_of k t) ≡ true → memb x (live k ws) ≡ true) → Moved k ws (words limit t) []
  to-kept n l = kept (words-formed limit t h) (left-next ∙ n) (λ x m. l x (rw left-live at m))

  to-grown : next_of k t ≡ next_number k ws + 1 → live_of k t ≡ live k ws ++ (next_number k ws ∷ []) → Moved k ws (words limit t) (next_number k ws ∷ [])
  to-grown n l = grown (words-formed limit t h) (left-next ∙ n) (left-live ∙ l)

-- a key of one that is kept was a key
key-kept : {A : Type 0} (p : A → Bool) (f : A → ℕ) (xs : List A) (x : ℕ) → memb x (map f (filter p xs)) ≡ true → memb x (map f xs) ≡ true
key-kept p f xs x m =
    sym (any-memb x (map f xs)) ∙ any-map f (eqb x) xs
    ∙ any-kept p (λ a. eqb x (f a)) xs (sym (any-map f (eqb x) (filter p xs)) ∙ any-memb x (map f (filter p xs)) ∙ m)

-- ---- each edit

module _ (ws : List ℕ) (formed : well_formed limit ws ≡ true) where
  unchanged : (k : Kind) → Moved k ws ws []
  unchanged k = kept formed refl (λ x m. m)

  vertex-added : (k : Kind) (w : ℕ) → Moved k ws (edit (add_vertex w) ws).lent (given_by k (add_vertex w) ws)
  unfolding edit given_by answered live next_number Edits.add_vertex
  vertex-added vertices w =
      add-vertex-goes (λ r. Moved vertices ws r.lent (answered r)) ws formed (λ a n. rw n (unchanged vertices)) w
      (λ h. to-grown vertices ws _ h refl (add-vertex-live w (read limit ws)))
  vertex-added hyperedges w =
      add-vertex-goes (λ r. Moved hyperedges ws r.lent []) ws formed (λ a n. unchanged hyperedges) w
      (λ h. to-kept hyperedges ws _ h refl (λ x m. m))

  hyperedge-added : (k : Kind) (ms : List ℕ) (w : ℕ) → Moved k ws (edit (add_hyperedge ms w) ws).lent (given_by k (add_hyperedge ms w) ws)
  unfolding edit given_by answered live next_number Edits.add_hyperedge
  hyperedge-added vertices ms w =
      add-hyperedge-goes (λ r. Moved vertices ws r.lent []) ws formed (λ a n. unchanged vertices) ms w (λ u q x. unchanged vertices)
      (λ u q h. to-kept vertices ws _ h refl (λ x m. m))
  hyperedge-added hyperedges ms w =
      let found : Bool = any (identical ms w) (read limit ws).hyperedges in
      add-hyperedge-goes (λ r. Moved hyperedges ws r.lent (cond found [] (answered r))) ws formed
      (λ a n. rw n (on found (λ q. rw q (unchanged hyperedges)) (λ q. rw q (unchanged hyperedges)))) ms w
      (λ u q x. rw q (unchanged hyperedges))
      (λ u q h. rw q (to-grown hyperedges ws _ h refl (add-hyperedge-live ms w (read limit ws))))

  updated : (k : Kind) (x : ℕ) (ms : List ℕ) → Moved k ws (edit (update x ms) ws).lent []
  unfolding edit live next_number Edits.update_hyperedge
  updated vertices x ms =
      update-goes (λ r. Moved vertices ws r.lent []) ws formed (λ a n. unchanged vertices) x ms
      (λ u h. to-kept vertices ws _ h refl (λ v m. m))
  updated hyperedges x ms =
      update-goes (λ r. Moved hyperedges ws r.lent []) ws formed (λ a n. unchanged hyperedges) x ms
      (λ u h. to-kept hyperedges ws _ h refl (λ e m. rw (update-live x ms (read limit ws)) at m))

  -- the vertices are the old ones but one, and the hyperedges' numbers are the old ones
  were-live : (k : Kind) (v w : ℕ) → (v ≡ w → ⊥) → (x : ℕ) → memb x (live_of k (Edits.merge_vertices v w (read limit ws))) ≡ true → memb x (live k ws) ≡ true
  unfolding live Edits.renamed
  were-live vertices v w two x m =
      key-kept (other_than vertex_number w) vertex_number (read limit ws).vertices x
      (rw (merge-is limit v w (read limit ws) (read-holdable limit ws formed) two) at m)
  were-live hyperedges v w two x m =
      sym (ap (memb x) (ap live_hyperedges (merge-is limit v w (read limit ws) (read-holdable limit ws formed) two)
      ∙ map-map hyperedge_number (Edits.renamed v w) (read limit ws).hyperedges)) ∙ m

  next-stays : (k : Kind) (v w : ℕ) → next_of k (Edits.merge_vertices v w (read limit ws)) ≡ next_number k ws
  unfolding next_number Edits.merge_vertices Edits.remove_vertex Edits.rename_vertex
  next-stays vertices v w = refl
  next-stays hyperedges v w = refl

  merged : (k : Kind) (v w : ℕ) → Moved k ws (edit (merge v w) ws).lent []
  unfolding edit
  merged k v w =
      merge-goes (λ r. Moved k ws r.lent []) ws formed (λ a n. unchanged k) v w
      (λ m. to-kept k ws _ (merge-holdable limit v w (read limit ws) (read-holdable limit ws formed) m.kept-live) (next-stays k v w) (were-live k v w m.two))

  -- any list of removals
  removed-next : (k : Kind) (rs : List Removal) → next_number k (remove_all rs ws) ≡ next_number k ws
  unfolding next_number withdrawn
  removed-next vertices rs = ap (next_of vertices) (removals-content ws formed rs)
  removed-next hyperedges rs = ap (next_of hyperedges) (removals-content ws formed rs)

  removed-live : (k : Kind) (rs : List Removal) (x : ℕ) → memb x (live k (remove_all rs ws)) ≡ true → memb x (live k ws) ≡ true
  unfolding live
  removed-live vertices rs x m = vertex-was-live ws formed rs x m
  removed-live hyperedges rs x m = hyperedge-was-live ws formed rs x m

  removed : (k : Kind) (rs : List Removal) → Moved k ws (remove_all rs ws) []
  removed k rs = kept (removals-formed ws formed rs) (removed-next k rs) (removed-live k rs)

  -- a tray, accepted or refused, leaves what a list of removals leaves
  withdrawn-tray : (k : Kind) (rs : List Withdrawal) → Moved k ws (left rs ws) []
  withdrawn-tray k rs = let q = left-removals ws formed rs in rw q.1 (removed k q.0)

  -- every edit
  pub edit-moved : (k : Kind) (e : Edit) → Moved k ws (edit e ws).lent (given_by k e ws)
  unfolding edit given_by remove_all Removals.remove
  edit-moved k (add_vertex w) = vertex-added k w
  edit-moved k (add_hyperedge ms w) = hyperedge-added k ms w
  edit-moved k (update x ms) = updated k x ms
  edit-moved k (merge v w) = merged k v w
  edit-moved k (remove r) = removed k (r ∷ [])
  edit-moved k (withdraw rs) = withdrawn-tray k rs
