-- What every list of removals keeps to, repeats and unknown numbers included. Assumes nothing.
use Rattle.std.specs.Prelude.{Err}
use mathlib.Core.Path.{◌≡◌, refl, sym, ap, ◌∙◌}
use mathlib.Core.Bool.{Bool, true, false}
use mathlib.Core.List.{List, [], ◌∷◌, ◌++◌}
use Prim.Native.Nat.{ℕ}
use Rattle.lists.specs.Tests.{◌and◌}
use Rattle.lists.specs.Lists.{any}
use Rattle.lists.proofs.Cases.{and_right, and-false-right}
use Rattle.walks.specs.Walks.{Reach, Closed}
use Rattle.layout.specs.declared.Refusal.TheVariants.{NotWellFormed}
use Rattle.layout.specs.Content.{Table, live_vertices, live_hyperedges, is_live}
use Rattle.layout.specs.Layout.{limit, read, words}
use Rattle.layout.specs.WellFormed.{well_formed}
use Rattle.layout.specs.Answers.{Result, result_of, on_formed, on_live, vertex_missing, hyperedge_missing}
use Rattle.layout.specs.Steps.{StepIn}
use Rattle.layout.proofs.Answers.{formed-result}
use Rattle.layout.proofs.Back.{read-holdable, exactly-one}
use Rattle.edits.specs.Results.{members_of, remove_vertex_result, remove_hyperedge_result}
use Rattle.removals.specs.Orders.{Permutes}
use Rattle.removals.specs.Removals.{Removal, vertex, hyperedge, removal, remove, remove_all, stays_vertex, stays_hyperedge, withdrawn}
use Rattle.removals.proofs.Orders.{any-permutes}
use Rattle.removals.proofs.Withdrawn.{withdrawn-same}
use Rattle.removals.proofs.Calls.{calls-formed, calls-read}
use Rattle.removals.proofs.Live.{members-live, live-vertex, live-hyperedge}
use Rattle.removals.proofs.Steps.{withdrawn-reach, withdrawn-closed}

module _ (ws : List ℕ) (formed : well_formed limit ws ≡ true) where
  -- the table stays well formed
  pub removals-formed : (rs : List Removal) → well_formed limit (remove_all rs ws) ≡ true
  removals-formed rs = calls-formed rs ws formed

  -- it holds the closed form, and its words are those of the closed form
  pub removals-content : (rs : List Removal) → read limit (remove_all rs ws) ≡ withdrawn rs (read limit ws)
  removals-content rs = calls-read rs ws formed

  pub removals-words : (rs : List Removal) → remove_all rs ws ≡ words limit (withdrawn rs (read limit ws))
  removals-words rs = sym (exactly-one limit (remove_all rs ws) (removals-formed rs)).1 ∙ ap (words limit) (removals-content rs)

  -- two lists with the same removals, however often and in whatever order, end in the same words
  pub removals-same : (rs ss : List Removal) → ((p : Removal → Bool) → any p rs ≡ any p ss) → remove_all rs ws ≡ remove_all ss ws
  removals-same rs ss q = removals-words rs ∙ ap (words limit) (withdrawn-same rs ss q (read limit ws)) ∙ sym (removals-words ss)

  -- every order ends in the same words
  pub removals-permute : {rs ss : List Removal} → Permutes rs ss → remove_all rs ws ≡ remove_all ss ws
  removals-permute {rs} {ss} q = removals-same rs ss (λ p. any-permutes p q)

  -- what can be reached afterwards could be reached before
  pub removals-reach : (rs : List Removal) (x y : ℕ) → Reach (StepIn (read limit (remove_all rs ws))) x y → Reach (StepIn (read limit ws)) x y
  removals-reach rs x y w = withdrawn-reach rs (read limit ws) x y (rw (removals-content rs) at w)

  -- a closed walk afterwards was one before: a table that sorted still sorts
  pub removals-closed : (rs : List Removal) → Closed (StepIn (read limit (remove_all rs ws))) → Closed (StepIn (read limit ws))
  removals-closed rs c = withdrawn-closed rs (read limit ws) (rw (removals-content rs) at c)

  -- a vertex is live afterwards exactly when it was live and is not named
  pub removals-vertex : (rs : List Removal) (v : ℕ) → is_live (live_vertices (read limit (remove_all rs ws))) v ≡ (stays_vertex rs v and is_live (live_vertices (read limit ws)) v)
  removals-vertex rs v = ap (λ (t : Table). is_live (live_vertices t) v) (removals-content rs) ∙ live-vertex rs (read limit ws) v

  -- a hyperedge is live afterwards exactly when it is not named and a member of it is not named (`members_of` has none for a number that was not live)
  pub removals-hyperedge : (rs : List Removal) (x : ℕ)
      → is_live (live_hyperedges (read limit (remove_all rs ws))) x ≡ (stays_hyperedge rs x and any (stays_vertex rs) (members_of x (read limit ws).hyperedges))
  removals-hyperedge rs x =
      ap (λ (t : Table). is_live (live_hyperedges t) x) (removals-content rs) ∙ live-hyperedge rs limit (read limit ws) (read-holdable limit ws formed) x

  -- what is live afterwards was live before
  pub vertex-was-live : (rs : List Removal) (v : ℕ) → is_live (live_vertices (read limit (remove_all rs ws))) v ≡ true → is_live (live_vertices (read limit ws)) v ≡ true
  vertex-was-live rs v l = and_right _ _ (sym (removals-vertex rs v) ∙ l)

  pub hyperedge-was-live : (rs : List Removal) (x : ℕ) → is_live (live_hyperedges (read limit (remove_all rs ws))) x ≡ true → is_live (live_hyperedges (read limit ws)) x ≡ true
  hyperedge-was-live rs x l = members-live (stays_vertex rs) x (read limit ws).hyperedges (and_right _ _ (sym (removals-hyperedge rs x) ∙ l))

  -- what is not live is refused, and nothing changes
  pub vertex-refused : (v : ℕ) → is_live (live_vertices (read limit ws)) v ≡ false → removal (vertex v) ws ≡ result_of (vertex_missing v) ws
  unfolding removal remove_vertex_result on_live
  vertex-refused v d = formed-result ws ws (remove_vertex_result v ws) formed ∙ rw d

  pub hyperedge-refused : (x : ℕ) → is_live (live_hyperedges (read limit ws)) x ≡ false → removal (hyperedge x) ws ≡ result_of (hyperedge_missing x) ws
  unfolding removal remove_hyperedge_result on_live
  hyperedge-refused x d = formed-result ws ws (remove_hyperedge_result x ws) formed ∙ rw d

-- two lists, the one after the other
pub removals-append : (rs ss : List Removal) (ws : List ℕ) → remove_all (rs ++ ss) ws ≡ remove_all ss (remove_all rs ws)
unfolding remove_all
removals-append [] ss ws = refl
removals-append (r ∷ rs) ss ws = removals-append rs ss (remove r ws)

-- a hyperedge whose members were all removed is gone: its removal is refused, and nothing changes
pub emptied-refused : (rs : List Removal) (x : ℕ) (ws : List ℕ) → well_formed limit ws ≡ true → any (stays_vertex rs) (members_of x (read limit ws).hyperedges) ≡ false
    → removal (hyperedge x) (remove_all rs ws) ≡ result_of (hyperedge_missing x) (remove_all rs ws)
emptied-refused rs x ws formed d =
    hyperedge-refused (remove_all rs ws) (removals-formed ws formed rs) x (removals-hyperedge ws formed rs x ∙ and-false-right (stays_hyperedge rs x) _ d)

-- words that are no table are refused, and nothing changes
pub removal-unformed : (r : Removal) (ws : List ℕ) → well_formed limit ws ≡ false → removal r ws ≡ result_of (Err NotWellFormed) ws
unfolding removal on_formed
removal-unformed (vertex v) ws u = rw u
removal-unformed (hyperedge x) ws u = rw u

pub removals-unformed : (rs : List Removal) (ws : List ℕ) → well_formed limit ws ≡ false → remove_all rs ws ≡ ws
unfolding remove_all remove
removals-unformed [] ws u = refl
removals-unformed (r ∷ rs) ws u = ap (λ (a : Result). remove_all rs a.lent) (removal-unformed r ws u) ∙ removals-unformed rs ws u
