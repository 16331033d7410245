-- What one call leaves of a well-formed table, and what a call for each of a list leaves. Assumes nothing.
use mathlib.Core.Path.{◌≡◌, sym, ap, ◌∙◌}
use mathlib.Core.Bool.{true}
use mathlib.Core.List.{List, [], ◌∷◌}
use Prim.Native.Nat.{ℕ}
use Rattle.lists.proofs.Cases.{on}
use Rattle.layout.specs.Content.{Table, live_vertices, live_hyperedges, is_live}
use Rattle.layout.specs.Layout.{limit, read, words}
use Rattle.layout.specs.WellFormed.{well_formed, holdable}
use Rattle.layout.specs.Answers.{Result, on_live}
use Rattle.layout.proofs.Answers.{formed-result}
use Rattle.layout.proofs.Back.{read-words, words-formed, read-holdable, exactly-one}
use Rattle.edits.specs.Edits.{remove_vertex, remove_hyperedge}
use Rattle.edits.specs.Results.{remove_vertex_result, remove_hyperedge_result}
use Rattle.removals.specs.Removals.{Removal, vertex, hyperedge, removal, remove, remove_all, withdrawn}
use Rattle.removals.proofs.Withdrawn.{taken, taken-holdable, withdrawn-first, withdrawn-none, vertex-dead, hyperedge-dead}

-- done or refused, the words are those of the content without it
module _ (ws : List ℕ) (t : Table) (h : holdable limit t ≡ true) (e : words limit t ≡ ws) where
  vertex-words : (v : ℕ) → (remove_vertex_result v ws t).lent ≡ words limit (remove_vertex v t)
  unfolding remove_vertex_result on_live
  vertex-words v = on (is_live (live_vertices t) v) (λ l. rw l) (λ l. rw l (sym (ap (words limit) (vertex-dead limit t h v l) ∙ e)))

  hyperedge-words : (x : ℕ) → (remove_hyperedge_result x ws t).lent ≡ words limit (remove_hyperedge x t)
  unfolding remove_hyperedge_result on_live
  hyperedge-words x = on (is_live (live_hyperedges t) x) (λ l. rw l) (λ l. rw l (sym (ap (words limit) (hyperedge-dead limit t h x l) ∙ e)))

module _ (ws : List ℕ) (w : well_formed limit ws ≡ true) where
  remove-words : (r : Removal) → remove r ws ≡ words limit (taken r (read limit ws))
  unfolding remove removal taken
  remove-words (vertex v) =
      ap (λ (r : Result). r.lent) (formed-result ws ws (remove_vertex_result v ws) w) ∙ vertex-words ws (read limit ws) (read-holdable limit ws w) (exactly-one limit ws w).1 v
  remove-words (hyperedge x) =
      ap (λ (r : Result). r.lent) (formed-result ws ws (remove_hyperedge_result x ws) w) ∙ hyperedge-words ws (read limit ws) (read-holdable limit ws w) (exactly-one limit ws w).1 x

  remove-formed : (r : Removal) → well_formed limit (remove r ws) ≡ true
  remove-formed r = rw (remove-words r) (words-formed limit (taken r (read limit ws)) (taken-holdable limit r (read limit ws) (read-holdable limit ws w)))

  remove-read : (r : Removal) → read limit (remove r ws) ≡ taken r (read limit ws)
  remove-read r = ap (read limit) (remove-words r) ∙ read-words limit (taken r (read limit ws)) (taken-holdable limit r (read limit ws) (read-holdable limit ws w))

-- ---- one call after the other

pub calls-formed : (rs : List Removal) (ws : List ℕ) → well_formed limit ws ≡ true → well_formed limit (remove_all rs ws) ≡ true
unfolding remove_all
calls-formed [] ws w = w
calls-formed (r ∷ rs) ws w = calls-formed rs (remove r ws) (remove-formed ws w r)

pub calls-read : (rs : List Removal) (ws : List ℕ) → well_formed limit ws ≡ true → read limit (remove_all rs ws) ≡ withdrawn rs (read limit ws)
unfolding remove_all
calls-read [] ws w = sym (withdrawn-none limit (read limit ws) (read-holdable limit ws w))
calls-read (r ∷ rs) ws w = calls-read rs (remove r ws) (remove-formed ws w r) ∙ ap (withdrawn rs) (remove-read ws w r) ∙ withdrawn-first r rs (read limit ws)
