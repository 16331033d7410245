-- What one call leaves of a well-formed table in which no list has two equal neighbours. Assumes nothing.
use mathlib.Core.Path.{◌≡◌, refl, ap, ◌∙◌}
use mathlib.Core.Bool.{true, false}
use mathlib.Core.Logic.{⊎_elim}
use mathlib.Core.List.{List, [], ◌∷◌, map}
use Prim.Native.Nat.{ℕ}
use lib.ListN.{length, replicate}
use borrow.Author.Tests.{eq-eqb}
use Rattle.lists.specs.Lists.{all, any, tab}
use Rattle.lists.proofs.Cases.{on, clash, or-false-left, or-false-right}
use Rattle.layout.specs.Content.{Table, live_hyperedges, is_live}
use Rattle.layout.specs.Layout.{limit, size, read, words}
use Rattle.layout.specs.WellFormed.{well_formed, holdable}
use Rattle.layout.specs.Answers.{Result, on_live}
use Rattle.layout.proofs.Read.{formed-of}
use Rattle.layout.proofs.Answers.{formed-result}
use Rattle.layout.proofs.Back.{read-words, words-formed, read-holdable}
use Rattle.edits.specs.Results.{remove_hyperedge_result, clear_result}
use Rattle.edits.proofs.Holdable.{remove-hyperedge-holdable}
use Rattle.edits.proofs.Merged.{merge-holdable}
use Rattle.edits.proofs.Outcomes.{add-vertex-goes, add-hyperedge-goes, update-goes, merge-goes}
use Rattle.edits.proofs.StaysFormed.{clear_stays}
use Rattle.removals.specs.Removals
use Rattle.removals.specs.Removals.{vertex, hyperedge, removal, remove_all}
use Rattle.trays.specs.declared.Withdrawal.{Withdrawal}
use Rattle.trays.specs.Trays.{asked}
use Rattle.trays.specs.Outcomes.{left}
use Rattle.trays.proofs.Answered.{all-or-none}
use Rattle.calls.specs.Calls.{add_vertex, add_hyperedge, update, merge, remove, withdraw, edit, Call, an_edit, clear, read_text, call}
use Rattle.neighbours.specs.Neighbours.{none_twice, NoneTwice, of_vertex, may_bring}
use Rattle.neighbours.proofs.Content.{vertex-added, hyperedge-added, hyperedge-updated, vertices-merged, hyperedge-removed}

-- words of a table in which no list has two equal neighbours
pub record Unequal (ws : List ℕ) : Type 0 where
  pub formed : well_formed limit ws ≡ true
  pub none-twice : NoneTwice ws

-- what a call leaves is such a table
abbrev LeavesUnequal : Result → Type 0
LeavesUnequal r = Unequal r.lent

-- the words of a content
words-unequal : (t : Table) → holdable limit t ≡ true → none_twice t ≡ true → Unequal (words limit t)
words-unequal t h n = record { formed = words-formed limit t h; none-twice = ap none_twice (read-words limit t h) ∙ n }

-- the cleared words have no hyperedge
zeros-none : NoneTwice (replicate (size limit) 0)
unfolding none_twice tab all
zeros-none = refl

module _ (ws : List ℕ) (u : Unequal ws) where
  held : holdable limit (read limit ws) ≡ true
  held = read-holdable limit ws u.formed

  sized : length ws ≡ size limit
  sized = (formed-of limit ws u.formed).shape.sized

  -- the words that are left where a hyperedge is removed, or is not live
  removed : (x : ℕ) → Unequal (remove_hyperedge_result x ws (read limit ws)).lent
  unfolding remove_hyperedge_result on_live
  removed x =
      on (is_live (live_hyperedges (read limit ws)) x)
      (λ l. rw l (words-unequal _ (remove-hyperedge-holdable limit x (read limit ws) held) (hyperedge-removed (read limit ws) u.none-twice x)))
      (λ l. rw l u)

  hyperedge-taken : (x : ℕ) → Unequal (removal (hyperedge x) ws).lent
  unfolding removal
  hyperedge-taken x = rw (formed-result ws ws (remove_hyperedge_result x ws) u.formed) (removed x)

  cleared : Unequal (clear_result ws).lent
  unfolding clear_result
  cleared = record { formed = clear_stays ws sized; none-twice = rw (eq-eqb (length ws) (size limit) sized) zeros-none }

-- the removals that a tray with no record of a vertex asks for are removals of hyperedges
records-taken : (rs : List Withdrawal) (ws : List ℕ) → Unequal ws → any of_vertex rs ≡ false → Unequal (remove_all (map asked rs) ws)
unfolding any remove_all Removals.remove asked of_vertex
records-taken [] ws u q = u
records-taken (w ∷ rs) ws u q =
    rw (or-false-left (of_vertex w) (any of_vertex rs) q)
    (records-taken rs (removal (hyperedge w.number) ws).lent (hyperedge-taken ws u w.number) (or-false-right (of_vertex w) (any of_vertex rs) q))

module _ (ws : List ℕ) (u : Unequal ws) where
  withdrawn-tray : (rs : List Withdrawal) → any of_vertex rs ≡ false → Unequal (left rs ws)
  withdrawn-tray rs q = ⊎_elim (λ a. rw a.1 (records-taken rs ws u q)) (λ f. rw f.1 u) (all-or-none ws u.formed rs)

  -- every call but those that may bring equals together, done or refused
  pub call-keeps : (c : Call) → may_bring c ≡ false → Unequal (call c ws).lent
  unfolding call edit may_bring
  call-keeps (an_edit (add_vertex w)) q =
      add-vertex-goes LeavesUnequal ws u.formed (λ a n. u) w (λ h. words-unequal _ h (vertex-added (read limit ws) u.none-twice w))
  call-keeps (an_edit (add_hyperedge ms w)) q =
      add-hyperedge-goes LeavesUnequal ws u.formed (λ a n. u) ms w (λ differ found x. u)
      (λ differ new h. words-unequal _ h (hyperedge-added (read limit ws) u.none-twice ms differ w))
  call-keeps (an_edit (update x ms)) q =
      update-goes LeavesUnequal ws u.formed (λ a n. u) x ms (λ differ h. words-unequal _ h (hyperedge-updated (read limit ws) u.none-twice ms differ x))
  call-keeps (an_edit (merge v w)) q =
      merge-goes LeavesUnequal ws u.formed (λ a n. u) v w
      (λ m. words-unequal _ (merge-holdable limit v w (read limit ws) (held ws u) m.kept-live) (vertices-merged (read limit ws) u.none-twice limit v w (held ws u) m))
  call-keeps (an_edit (remove (vertex v))) q = clash refl q
  call-keeps (an_edit (remove (hyperedge x))) q = hyperedge-taken ws u x
  call-keeps (an_edit (withdraw rs)) q = withdrawn-tray rs q
  call-keeps clear q = cleared ws u
  call-keeps (read_text text) q = clash refl q
