-- A handed-in list that is accepted, and which calls bring equals together in the lists of a table. Assumes nothing.
use mathlib.Core.Path.{◌≡◌}
use mathlib.Core.Bool.{true, false}
use mathlib.Core.List.{List, [], ◌∷◌}
use Prim.Native.Nat.{ℕ}
use borrow.Author.Tests.{eqb-false}
use Rattle.lists.specs.Lists.{any}
use Rattle.lists.proofs.Cases.{on, clash, or-false-left, or-false-right}
use Rattle.layout.specs.Layout.{limit, read}
use Rattle.layout.specs.WellFormed.{well_formed}
use Rattle.layout.specs.Steps.{equal_neighbours}
use Rattle.layout.specs.Answers.{number, Result}
use Rattle.edits.proofs.Outcomes.{add-hyperedge-goes, update-goes}
use Rattle.calls.specs.Calls.{add_hyperedge, update, edit, Call, an_edit, call, Accepted, after_calls}
use Rattle.neighbours.specs.Neighbours.{NoneTwice, SomeTwice, may_bring, LeavesNoneTwice}
use Rattle.neighbours.proofs.Content.{no-self-step}
use Rattle.neighbours.proofs.Calls.{Unequal, call-keeps}

-- ---- what is handed in

-- where the result is no refusal, the list has no two equal neighbours
abbrev Differ : List ℕ → Result → Type 0
Differ ms r = r.number ≡ 0 → equal_neighbours ms ≡ false

module _ (ms : List ℕ) (ws : List ℕ) (formed : well_formed limit ws ≡ true) where
  -- an add that is not refused, be its answer a new number or that of an identical hyperedge
  pub add-unequal : (w : ℕ) → Accepted (an_edit (add_hyperedge ms w)) ws → equal_neighbours ms ≡ false
  unfolding call edit
  add-unequal w a =
      add-hyperedge-goes (Differ ms) ws formed (λ b n z. absurd (eqb-false (number b) 0 n z)) ms w (λ differ found x z. differ) (λ differ new h z. differ) a

  pub update-unequal : (x : ℕ) → Accepted (an_edit (update x ms)) ws → equal_neighbours ms ≡ false
  unfolding call edit
  update-unequal x a = update-goes (Differ ms) ws formed (λ b n z. absurd (eqb-false (number b) 0 n z)) x ms (λ differ h z. differ) a

-- ---- one call after the other

all_keep : (cs : List Call) (ws : List ℕ) → Unequal ws → any may_bring cs ≡ false → Unequal (after_calls cs ws)
unfolding after_calls any
all_keep [] ws u q = u
all_keep (c ∷ cs) ws u q =
    all_keep cs (call c ws).lent (call-keeps ws u c (or-false-left (may_bring c) (any may_bring cs) q)) (or-false-right (may_bring c) (any may_bring cs) q)

module _ (cs : List Call) (ws : List ℕ) (formed : well_formed limit ws ≡ true) (none : NoneTwice ws) where
  -- calls of which none removes a vertex, alone or in a tray, or reads a text, refused ones among them
  pub calls-keep : any may_bring cs ≡ false → LeavesNoneTwice cs ws
  calls-keep q =
      let u : Unequal (after_calls cs ws) = all_keep cs ws (record { formed = formed; none-twice = none }) q in
      record { formed = u.formed; none-twice = u.none-twice; no-self-step = no-self-step (read limit (after_calls cs ws)) u.none-twice }

  -- where some list has two equal neighbours after any calls, one of them removes a vertex, alone or in a tray, or reads a text
  pub removals-or-texts : SomeTwice (after_calls cs ws) → any may_bring cs ≡ true
  removals-or-texts s = on (any may_bring cs) (λ q. q) (λ q. clash (calls-keep q).none-twice s)
