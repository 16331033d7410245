-- Tables in which no list has two equal neighbours, and which of the calls that write a table keep it so. Assumes nothing.
use Rattle.std.specs.Prelude.{◌≡◌, Bool, true, false, not, List, [], ◌∷◌, ℕ, eqb}
use Rattle.lists.specs.Lists.{all, any}
use Rattle.layout.specs.Content.{vertex_of, hyperedge_of, Hyperedge, Table}
use Rattle.layout.specs.Layout.{limit, read}
use Rattle.layout.specs.WellFormed.{well_formed}
use Rattle.layout.specs.Steps.{equal_neighbours, StepIn}
use Rattle.removals.specs.Removals.{vertex, hyperedge}
use Rattle.trays.specs.declared.Withdrawal.{Withdrawal}
use Rattle.trays.specs.Trays.{vertex_kind}
use Rattle.calls.specs.Calls.{add_vertex, add_hyperedge, update, merge, remove, withdraw, Call, an_edit, clear, read_text, Accepted, after_calls}

-- ---- the tables

-- the hyperedge's list has no two equal neighbours
unfoldable pub neighbours_differ : Hyperedge → Bool
neighbours_differ e = not (equal_neighbours e.members)

-- no list of the table has two equal neighbours
unfoldable pub none_twice : Table → Bool
none_twice t = all neighbours_differ t.hyperedges

-- the same of a table's words, and that some list has two
abbrev pub NoneTwice : List ℕ → Type 0
NoneTwice ws = none_twice (read limit ws) ≡ true

abbrev pub SomeTwice : List ℕ → Type 0
SomeTwice ws = none_twice (read limit ws) ≡ false

-- ---- the calls

-- the record is of a vertex
unfoldable pub of_vertex : Withdrawal → Bool
of_vertex w = eqb w.kind vertex_kind

-- the calls that may bring equals together: the removal of a vertex, a tray with a record of one, and the read of a text
unfoldable pub may_bring : Call → Bool
may_bring (an_edit (add_vertex w)) = false
may_bring (an_edit (add_hyperedge ms w)) = false
may_bring (an_edit (update x ms)) = false
may_bring (an_edit (merge v w)) = false
may_bring (an_edit (remove (vertex v))) = true
may_bring (an_edit (remove (hyperedge x))) = false
may_bring (an_edit (withdraw rs)) = any of_vertex rs
may_bring clear = false
may_bring (read_text text) = true

-- ---- what they leave

-- what a list of calls leaves of a table's words ws, where none of them may bring equals together and no list had two equal neighbours
pub record LeavesNoneTwice (cs : List Call) (ws : List ℕ) : Type 0 where
  -- a table again
  pub formed : well_formed limit (after_calls cs ws) ≡ true
  -- no list of it has two equal neighbours
  pub none-twice : NoneTwice (after_calls cs ws)
  -- no vertex has a step to itself
  pub no-self-step : (x : ℕ) → StepIn (read limit (after_calls cs ws)) x x → ⊥

-- what it is that a call brings equals together: ws are the words of a table before it
pub record Brings (c : Call) (ws : List ℕ) : Type 0 where
  -- a table in which no list had two equal neighbours
  pub formed : well_formed limit ws ≡ true
  pub none_before : NoneTwice ws
  -- the call is not refused, and some list has two after it
  pub accepted : Accepted c ws
  pub some_after : SomeTwice (after_calls (c ∷ []) ws)

-- ---- two tables to show it by

-- vertices 0 and 1, and the list [0,1,0]
abbrev pub Between : Table
Between = record {
  next_vertex = 2;
  next_hyperedge = 1;
  vertices = vertex_of 0 0 ∷ vertex_of 1 0 ∷ [];
  hyperedges = hyperedge_of 0 0 (0 ∷ 1 ∷ 0 ∷ []) ∷ [];
}

-- vertex 0, and the list [0,0]
abbrev pub Together : Table
Together = record {
  next_vertex = 2;
  next_hyperedge = 1;
  vertices = vertex_of 0 0 ∷ [];
  hyperedges = hyperedge_of 0 0 (0 ∷ 0 ∷ []) ∷ [];
}
