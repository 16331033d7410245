-- The numbers that edits give, one call after the other, and what it is that no number is given twice. Assumes nothing.
use Rattle.std.specs.Prelude.{◌≡◌, true, cond, List, [], ◌∷◌, ◌++◌, ℕ, ◌≤◌, ◌<◌, eqb}
use Rattle.lists.specs.Lists.{any, memb, ascending}
use Rattle.layout.specs.Content.{live_vertices, live_hyperedges}
use Rattle.layout.specs.Layout.{limit, read}
use Rattle.layout.specs.WellFormed.{well_formed}
use Rattle.layout.specs.Answers.{Result}
use Rattle.edits.specs.Results.{identical}
use Rattle.calls.specs.Calls.{Edit, add_vertex, add_hyperedge, update, merge, remove, withdraw, edit, after}

-- ---- the two kinds

-- vertices and hyperedges are numbered apart
pub data Kind : Type 0 where
  vertices : Kind
  hyperedges : Kind

-- the first of two for vertices, the second for hyperedges
abbrev pub of_kind : {A : Type 0} → Kind → A → A → A
of_kind vertices v e = v
of_kind hyperedges v e = e

-- the live numbers of a kind in a table's words
unfoldable pub live : Kind → List ℕ → List ℕ
live k ws = of_kind k (live_vertices (read limit ws)) (live_hyperedges (read limit ws))

-- the next number of a kind in a table's words
unfoldable pub next_number : Kind → List ℕ → ℕ
next_number k ws = of_kind k (read limit ws).next_vertex (read limit ws).next_hyperedge

-- ---- the numbers that are given

-- what a call answers, where it is done
unfoldable pub answered : Result → List ℕ
answered r = cond (eqb r.number 0) (r.detail ∷ []) []

-- the number of the kind that one call gives: the answer of an add; where an identical hyperedge is live the answer is its number, and none is given
unfoldable pub given_by : Kind → Edit → List ℕ → List ℕ
given_by k (add_vertex w) ws = of_kind k (answered (edit (add_vertex w) ws)) []
given_by k (add_hyperedge ms w) ws =
    of_kind k [] (cond (any (identical ms w) (read limit ws).hyperedges) [] (answered (edit (add_hyperedge ms w) ws)))
given_by k (update x ms) ws = []
given_by k (merge v w) ws = []
given_by k (remove r) ws = []
given_by k (withdraw rs) ws = []

-- the numbers of the kind that one call for each of the list gives, in that order
unfoldable pub given : Kind → List Edit → List ℕ → List ℕ
given k [] ws = []
given k (e ∷ es) ws = given_by k e ws ++ given k es (edit e ws).lent

-- the numbers of the kind that are live at the start, and then those given on the way
unfoldable pub seen : Kind → List Edit → List ℕ → List ℕ
seen k es ws = live k ws ++ given k es ws

-- ---- no number is given twice

-- what holds of the numbers of a kind over a list of edits, from the words ws on
pub record NotTwice (k : Kind) (es : List Edit) (ws : List ℕ) : Type 0 where
  -- the table stays well formed
  pub formed : well_formed limit (after es ws) ≡ true
  -- the numbers live at the start and then those given, in their order, ascend strictly: none is given twice, and none that was live
  pub ascend : ascending (seen k es ws) ≡ true
  -- each number given is at or above the next number at the start
  pub from_start : (x : ℕ) → memb x (given k es ws) ≡ true → next_number k ws ≤ x
  -- each number live at the start or given is below the next number at the end
  pub below_end : (x : ℕ) → memb x (seen k es ws) ≡ true → x < next_number k (after es ws)
  -- the next number does not fall
  pub no-fall : next_number k ws ≤ next_number k (after es ws)
  -- what is live at the end was live at the start or was given
  pub live-seen : (x : ℕ) → memb x (live k (after es ws)) ≡ true → memb x (seen k es ws) ≡ true
  -- what a further edit gives is above every number live at the start or given
  pub further : (e : Edit) (x y : ℕ) → memb x (seen k es ws) ≡ true → memb y (given_by k e (after es ws)) ≡ true → x < y
