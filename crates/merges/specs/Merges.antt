-- Merging one vertex into another: the call, and what it leaves of a table where it is not refused. Assumes nothing.
use Rattle.std.specs.Prelude.{◌≡◌, Bool, true, ◌⊎◌, List, map, ℕ, eqb}
use Rattle.lists.specs.Lists.{filter, other_than}
use Rattle.walks.specs.Walks.{Reach}
use Rattle.layout.specs.Content.{Vertex, Table, vertex_number}
use Rattle.layout.specs.Layout.{limit, read, words}
use Rattle.layout.specs.WellFormed.{well_formed}
use Rattle.layout.specs.Steps.{StepIn}
use Rattle.layout.specs.Answers.{Result, on_formed}
use Rattle.edits.specs.Edits.{read_as, renamed, merge_vertices}
use Rattle.edits.specs.Results.{merge_result}

-- ---- the call

-- merge_vertices of w into v, on the words of a table
abbrev pub merge_call : ℕ → ℕ → List ℕ → Result
merge_call v w ws = on_formed ws ws (merge_result v w ws)

-- the words after it
abbrev pub merged : ℕ → ℕ → List ℕ → List ℕ
merged v w ws = (merge_call v w ws).lent

-- it is not refused
abbrev pub Accepted : ℕ → ℕ → List ℕ → Type 0
Accepted v w ws = (merge_call v w ws).number ≡ 0

-- the content of the words before it, and of those after it
abbrev pub content_before : List ℕ → Table
content_before ws = read limit ws

abbrev pub content_after : ℕ → ℕ → List ℕ → Table
content_after v w ws = read limit (merged v w ws)

-- the words after w and then x are merged into v
abbrev pub merged_both : ℕ → ℕ → ℕ → List ℕ → List ℕ
merged_both v w x ws = merged v x (merged v w ws)

-- neither of the two calls is refused
pub record BothAccepted (v w x : ℕ) (ws : List ℕ) : Type 0 where
  pub first : Accepted v w ws
  pub second : Accepted v x (merged v w ws)

-- ---- v and w as one, over any relation

-- some step of R is x to y once w is read as v, at both of its ends
pub record StepReadAs (v w : ℕ) (R : ℕ → ℕ → Type 0) (x y : ℕ) : Type 0 where
  pub from : ℕ
  pub to : ℕ
  pub step : R from to
  pub from-reads : read_as v w from ≡ x
  pub to_reads : read_as v w to ≡ y

-- R with v and w taken as one vertex: the steps of R, and from v to w and from w to v
pub data AsOne (v w : ℕ) (R : ℕ → ℕ → Type 0) : ℕ → ℕ → Type 0 where
  own : {x y : ℕ} → R x y → AsOne v w R x y
  there : AsOne v w R v w
  back : AsOne v w R w v

-- ---- what a merge leaves

-- the vertex has number v
unfoldable pub has_number : ℕ → Vertex → Bool
has_number v a = eqb a.number v

-- what a merge of w into v that is not refused leaves of a table's words ws
pub record Merges (v w : ℕ) (ws : List ℕ) : Type 0 where
  -- a table again
  pub formed : well_formed limit (merged v w ws) ≡ true
  -- its words are those of the content with w merged into v
  pub words_are : merged v w ws ≡ words limit (merge_vertices v w (content_before ws))
  -- no number is given, and none comes back
  pub next-vertex : (content_after v w ws).next_vertex ≡ (content_before ws).next_vertex
  pub next-hyperedge : (content_after v w ws).next_hyperedge ≡ (content_before ws).next_hyperedge
  -- the vertices are those that were there, but w, in their order
  pub vertices-are : (content_after v w ws).vertices ≡ filter (other_than vertex_number w) (content_before ws).vertices
  -- v is the vertex that it was, its weight included
  pub kept-is : filter (has_number v) (content_after v w ws).vertices ≡ filter (has_number v) (content_before ws).vertices
  -- each hyperedge keeps its place, number and weight; its list is the one that it had, as long, with w read as v
  pub hyperedges-are : (content_after v w ws).hyperedges ≡ map (renamed v w) (content_before ws).hyperedges
  -- the steps are those that were there, with w read as v: none is new, and none is lost
  pub step-was : (x y : ℕ) → StepIn (content_after v w ws) x y → StepReadAs v w (StepIn (content_before ws)) x y
  pub step_stays : (x y : ℕ) → StepReadAs v w (StepIn (content_before ws)) x y → StepIn (content_after v w ws) x y
  -- y is reached from x, w read as v, exactly when it was reached with v and w taken as one
  pub reach-was : (x y : ℕ) → Reach (StepIn (content_after v w ws)) (read_as v w x) (read_as v w y) → Reach (AsOne v w (StepIn (content_before ws))) x y
  pub reach-stays : (x y : ℕ) → Reach (AsOne v w (StepIn (content_before ws))) x y → Reach (StepIn (content_after v w ws)) (read_as v w x) (read_as v w y)
  -- a vertex has a step to itself only where v, w or it had one
  pub self-was : (x : ℕ) → StepIn (content_after v w ws) x x → StepIn (content_before ws) v v ⊎ (StepIn (content_before ws) w w ⊎ StepIn (content_before ws) x x)
