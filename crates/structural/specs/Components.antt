-- Components of a table, by co-membership and by mutual reachability. Assumes nothing.
use Rattle.std.specs.Prelude.{◌≡◌, Bool, List, [], map, ℕ, ◌<◌, length, get_or, Ok}
use Rattle.lists.specs.Tests.{bit, every}
use Rattle.lists.specs.Lists.{flat, counted, up_to}
use Rattle.walks.specs.Walks.{Reach}
use Rattle.layout.specs.Content.{Table, live_vertices, is_live}
use Rattle.layout.specs.Steps.{StepIn}
use Rattle.layout.specs.Answers.{Result, result_of, listed}
use Rattle.steps.specs.Matrices.{TogetherIn, number_of, steps_between, undirected_between}
use Rattle.depth.specs.Finish.{finished}
use Rattle.components.specs.Classes.{reached, classes}
use Rattle.components.specs.Components.{Components}
use Rattle.strong.specs.Strong.{strong}

-- x and y are linked through co-membership
abbrev pub Linked : Table → ℕ → ℕ → Type 0
Linked t = Reach (TogetherIn t)

-- mutual reachability
pub record Mutual (t : Table) (x y : ℕ) : Type 0 where
  pub forth : Reach (StepIn t) x y
  pub back : Reach (StepIn t) y x

-- how many vertices are live
abbrev pub live_count : Table → ℕ
live_count t = length (live_vertices t)

-- the live vertices as they are finished: depth first from ascending starts, largest neighbour first, by record; records ascend by number
abbrev pub finish_order : Table → List ℕ
finish_order t = map (number_of t) (finished (steps_between t) (live_count t))

-- x is finished after y: it stands after y in that order
pub record FinishedAfter (t : Table) (x y : ℕ) : Type 0 where
  pub place : ℕ
  pub earlier : ℕ
  pub after : earlier < place
  pub within : place < length (finish_order t)
  pub is : get_or (finish_order t) place 0 ≡ x
  pub was : get_or (finish_order t) earlier 0 ≡ y

-- cs are the connected components: of linked vertices, ordered by smallest member
abbrev pub ConnectedComponentsIn : Table → List (List ℕ) → Type 0
ConnectedComponentsIn t cs = Components (is_live (live_vertices t)) (Linked t) ◌<◌ cs

-- cs are the strong components: of mutual reachability, ordered by latest finished member, the latest first
abbrev pub StrongComponentsIn : Table → List (List ℕ) → Type 0
StrongComponentsIn t cs = Components (is_live (live_vertices t)) (Mutual t) (FinishedAfter t) cs

-- ---- computed by record: the records ascend by number

-- connected when the table is empty, or all vertices are linked: every record is reached from the first, whatever the steps' direction
unfoldable pub connected : Table → Bool
connected t = every (reached (undirected_between t) (live_count t) 0) (live_count t)

-- connected components ignore step direction; a component for each record that is in none before it, ascending
unfoldable pub connected_components : Table → List (List ℕ)
connected_components t = map (map (number_of t)) (classes (reached (undirected_between t) (live_count t)) (live_count t) (up_to (live_count t)))

-- strong components: latest-finished vertex first
unfoldable pub strong_components : Table → List (List ℕ)
strong_components t = map (map (number_of t)) (strong (steps_between t) (live_count t))

-- ---- answers

-- is_connected: 1; then yes or no
unfoldable pub connected_result : Table → Result
connected_result t = result_of (Ok (bit (connected t))) []

-- connected_components: 1, 11; each component is its length and its members
unfoldable pub connected_components_result : List ℕ → Table → Result
connected_components_result lent t = listed (flat counted (connected_components t)) lent

-- strongly_connected_components: 1, 11; the same
unfoldable pub strong_components_result : List ℕ → Table → Result
strong_components_result lent t = listed (flat counted (strong_components t)) lent
