-- Paths: the hyperedge and the cost of a step, the best walk between two vertices, the costs from a vertex. Assumes nothing.
use Rattle.std.specs.Prelude.{◌≡◌, true, cond, List, [], ◌∷◌, ℕ, zero, suc, ◌/◌, ◌%◌, ◌≤◌, ◌<◌, ltb, length, get_or}
use Rattle.std.proofs.Math.Option.{Option, none, some}
use Rattle.lists.specs.Lists.{flat}
use Rattle.layout.specs.Content.{Hyperedge, no_hyperedge, Table, live_vertices}
use Rattle.layout.specs.Steps.{makes_step, has_step}
use Rattle.layout.specs.Answers.{Result, on_live_vertex, on_live_vertices, listed}
use Rattle.distance.specs.Best.{total}
use Rattle.distance.specs.Computed.{best}

-- ---- the hyperedge of a step

-- e is the step's hyperedge: it makes the step, none that makes it weighs less, and of those that weigh as much it has the lowest number
pub record Lightest (t : Table) (x y : ℕ) (e : Hyperedge) : Type 0 where
  pub place : ℕ
  pub within : place < length t.hyperedges
  pub here : get_or t.hyperedges place no_hyperedge ≡ e
  pub makes : makes_step x y e ≡ true
  pub least : (j : ℕ) → j < length t.hyperedges → makes_step x y (get_or t.hyperedges j no_hyperedge) ≡ true
      → e.weight ≤ (get_or t.hyperedges j no_hyperedge).weight
  pub lowest : (j : ℕ) → j < length t.hyperedges → makes_step x y (get_or t.hyperedges j no_hyperedge) ≡ true
      → (get_or t.hyperedges j no_hyperedge).weight ≡ e.weight → e.number ≤ (get_or t.hyperedges j no_hyperedge).number

-- The same computed, down to `choice`. By `lightest-is` and `lightest-only` (paths/proofs/Lightest) it is the hyperedge that `Lightest` describes.

-- hyperedges by place, counted from 1; at place 0 there is none
abbrev pub hyperedge_by : Table → ℕ → Hyperedge
hyperedge_by t zero = no_hyperedge
hyperedge_by t (suc j) = get_or t.hyperedges j no_hyperedge

-- the weight of the hyperedge at a place
abbrev pub weight_by : Table → ℕ → ℕ
weight_by t k = (hyperedge_by t k).weight

-- of two hyperedges of a step, by place: the later one only where it weighs less
unfoldable pub lighter : (ℕ → ℕ) → ℕ → ℕ → ℕ
lighter weight zero k = k
lighter weight (suc c) k = cond (ltb (weight k) (weight (suc c))) k (suc c)

-- the place of the step's hyperedge among the first k; 0 where none of them makes the step
unfoldable pub choice_among : Table → ℕ → ℕ → ℕ → ℕ
choice_among t zero x y = zero
choice_among t (suc k) x y =
    let c = choice_among t k x y in
    cond (makes_step x y (hyperedge_by t (suc k))) (lighter (weight_by t) c (suc k)) c

-- the place of the step's hyperedge
unfoldable pub choice : Table → ℕ → ℕ → ℕ
choice t x y = choice_among t (length t.hyperedges) x y

-- the hyperedge that a path takes for a step: of least-weight hyperedges the lowest number
unfoldable pub step_hyperedge : Table → ℕ → ℕ → ℕ
step_hyperedge t x y = (hyperedge_by t (choice t x y)).number

-- the cost of a step: the least weight among its hyperedges
unfoldable pub step_cost : Table → ℕ → ℕ → ℕ
step_cost t x y = weight_by t (choice t x y)

-- ---- the pair

-- the best walk from x to y along steps, by its vertices after x; none where there is no walk
unfoldable pub best_path : Table → ℕ → ℕ → Option (List ℕ)
best_path t x y = best (has_step t) (step_cost t) (live_vertices t) x y

-- low word, high word
abbrev pub low : ℕ → ℕ
low c = c % 4294967296

abbrev pub high : ℕ → ℕ
high c = c / 4294967296

-- the first entry's hyperedge, meaning none
abbrev pub no_number : ℕ
no_number = 4294967295

-- the entries after x: each vertex, and the hyperedge of the step to it
unfoldable pub entries_after : Table → ℕ → List ℕ → List ℕ
entries_after t x [] = []
entries_after t x (v ∷ l) = v ∷ step_hyperedge t x v ∷ entries_after t v l

-- the total (low word, high word), the count of entries and the entries; unreachable: cost 0, no entries
unfoldable pub path_words : Table → ℕ → Option (List ℕ) → List ℕ
path_words t x none = 0 ∷ 0 ∷ 0 ∷ []
path_words t x (some l) =
    low (total (step_cost t) x l) ∷ high (total (step_cost t) x l) ∷ suc (length l) ∷ x ∷ no_number ∷ entries_after t x l

-- get_dijkstra_connections_with_cost: 1, 3 for the first vertex, 3 for the second, 11
unfoldable pub pair_result : ℕ → ℕ → List ℕ → Table → Result
pair_result x y lent t = on_live_vertices t (x ∷ y ∷ []) lent (listed (path_words t x (best_path t x y)) lent)

-- ---- from a vertex

-- vertex, low word, high word of one that is reached
unfoldable pub cost_words : Table → ℕ → ℕ → Option (List ℕ) → List ℕ
cost_words t x y none = []
cost_words t x y (some l) = y ∷ low (total (step_cost t) x l) ∷ high (total (step_cost t) x l) ∷ []

-- the words of vertex y: none where it is not reached
abbrev pub cost_to : Table → ℕ → ℕ → List ℕ
cost_to t x y = cost_words t x y (best_path t x y)

-- each reachable vertex and its cost, ascending
unfoldable pub costs_from : Table → ℕ → List ℕ
costs_from t x = flat (cost_to t x) (live_vertices t)

-- get_dijkstra_from: 1, 3, 11
unfoldable pub from_result : ℕ → List ℕ → Table → Result
from_result x lent t = on_live_vertex t x lent (listed (costs_from t x) lent)
