-- What a table holds, apart from how its words lie. Assumes nothing.
use Rattle.std.specs.Prelude.{Bool, cond, List, [], ◌∷◌, map, ℕ, zero, suc, eqb, Option, Some, None}
use Rattle.lists.specs.Tests.{◌and◌}
use Rattle.lists.specs.Lists.{all, memb, filter, is_below, ascending}

-- a sample, aliquot or pool
pub record Vertex : Type 0 where
  pub number : ℕ
  pub weight : ℕ

-- a transfer: an ordered member list and a cost
pub record Hyperedge : Type 0 where
  pub number : ℕ
  pub weight : ℕ
  pub members : List ℕ

-- a vertex and a hyperedge from their parts, and what stands for one at a place where there is none
abbrev pub vertex_of : ℕ → ℕ → Vertex
vertex_of number weight = record { number = number; weight = weight }

abbrev pub hyperedge_of : ℕ → ℕ → List ℕ → Hyperedge
hyperedge_of number weight members = record { number = number; weight = weight; members = members }

abbrev pub no_vertex : Vertex
no_vertex = vertex_of 0 0

abbrev pub no_hyperedge : Hyperedge
no_hyperedge = hyperedge_of 0 0 []

-- what a table holds: both next numbers, and the live vertices and hyperedges
pub record Table : Type 0 where
  pub next_vertex : ℕ
  pub next_hyperedge : ℕ
  pub vertices : List Vertex
  pub hyperedges : List Hyperedge

-- the number of a vertex, and of a hyperedge
abbrev pub vertex_number : Vertex → ℕ
vertex_number v = v.number

abbrev pub hyperedge_number : Hyperedge → ℕ
hyperedge_number e = e.number

-- the weight of a hyperedge
abbrev pub hyperedge_weight : Hyperedge → ℕ
hyperedge_weight e = e.weight

-- the numbers of the live vertices and of the live hyperedges, in the records' order
abbrev pub live_vertices : Table → List ℕ
live_vertices t = map vertex_number t.vertices

abbrev pub live_hyperedges : Table → List ℕ
live_hyperedges t = map hyperedge_number t.hyperedges

-- x is among the live
abbrev pub is_live : List ℕ → ℕ → Bool
is_live live x = memb x live

-- each kind strictly ascending by number, each number below its next number
unfoldable pub numbered : List ℕ → ℕ → Bool
numbered numbers next = ascending numbers and all (is_below next) numbers

-- every member is live
unfoldable pub members_live : List ℕ → Hyperedge → Bool
members_live live e = all (is_live live) e.members

-- the rules that speak of the content alone
unfoldable pub valid : Table → Bool
valid t =
    numbered (live_vertices t) t.next_vertex
    and numbered (live_hyperedges t) t.next_hyperedge
    and all (members_live (live_vertices t)) t.hyperedges

-- the hyperedges of a vertex are those that list it, ascending
abbrev pub lists : ℕ → Hyperedge → Bool
lists v e = memb v e.members

unfoldable pub hyperedges_of : Table → ℕ → List Hyperedge
hyperedges_of t v = filter (lists v) t.hyperedges

-- the place of x in a list, counted from i
unfoldable pub position_from : ℕ → ℕ → List ℕ → Option ℕ
position_from i x [] = None
position_from i x (y ∷ ys) = cond (eqb x y) (Some i) (position_from (suc i) x ys)

unfoldable pub position : ℕ → List ℕ → Option ℕ
position x xs = position_from zero x xs

-- the place that a search found
abbrev pub place : Option ℕ → ℕ
place (Some i) = i
place None = 0
