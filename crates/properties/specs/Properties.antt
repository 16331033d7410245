-- What each query of properties lists or tests, over a table's content. Assumes nothing.
use Rattle.std.specs.Prelude.{Bool, true, not, cond, List, [], ◌∷◌, ◌++◌, map, ℕ, suc, eqb, length}
use Rattle.lists.specs.Tests.{◌and◌, every, count, chosen}
use Rattle.lists.specs.Lists.{all, any, filter, flat, counted}
use Rattle.layout.specs.Content.{Hyperedge, Table, live_vertices, hyperedge_number, lists}
use Rattle.layout.specs.Steps.{steps_of}
use Rattle.steps.specs.Matrices.{number_of}
use Rattle.lookups.specs.declared.Direction.{Direction}
use Rattle.lookups.specs.declared.Direction.TheVariants.{From, To}
use Rattle.lookups.specs.Lookups.{has_end}

-- ---- sets of vertices: a mark for each vertex record

-- the distinct set of a hyperedge's members: record i is marked where its vertex is a member
unfoldable pub member_set : Table → Hyperedge → ℕ → Bool
member_set t e i = lists (number_of t i) e

-- how many vertices are members, repeats not counted
unfoldable pub set_size : Table → Hyperedge → ℕ
set_size t e = count (member_set t e) (length t.vertices)

-- the hyperedge has s distinct members
unfoldable pub has_size : Table → ℕ → Hyperedge → Bool
has_size t s e = eqb (set_size t e) s

-- where the one is marked, so is the other
unfoldable pub under : (ℕ → Bool) → (ℕ → Bool) → ℕ → Bool
under p q i = cond (p i) (q i) true

-- of n records, each that is marked in p is marked in q
unfoldable pub within : ℕ → (ℕ → Bool) → (ℕ → Bool) → Bool
within n p q = every (under p q) n

-- and not the other way round: the sets differ
unfoldable pub strictly_within : ℕ → (ℕ → Bool) → (ℕ → Bool) → Bool
strictly_within n p q = within n p q and not (within n q p)

-- ---- orphans

-- no hyperedge lists the vertex
unfoldable pub is_orphan : Table → ℕ → Bool
is_orphan t v = not (any (lists v) t.hyperedges)

-- ascending
unfoldable pub orphan_vertices : Table → List ℕ
orphan_vertices t = filter (is_orphan t) (live_vertices t)

-- the hyperedge has k members, repeats counted
unfoldable pub has_count : ℕ → Hyperedge → Bool
has_count k e = eqb (length e.members) k

-- the hyperedges without members, ascending
unfoldable pub orphan_hyperedges : Table → List ℕ
orphan_hyperedges t = map hyperedge_number (filter (has_count 0) t.hyperedges)

-- ---- uniform size

-- every hyperedge has k members; so it is with no hyperedges
unfoldable pub uniform : ℕ → Table → Bool
uniform k t = all (has_count k) t.hyperedges

-- ---- endpoints

-- the hyperedge has a step that leads from v, or one that leads to v
unfoldable pub steps_at : Direction → ℕ → Hyperedge → Bool
steps_at dir v e = any (has_end dir v) (steps_of e.members)

-- no step leads from v, or none leads to v
unfoldable pub is_endpoint : Direction → Table → ℕ → Bool
is_endpoint dir t v = not (any (steps_at dir v) t.hyperedges)

-- the vertices with no step in, ascending
unfoldable pub sources : Table → List ℕ
sources t = filter (is_endpoint To t) (live_vertices t)

-- the vertices with no step out, ascending
unfoldable pub sinks : Table → List ℕ
sinks t = filter (is_endpoint From t) (live_vertices t)

-- count, the first list, count, the second
unfoldable pub twice : List ℕ → List ℕ → List ℕ
twice xs ys = counted xs ++ counted ys

-- count, sources, count, sinks
unfoldable pub endpoints : Table → List ℕ
endpoints t = twice (sources t) (sinks t)

-- ---- inclusions

-- the distinct set of a's members is strictly within b's
unfoldable pub is_within : Table → Hyperedge → Hyperedge → Bool
is_within t a b = strictly_within (length t.vertices) (member_set t a) (member_set t b)

-- the pair a, b where it is an inclusion
unfoldable pub pair : Table → Hyperedge → Hyperedge → List ℕ
pair t a b = cond (is_within t a b) (a.number ∷ b.number ∷ []) []

-- the pairs whose first member is a, by the second
unfoldable pub pairs_of : Table → Hyperedge → List ℕ
pairs_of t a = flat (pair t a) t.hyperedges

-- every pair, by the first and then by the second
unfoldable pub inclusions : Table → List ℕ
inclusions t = flat (pairs_of t) t.hyperedges

-- ---- nestedness

-- the hyperedge is the first member of some pair
unfoldable pub is_included : Table → Hyperedge → Bool
is_included t e = any (is_within t e) t.hyperedges

-- a hyperedge of the size that is the first member of some pair
unfoldable pub included_of_size : Table → ℕ → Hyperedge → Bool
included_of_size t s e = has_size t s e and is_included t e

-- how many hyperedges of the size are the first member of some pair, and how many there are
unfoldable pub included : Table → ℕ → ℕ
included t s = length (filter (included_of_size t s) t.hyperedges)

unfoldable pub total_of : Table → ℕ → ℕ
total_of t s = length (filter (has_size t s) t.hyperedges)

-- some hyperedge has the size
unfoldable pub is_size : Table → ℕ → Bool
is_size t s = any (has_size t s) t.hyperedges

-- size, included, total
unfoldable pub row : Table → ℕ → List ℕ
row t s = s ∷ included t s ∷ total_of t s ∷ []

-- a row for each size that some hyperedge has, ascending; no size is above the number of vertices
unfoldable pub nestedness : Table → List ℕ
nestedness t = flat (row t) (chosen (is_size t) (suc (length t.vertices)))
