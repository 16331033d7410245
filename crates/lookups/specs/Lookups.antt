-- What each lookup counts or lists, over a table's content. Assumes nothing.
use Rattle.std.specs.Prelude.{Bool, not, cond, List, [], ◌∷◌, map, ℕ, eqb, length, replicate}
use Rattle.lists.specs.Tests.{◌and◌}
use Rattle.lists.specs.Lists.{all, any, memb, filter, sum_over, flat, counted}
use Rattle.layout.specs.Content.{Vertex, Hyperedge, Table, live_vertices, vertex_number, lists}
use Rattle.layout.specs.Steps.{Step, steps_of, is_step, makes_step}
use Rattle.lookups.specs.declared.Direction.{Direction}
use Rattle.lookups.specs.declared.Direction.TheVariants.{From, To}
use Rattle.lookups.specs.declared.Relation.{Relation}
use Rattle.lookups.specs.declared.Relation.TheVariants.{Along, Around}
use Rattle.lookups.specs.declared.Listing.{Listing}
use Rattle.lookups.specs.declared.Listing.TheVariants.{Connecting, Weighing, Holding}

-- ---- steps, seen from v

-- what f makes of the step from v to y, or of the step from y to v
abbrev pub oriented : {A : Type 0} → Direction → (ℕ → ℕ → A) → ℕ → ℕ → A
oriented From f v y = f v y
oriented To f v y = f y v

-- the step leads from v, or it leads to v
unfoldable pub has_end : Direction → ℕ → Step → Bool
has_end From v s = eqb s.from v
has_end To v s = eqb s.to v

-- ---- vertices that a hyperedge relates to v

-- a co-member other than the vertex
unfoldable pub co_member : ℕ → ℕ → Hyperedge → Bool
co_member v y e = lists v e and lists y e and not (eqb y v)

-- y stands right after v or right before v, or with v in the list
unfoldable pub relates : Relation → ℕ → ℕ → Hyperedge → Bool
relates (Along dir) v y e = oriented dir makes_step v y e
relates Around v y e = co_member v y e

-- some hyperedge relates y to v
unfoldable pub is_related : Relation → Table → ℕ → ℕ → Bool
is_related rel t v y = any (relates rel v y) t.hyperedges

-- distinct, ascending
unfoldable pub related : Relation → ℕ → Table → List ℕ
related rel v t = filter (is_related rel t v) (live_vertices t)

-- ---- vertices that several hyperedges share

-- hyperedge x has y as a member
unfoldable pub is_member_of : ℕ → ℕ → Hyperedge → Bool
is_member_of y x e = eqb e.number x and lists y e

-- some hyperedge of number x has y as a member
unfoldable pub has_member : Table → ℕ → ℕ → Bool
has_member t y x = any (is_member_of y x) t.hyperedges

-- every hyperedge of the list has y as a member
unfoldable pub is_shared : Table → List ℕ → ℕ → Bool
is_shared t xs y = all (has_member t y) xs

-- distinct, ascending
unfoldable pub shared : List ℕ → Table → List ℕ
shared xs t = filter (is_shared t xs) (live_vertices t)

-- ---- places

-- the places of a list at which the step passes the test
unfoldable pub places : (Step → Bool) → List ℕ → ℕ
places p ms = length (filter p (steps_of ms))

-- the same of a hyperedge
unfoldable pub places_in : (Step → Bool) → Hyperedge → ℕ
places_in p e = places p e.members

-- degrees count every place
unfoldable pub degree : Direction → ℕ → Table → ℕ
degree dir v t = sum_over (places_in (has_end dir v)) t.hyperedges

-- ---- listings of hyperedges

-- a list that holds v, as length and members
unfoldable pub held : ℕ → List ℕ → List ℕ
held v ms = cond (memb v ms) (counted ms) []

-- what a listing has of a hyperedge: its number once for each place of the step x to y; its number, if it weighs w;
-- its list, if that holds v
unfoldable pub block : Listing → Hyperedge → List ℕ
block (Connecting x y) e = replicate (places_in (is_step x y) e) e.number
block (Weighing w) e = cond (eqb e.weight w) (e.number ∷ []) []
block (Holding v) e = held v e.members

-- the listing: what it has of each hyperedge, ascending
unfoldable pub listing : Listing → Table → List ℕ
listing q t = flat (block q) t.hyperedges

-- ---- full listings of adjacent vertices

-- the hyperedges that step from v to y, or from y to v, once for each place
unfoldable pub connecting : Direction → Table → ℕ → ℕ → List ℕ
connecting dir t v y = listing (oriented dir Connecting v y) t

-- vertex, count, hyperedges
unfoldable pub adjacent_entry : Direction → Table → ℕ → ℕ → List ℕ
adjacent_entry dir t v y = y ∷ counted (connecting dir t v y)

-- each adjacent vertex, ascending
unfoldable pub full_adjacent : Direction → ℕ → Table → List ℕ
full_adjacent dir v t = flat (adjacent_entry dir t v) (related (Along dir) v t)

-- ---- vertices of a weight

-- the vertex weighs w
unfoldable pub weighs : ℕ → Vertex → Bool
weighs w x = eqb x.weight w

-- ascending
unfoldable pub vertices_weighing : ℕ → Table → List ℕ
vertices_weighing w t = map vertex_number (filter (weighs w) t.vertices)

-- some vertex weighs w
unfoldable pub has_vertex_weighing : ℕ → Table → Bool
has_vertex_weighing w t = any (weighs w) t.vertices
