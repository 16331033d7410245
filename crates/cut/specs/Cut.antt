-- Cut vertices: which they are, and their listing. Assumes nothing.
use Rattle.std.specs.Prelude.{◌≡◌, Bool, not, List, ℕ, length}
use Rattle.lists.specs.Tests.{◌and◌}
use Rattle.lists.specs.Lists.{any, memb, filter}
use Rattle.walks.specs.Walks.{Reach}
use Rattle.layout.specs.Content.{Table, live_vertices, position, place}
use Rattle.layout.specs.Answers.{Result, listed}
use Rattle.graph.specs.Bfs.{bfs}
use Rattle.edits.specs.Edits.{remove_vertex}
use Rattle.steps.specs.Matrices.{together, TogetherIn, between}

-- two other than v: a walk along R links them, and no walk along S does
pub record Separated (R S : ℕ → ℕ → Type 0) (v : ℕ) : Type 0 where
  pub a : ℕ
  pub b : ℕ
  pub a-other : a ≡ v → ⊥
  pub b-other : b ≡ v → ⊥
  pub linked : Reach R a b
  pub parted : Reach S a b → ⊥

-- cut vertices: v such that two other vertices are linked through co-membership, and no longer are after v is removed
abbrev pub Cut : Table → ℕ → Type 0
Cut t v = Separated (TogetherIn t) (TogetherIn (remove_vertex v t)) v

-- ---- the same, computed: `listed-cut` and `cut-listed` (proofs/Cuts.antt) say that it is the same

-- the record of a live vertex
unfoldable pub record_of : List ℕ → ℕ → ℕ
record_of live x = place (position x live)

-- live vertices a and b are linked through co-membership: breadth first from the record of the one to the record of the other
unfoldable pub is_linked : Table → ℕ → ℕ → Bool
is_linked t a b = memb (record_of (live_vertices t) b) (bfs (between t (together t)) (length (live_vertices t)) (record_of (live_vertices t) a))

-- v parts a and b: they are linked, and no longer are after v is removed
unfoldable pub parts : Table → ℕ → ℕ → ℕ → Bool
parts t v a b = is_linked t a b and not (is_linked (remove_vertex v t) a b)

-- the other vertices: those that are live after v is removed
abbrev pub other_vertices : Table → ℕ → List ℕ
other_vertices t v = live_vertices (remove_vertex v t)

-- v parts a from some other vertex
unfoldable pub parts_some : Table → ℕ → ℕ → Bool
parts_some t v a = any (parts t v a) (other_vertices t v)

-- v parts some two other vertices
unfoldable pub is_cut : Table → ℕ → Bool
is_cut t v = any (parts_some t v) (other_vertices t v)

-- ascending, as the live vertices are
unfoldable pub cut_vertices : Table → List ℕ
cut_vertices t = filter (is_cut t) (live_vertices t)

-- find_cut_vertices: 1, 11
unfoldable pub cut_vertices_result : List ℕ → Table → Result
cut_vertices_result lent t = listed (cut_vertices t) lent
