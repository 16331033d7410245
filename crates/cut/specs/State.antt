-- What the matrix of co-membership holds while it is made, and what the search for each record finds. Assumes nothing.
use Rattle.std.specs.Prelude.{◌≡◌, Bool, true, false, not, ◌||◌, List, [], ◌∷◌, ℕ, ◌≤◌, ◌<◌, eqb, length, get_or, take, set}
use Rattle.lists.specs.Tests.{◌and◌}
use Rattle.lists.specs.Lists.{any}
use Rattle.layout.specs.Content.{Table}
use Rattle.layout.specs.Layout.{limit, vertex_limit, vertex_count, read}
use Rattle.graph.specs.Reach.{Edge}
use Rattle.steps.specs.Matrices.{together, lists_both, between}
use Rattle.steps.specs.Inner.{cell, Holds}
use Rattle.steps.specs.Ordered.{Standing}
use Rattle.cut.specs.Cut.{Separated}

-- ---- the matrix of co-membership

-- co-membership, said of the records
abbrev pub together_between : Table → ℕ → ℕ → Bool
together_between t = between t (together t)

-- one of the first k hyperedges lists x and y
unfoldable pub first_together : Table → ℕ → ℕ → ℕ → Bool
first_together t k x y = any (lists_both x y) (take k t.hyperedges)

-- the matrix after the first k hyperedges of the table
abbrev pub Gathered : List ℕ → ℕ → List ℕ → Type 0
Gathered ws k m = Holds (between (read limit ws) (first_together (read limit ws) k)) (vertex_count ws) m

-- the records of a member list: not more than the member limit
abbrev pub Places : ℕ → ℕ → List ℕ → List ℕ → Type 0
Places n c places l = Standing n limit c places l

-- a mark for a and each of the list
unfoldable pub with_row : ℕ → List ℕ → List ℕ → List ℕ
with_row a [] m = m
with_row a (b ∷ bs) m = with_row a bs (set m (cell a b) 1)

-- a mark for each of the first list and each of the second
unfoldable pub with_pairs : List ℕ → List ℕ → List ℕ → List ℕ
with_pairs [] bs m = m
with_pairs (a ∷ rest) bs m = with_pairs rest bs (with_row a bs m)

-- ---- the search, by record

-- the relation without v
unfoldable pub avoiding : (ℕ → ℕ → Bool) → ℕ → ℕ → ℕ → Bool
avoiding E v x y = (not (eqb x v) and not (eqb y v)) and E x y

-- the relation, where nothing leads on from v
unfoldable pub stopping : (ℕ → ℕ → Bool) → ℕ → ℕ → ℕ → Bool
stopping E v x y = not (eqb x v) and E x y

-- another record that shares a list with v
unfoldable pub is_mate : (ℕ → ℕ → Bool) → ℕ → ℕ → Bool
is_mate E v j = not (eqb j v) and E v j

-- the first mate of v below n, or n
pub record FirstMate (E : ℕ → ℕ → Bool) (n v r : ℕ) : Type 0 where
  pub within : r ≤ n
  pub none : (j : ℕ) → j < r → is_mate E v j ≡ false
  pub found : r < n → is_mate E v r ≡ true

-- j is marked, if it is a mate of v
unfoldable pub is_kept : (ℕ → ℕ → Bool) → ℕ → List ℕ → ℕ → Bool
is_kept E v marks j = not (is_mate E v j) || eqb (get_or marks j 0) 1

-- p is m, but for the first j marks of what leads on from v: they are 0
pub record Cleared (v j : ℕ) (m p : List ℕ) : Type 0 where
  pub long : length p ≡ length m
  pub gone : (i : ℕ) → i < j → get_or p (cell v i) 0 ≡ 0
  pub same : (k : ℕ) → ((i : ℕ) → i < j → k ≡ cell v i → ⊥) → get_or p k 0 ≡ get_or m k 0

-- two other records are linked, and are not without v
abbrev pub CutIn : (ℕ → ℕ → Bool) → ℕ → ℕ → Type 0
CutIn E n v = Separated (Edge E n) (Edge (avoiding E v) n) v

-- r is whether P holds
pub record Decides (r : Bool) (P : Type 0) : Type 0 where
  pub yes : r ≡ true → P
  pub no : r ≡ false → P → ⊥

-- of the first k records, exactly the cut ones are marked
pub record CutsMarked (E : ℕ → ℕ → Bool) (n k : ℕ) (cuts : List Bool) : Type 0 where
  pub long : length cuts ≡ vertex_limit
  pub each : (i : ℕ) → i < k → Decides (get_or cuts i false) (CutIn E n i)
