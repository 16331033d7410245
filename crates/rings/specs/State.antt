-- What the code of the search holds. Assumes nothing.
use Rattle.std.specs.Prelude.{◌≡◌, Bool, true, cond, List, [], ℕ, suc, ◌+◌, ◌-◌, ◌≤◌, ◌<◌, length, get_or, take, drop}
use Rattle.lists.specs.Lists.{memb, Distinct}
use Rattle.lists.specs.Inner.{Below}
use Rattle.graph.specs.Bfs.{bfs}
use Rattle.graph.specs.Held.{Marks}
use Rattle.components.specs.Classes.{reached}
use Rattle.rings.specs.Search.{before, comes_back, lowest, up_through, go_back, ring_from}

-- r says whether x lies on a closed walk, and the marks are those of what is reached from it
pub record Tested (E : ℕ → ℕ → Bool) (n x : ℕ) (r : Bool) (marks : List ℕ) : Type 0 where
  pub is : r ≡ comes_back E n x
  pub marked : Marks n marks (bfs E n x)

-- r is the lowest number on a closed walk, and the marks are those of what is reached from it
pub record Begun (E : ℕ → ℕ → Bool) (n r : ℕ) (marks : List ℕ) : Type 0 where
  pub is : r ≡ lowest E n
  pub marked : r < n → Marks n marks (bfs E n r)
  pub back : r < n → comes_back E n r ≡ true

-- w up to y, where y was passed
unfoldable pub passed : ℕ → List ℕ → List ℕ
passed y w = cond (memb y w) (up_through y w) []

-- the numbers passed stand in the path from place a on, y is next, and c is what the ring has where y was passed
pub record Going (E : ℕ → ℕ → Bool) (n x : ℕ) (path : List ℕ) (a y c : ℕ) : Type 0 where
  pub long : length path ≡ 256
  pub within : a ≤ 256
  pub once : Distinct (drop a path)
  pub below : Below n (drop a path)
  pub next : y < n
  pub kept : reached E n x y ≡ true
  pub met : c ≡ length (passed y (drop a path))
  pub left : go_back (before E n (reached E n x)) (suc n - (256 - a)) (drop a path) y ≡ ring_from E n x

-- the first j words of `front` are those of the path from place a on
pub record Copied (path : List ℕ) (a : ℕ) (front : List ℕ) (j : ℕ) : Type 0 where
  pub long : length front ≡ 256
  pub is : (i : ℕ) → i < j → get_or front i 0 ≡ get_or path (a + i) 0

-- the c words of l stand in the first places of the array
pub record Stands (l array : List ℕ) (c : ℕ) : Type 0 where
  pub first : take c array ≡ l
  pub count : c ≡ length l
