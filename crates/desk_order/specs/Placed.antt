-- What inner functions are stated with: the records that an order has placed so far. Assumes nothing.
use Rattle.std.specs.Prelude.{◌≡◌, Bool, true, false, cond, ◌||◌, List, [], ℕ, ◌+◌, ◌<◌, length, get_or, take, set, Ok, Err}
use Rattle.lists.specs.Tests.{◌and◌}
use Rattle.lists.specs.Lists.{all, any, memb, up_to}
use Rattle.layout.specs.declared.Refusal.TheVariants.{BadOrder}
use Rattle.layout.specs.Content.{Table, live_vertices, is_live}
use Rattle.layout.specs.Layout.{vertex_limit}
use Rattle.layout.specs.Answers.{Result, result_of}
use Rattle.marks.specs.Marks.{is_marked}
use Rattle.graph.specs.Reach.{matrix}
use Rattle.desk.specs.Orders.{at_fault, stops_short}

-- the first i entries are live, and their records are marked and no other
pub record Placed (t : Table) (order : List ℕ) (i : ℕ) (placed : List Bool) : Type 0 where
  pub sized : length placed ≡ vertex_limit
  pub live : all (is_live (live_vertices t)) (take i order) ≡ true
  pub each : (k : ℕ) → k < length (live_vertices t) → is_marked placed k ≡ memb (get_or (live_vertices t) k 0) (take i order)

-- record k has a step to record j, which is placed
unfoldable pub meets_at : List ℕ → List Bool → ℕ → ℕ → Bool
meets_at m placed k j = matrix m k j and is_marked placed j

-- record k is placed already, has a step to itself, or has one to a placed record
unfoldable pub misplaced : List ℕ → List Bool → ℕ → Bool
misplaced m placed k = is_marked placed k || (matrix m k k || any (meets_at m placed k) (up_to vertex_limit))

-- whether record k is misplaced; where it is not, it is placed
pub record PlacedNext (m : List ℕ) (k : ℕ) (placed : List Bool) (r : Bool) (next : List Bool) : Type 0 where
  pub told : r ≡ misplaced m placed k
  pub done : next ≡ cond r placed (set placed k true)

-- whether entry i is at fault; where it is not, its record is placed
pub record Judged (t : Table) (order : List ℕ) (i : ℕ) (r : Bool) (next : List Bool) : Type 0 where
  pub told : r ≡ at_fault t order i
  pub placed : r ≡ false → Placed t order (i + 1) next

-- an order with no place at fault: 19, where it stops short
unfoldable pub on_length : Table → List ℕ → Result
on_length t order = cond (stops_short t order) (result_of (Err (BadOrder (length order))) []) (result_of (Ok 0) [])
