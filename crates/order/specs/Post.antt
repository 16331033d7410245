-- The contract of the sort. Assumes nothing.
use Rattle.std.specs.Prelude.{◌≡◌, Bool, true, false, List, ℕ, take}
use Rattle.graph.specs.Reach.{Edge}
use Rattle.lists.specs.Lists.{is_below, over}
use Rattle.lists.specs.Inner.{blank}
use Rattle.order.specs.Greedy.{greedy}
use Rattle.order.specs.Sort.{Smallest}
use Rattle.walks.specs.Walks.{Closed}

-- done: the smallest order stands in the first n places of the array; refused: steps form a closed walk. Either way the array holds
-- as many as could be placed, and 0 behind them
pub record Sorted (E : ℕ → ℕ → Bool) (n : ℕ) (r : Bool) (o : List ℕ) : Type 0 where
  pub done : r ≡ true → Smallest (is_below n) (Edge E n) (take n o)
  pub refused : r ≡ false → Closed (Edge E n)
  pub array : o ≡ over (greedy E n) (blank 256)
