-- What is demanded of the sort. Assumes nothing.
use Rattle.std.specs.Prelude.{◌≡◌, List, ℕ, ◌≤◌, ◌<◌, length, Ok, Err}
use Rattle.lists.specs.Lists.{over}
use Rattle.layout.specs.declared.Refusal.TheVariants.{ClosedWalk, NoRoom}
use Rattle.layout.specs.Content.{Table}
use Rattle.layout.specs.Answers.{Result, result_of, on_formed}
use Rattle.structural.specs.Components.{live_count}
use Rattle.structural.specs.Sort.{SmallestIn, ClosedIn, sort_result}

-- the call of the sort: on the words of a table, with an answer slice
abbrev pub sort_call : List ℕ → List ℕ → Result
sort_call ws lent = on_formed ws lent (sort_result lent)

-- the sort of a table that holds t, with its result r: refused with 9 exactly where steps form a closed walk; otherwise, with room for the
-- live vertices, 0 and the smallest order, written from the front of the slice, the rest of the slice kept; without room, 11 and their count
pub record Sorts (t : Table) (lent : List ℕ) (r : Result) : Type 0 where
  pub refused : ClosedIn t → r ≡ result_of (Err ClosedWalk) lent
  pub only_then : r.number ≡ 9 → ClosedIn t
  pub otherwise : (ClosedIn t → ⊥) → live_count t ≤ length lent → (l : List ℕ) × SmallestIn t l × (r ≡ result_of (Ok (length l)) (over l lent))
  pub no_room : (ClosedIn t → ⊥) → length lent < live_count t → r ≡ result_of (Err (NoRoom (live_count t))) lent
