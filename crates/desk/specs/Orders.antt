-- The planner's order. Assumes nothing.
use Rattle.std.specs.Prelude.{Bool, not, cond, ◌||◌, List, [], ℕ, suc, ltb, length, take, Option, Some, None, Ok, Err}
use Rattle.lists.specs.Lists.{any, memb, word_at, up_to}
use Rattle.layout.specs.declared.Refusal.TheVariants.{BadOrder}
use Rattle.layout.specs.Content.{Table, live_vertices, is_live}
use Rattle.layout.specs.Steps.{has_step}
use Rattle.layout.specs.Answers.{Result, result_of}
use Rattle.edits.specs.Results.{first_passing}

-- the vertex at place i is not live, is repeated, or has a step to itself or an earlier entry
unfoldable pub at_fault : Table → List ℕ → ℕ → Bool
at_fault t order i =
    let v = word_at order i in
    not (is_live (live_vertices t) v) || (memb v (take i order) || any (has_step t v) (take (suc i) order))

-- the first such place, from 0
unfoldable pub first_fault : Table → List ℕ → Option ℕ
first_fault t order = first_passing (at_fault t order) (up_to (length order))

-- the order stops short: it has fewer entries than vertices are live
unfoldable pub stops_short : Table → List ℕ → Bool
stops_short t order = ltb (length order) (length (live_vertices t))

-- 19: the first place at fault, else the order's length if it stops short
abbrev pub on_accepted : Option ℕ → Table → List ℕ → Result → Result
on_accepted (Some i) t order r = result_of (Err (BadOrder i)) []
on_accepted None t order r = cond (stops_short t order) (result_of (Err (BadOrder (length order))) []) r

-- desk_accept_order: 1, 19
unfoldable pub accept_result : List ℕ → Table → Result
accept_result order t = on_accepted (first_fault t order) t order (result_of (Ok 0) [])
