-- Review and release, and what the desk shows of the states. Assumes nothing.
use Rattle.std.specs.Prelude.{Bool, not, cond, List, [], ℕ, eqb, Ok, Err}
use Rattle.lists.specs.Tests.{◌and◌}
use Rattle.lists.specs.Lists.{any, filter}
use Rattle.layout.specs.Answers.{Answer}
use Rattle.layout.specs.declared.Refusal.TheVariants.{NotWellFormed, NotReviewed, UpstreamHeld}
use Rattle.layout.specs.Content.{Table, live_vertices}
use Rattle.layout.specs.Steps.{has_step}
use Rattle.layout.specs.Answers.{Result, result_of, on_live_vertex, listed}
use Rattle.edits.specs.Results.{on_first}
use Rattle.desk.specs.States.{waiting, reviewed, released, state_of, in_state, with_state}
use Rattle.desk.specs.Desk.{Desk, content, desk_fits}

-- 1: table not well formed, or states that don't fit it, before all else; then what f says of the content
unfoldable pub on_desk : Desk → List ℕ → (Table → Result) → Result
on_desk d lent f = cond (desk_fits d) (f (content d)) (result_of (Err NotWellFormed) lent)

-- ---- review

-- a waiting one becomes reviewed, the others stay
unfoldable pub once_reviewed : ℕ → ℕ
once_reviewed x = cond (eqb x waiting) reviewed x

-- desk_review: 1, 3; ss are the states
unfoldable pub review_result : ℕ → List ℕ → Table → Result
review_result v ss t = on_live_vertex t v ss (result_of (Ok 0) (with_state t v (once_reviewed (state_of t ss v)) ss))

-- ---- release

-- u holds v: it has a step into it, and is not released
unfoldable pub holds : Table → List ℕ → ℕ → ℕ → Bool
holds t ss v u = has_step t u v and not (in_state t ss released u)

-- 17: not reviewed; the vertex
abbrev pub not_reviewed : ℕ → Answer
not_reviewed v = Err (NotReviewed (record { 0 = v }))

unfoldable pub on_reviewed : Table → ℕ → List ℕ → Result → Result
on_reviewed t v ss r = cond (in_state t ss reviewed v) r (result_of (not_reviewed v) ss)

-- 18: something upstream held; the live vertices ascend, so the first is the lowest
abbrev pub upstream_held : ℕ → Answer
upstream_held u = Err (UpstreamHeld (record { 0 = u }))

abbrev pub on_unheld : Table → ℕ → List ℕ → Result → Result
on_unheld t v ss r = on_first (holds t ss v) upstream_held (live_vertices t) ss r

-- 17, 18, then it is released
unfoldable pub releasing : ℕ → List ℕ → Table → Result
releasing v ss t = on_reviewed t v ss (on_unheld t v ss (result_of (Ok 0) (with_state t v released ss)))

-- desk_release: 1, 3, then a released one is done, then 17, 18
unfoldable pub release_result : ℕ → List ℕ → Table → Result
release_result v ss t = on_live_vertex t v ss (cond (in_state t ss released v) (result_of (Ok 0) ss) (releasing v ss t))

-- ---- for looking

-- desk_state: 1, 3; the detail is the state
unfoldable pub state_result : ℕ → List ℕ → Table → Result
state_result v ss t = on_live_vertex t v [] (result_of (Ok (state_of t ss v)) [])

-- the vertices in a state, ascending
unfoldable pub vertices_in : ℕ → List ℕ → Table → List ℕ
vertices_in x ss t = filter (in_state t ss x) (live_vertices t)

-- desk_list: 1, 11
unfoldable pub list_result : ℕ → List ℕ → List ℕ → Table → Result
list_result x ss lent t = listed (vertices_in x ss t) lent

-- a release would release it now: reviewed, and held by none
unfoldable pub is_releasable : Table → List ℕ → ℕ → Bool
is_releasable t ss v = in_state t ss reviewed v and not (any (holds t ss v) (live_vertices t))

-- such vertices, ascending
unfoldable pub releasable : List ℕ → Table → List ℕ
releasable ss t = filter (is_releasable t ss) (live_vertices t)

-- desk_releasable: 1, 11
unfoldable pub releasable_result : List ℕ → List ℕ → Table → Result
releasable_result ss lent t = listed (releasable ss t) lent
