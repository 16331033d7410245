-- What inner functions of review and release are stated with. Assumes nothing.
use Rattle.std.specs.Prelude.{Bool, not, cond, List, ℕ, eqb, Ok}
use Rattle.lists.specs.Tests.{◌and◌}
use Rattle.lists.specs.Lists.{word_at}
use Rattle.layout.specs.Content.{Table}
use Rattle.layout.specs.Answers.{Result, result_of}
use Rattle.marks.specs.Marks.{is_marked}
use Rattle.desk.specs.States.{released, in_state, with_state}
use Rattle.desk.specs.Releases.{on_unheld, releasing}

-- record k is marked, and not released
unfoldable pub held_at : List ℕ → List Bool → ℕ → Bool
held_at ss marks k = is_marked marks k and not (eqb (word_at ss k) released)

-- the release of a reviewed vertex: 18
unfoldable pub release_reviewed_result : ℕ → List ℕ → Table → Result
release_reviewed_result v ss t = on_unheld t v ss (result_of (Ok 0) (with_state t v released ss))

-- the release of a live vertex: a released one is done, then 17, 18
unfoldable pub release_live_result : ℕ → List ℕ → Table → Result
release_live_result v ss t = cond (in_state t ss released v) (result_of (Ok 0) ss) (releasing v ss t)
