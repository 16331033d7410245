-- What is demanded of removals. Assumes nothing.
use Rattle.std.specs.Prelude.{◌≡◌, true, List, [], ℕ, Ok}
use Rattle.walks.specs.Walks.{Reach}
use Rattle.layout.specs.Layout.{limit, read, words}
use Rattle.layout.specs.WellFormed.{well_formed}
use Rattle.layout.specs.Steps.{StepIn}
use Rattle.layout.specs.Answers.{result_of, on_formed}
use Rattle.removals.specs.Orders.{Permutes}
use Rattle.removals.specs.Removals.{Removal, remove_all, withdrawn}
use Rattle.traversal.specs.Traversal.{reachable_result}
use Rattle.demands.specs.Sort.{sort_call}

-- is_reachable, called on the words of a table, answers yes of x and y: both are live, and y is reached from x
abbrev pub AnswersYes : List ℕ → ℕ → ℕ → Type 0
AnswersYes ws x y = on_formed ws [] (reachable_result x y) ≡ result_of (Ok 1) []

-- what any list of removals, one call after the other, leaves of a table's words ws
pub record Withdraws (rs : List Removal) (ws : List ℕ) : Type 0 where
  -- a table again
  pub formed : well_formed limit (remove_all rs ws) ≡ true
  -- the same words in every order
  pub any_order : (ss : List Removal) → Permutes rs ss → remove_all ss ws ≡ remove_all rs ws
  -- the words of the closed form: what is named gone, each list without the named vertices, emptied lists gone, all else kept
  pub words_are : remove_all rs ws ≡ words limit (withdrawn rs (read limit ws))
  -- no survivor reaches a survivor that it could not reach before: by walks, and by the call
  pub reaches : (x y : ℕ) → Reach (StepIn (read limit (remove_all rs ws))) x y → Reach (StepIn (read limit ws)) x y
  pub answers-yes : (x y : ℕ) → AnswersYes (remove_all rs ws) x y → AnswersYes ws x y
  -- where the sort answered 0, it still answers 0 with the same slice
  pub still-sorts : (lent : List ℕ) → (sort_call ws lent).number ≡ 0 → (sort_call (remove_all rs ws) lent).number ≡ 0
