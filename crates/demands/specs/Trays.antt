-- What is demanded of trays, as of removals. Assumes nothing.
use Rattle.std.specs.Prelude.{◌≡◌, true, List, map, ℕ}
use Rattle.walks.specs.Walks.{Reach}
use Rattle.layout.specs.Layout.{limit, read, words}
use Rattle.layout.specs.WellFormed.{well_formed}
use Rattle.layout.specs.Steps.{StepIn}
use Rattle.removals.specs.Orders.{Permutes}
use Rattle.removals.specs.Removals.{remove_all, withdrawn}
use Rattle.trays.specs.declared.Withdrawal.{Withdrawal}
use Rattle.trays.specs.Trays.{asked}
use Rattle.trays.specs.Outcomes.{left, Accepted, SameEnd}
use Rattle.demands.specs.Sort.{sort_call}
use Rattle.demands.specs.Removals.{AnswersYes}

-- what any tray, accepted or refused, leaves of a table's words ws
pub record TrayWithdraws (rs : List Withdrawal) (ws : List ℕ) : Type 0 where
  -- a table again
  pub formed : well_formed limit (left rs ws) ≡ true
  -- in every order the same number and the same words
  pub any_order : (ss : List Withdrawal) → Permutes rs ss → SameEnd rs ss ws
  -- accepted, the words of the closed form, and those of its removals, one call after the other
  pub words_are : Accepted rs ws → left rs ws ≡ words limit (withdrawn (map asked rs) (read limit ws))
  pub singles : Accepted rs ws → left rs ws ≡ remove_all (map asked rs) ws
  -- no survivor reaches a survivor that it could not reach before: by walks, and by the call
  pub reaches : (x y : ℕ) → Reach (StepIn (read limit (left rs ws))) x y → Reach (StepIn (read limit ws)) x y
  pub answers-yes : (x y : ℕ) → AnswersYes (left rs ws) x y → AnswersYes ws x y
  -- where the sort answered 0, it still answers 0 with the same slice
  pub still-sorts : (lent : List ℕ) → (sort_call ws lent).number ≡ 0 → (sort_call (left rs ws) lent).number ≡ 0
