-- A tray whose records are judged against a table. Assumes nothing.
use Rattle.std.specs.Prelude.{◌≡◌, List, ℕ}
use Rattle.trays.specs.declared.Withdrawal.{Withdrawal}
use Rattle.tray_marks.specs.declared.Tray.{Tray}
use Rattle.tray_marks.specs.Marking.{tray_of}

-- it is what some records are judged to, all of them against the words ws
pub record Judged (tray : Tray) (ws : List ℕ) : Type 0 where
  pub records : List Withdrawal
  pub judged : tray ≡ tray_of ws records
