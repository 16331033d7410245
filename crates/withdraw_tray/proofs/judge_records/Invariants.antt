-- `withdraw_tray::judge_records`: the tray is what the first i records make of it.
use Rattle.std.proofs.Common.{◌≡◌, ◌≤◌, length, take}
use Rattle.tray_marks.specs.Marking.{tray_of}
use Rattle.withdraw_tray.proofs.judge_records.Given as goal

abbrev pub invariant-loop-i : goal.invariant-loop-i
invariant-loop-i l = record { within : l.i ≤ length l.records; judged : l.tray ≡ tray_of l.t (take l.i l.records) }
