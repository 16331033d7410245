-- `withdraw_tray::withdraw_tray` meets its contract. Assumes nothing.
use Rattle.std.proofs.Common.{sym, ap, subst, ◌∙◌}
use Rattle.tray_marks.specs.declared.Tray.{Tray}
use Rattle.tray_marks.specs.Marking.{OpenFormed}
use Rattle.tray_marks.proofs.Marking.{tray-formed}
use Rattle.withdraw_tray.specs.Carried.{carried_out}
use Rattle.withdraw_tray.proofs.Carried.{tray-result}
use Rattle.withdraw_tray.proofs.withdraw_tray.Goals as goal

pub carry_out-requires : goal.carry_out-requires
carry_out-requires c =
    subst (λ (d : Tray). OpenFormed d c.args.t.now) (sym c.judge_records-tray.ensures) (tray-formed c.args.t.now c.args.records.now)

pub returns : goal.returns
returns c =
    c.carry_out.ensures ∙ ap (λ (d : Tray). carried_out d c.args.t.now) c.judge_records-tray.ensures ∙ tray-result c.args.t.now c.args.records.now
