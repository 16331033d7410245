-- `desk_tray::desk_withdraw_tray` meets its contract. Assumes nothing.
use Rattle.std.proofs.Common.{ap, ◌∙◌}
use Rattle.tray_marks.specs.declared.Tray.{Tray}
use Rattle.withdraw_tray.specs.Carried.{carried_out}
use Rattle.desk.specs.Desk.{desk_of, edited}
use Rattle.desk_tray.proofs.Carried.{tray-edited}
use Rattle.desk_tray.proofs.desk_withdraw_tray.Goals as goal

pub carry_out_at_desk-requires : goal.carry_out_at_desk-requires
carry_out_at_desk-requires c = record { records = c.args.records.now; judged = c.judge_records-tray.ensures }

pub returns : goal.returns
returns c =
    c.carry_out_at_desk.ensures
    ∙ ap (λ (d : Tray). edited (carried_out d c.args.t.now) (desk_of c.args.t.now c.args.s.now)) c.judge_records-tray.ensures
    ∙ tray-edited c.args.t.now c.args.s.now c.args.records.now
