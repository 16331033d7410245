-- `withdraw_tray::judge_records` meets its contract. Assumes nothing.
use Rattle.std.proofs.Common.{arith, sym, ap, subst, ◌∙◌, get_or, take}
use Rattle.trays.specs.Outcomes.{no_record}
use Rattle.tray_marks.specs.declared.Tray.{Tray}
use Rattle.tray_marks.specs.Marking.{OpenFormed, judged}
use Rattle.tray_marks.proofs.Marking.{tray-none, tray-more, tray-formed}
use Rattle.withdraw_tray.proofs.judge_records.Goals as goal

pub loop-i-init : goal.loop-i-init
loop-i-init c = record { within = omega arith; judged = c.open_tray-tray.ensures ∙ sym (tray-none c.args.t.now c.args.records.now) }

pub judge_record-tray-requires : goal.judge_record-tray-requires
judge_record-tray-requires c =
    subst (λ (d : Tray). OpenFormed d c.args.t.now) (sym c.loop-i.invariant.judged)
    (tray-formed c.args.t.now (take c.loop-i.i c.args.records.now))

pub loop-i-preserved : goal.loop-i-preserved
loop-i-preserved c = record {
  within = omega arith;
  judged =
      c.judge_record-tray.ensures
      ∙ ap (λ (d : Tray). judged c.args.t.now d c.loop-i.i (get_or c.args.records.now c.loop-i.i no_record)) c.loop-i.invariant.judged
      ∙ sym (tray-more c.args.t.now c.args.records.now c.loop-i.i c.loop-i-test.true);
}
