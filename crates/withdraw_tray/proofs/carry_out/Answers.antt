-- `withdraw_tray::carry_out` meets its contract. Assumes nothing.
use Rattle.tray_marks.proofs.Judging.{table-formed}
use Rattle.withdraw_tray.proofs.Carried.{carried-unformed, carried-faulty, carried-done}
use Rattle.withdraw_tray.proofs.carry_out.Goals as goal

pub returns-then-not-tray : goal.returns-then-not-tray
returns-then-not-tray c = search carried-unformed

pub returns-then-tray : goal.returns-then-tray
returns-then-tray c = search carried-faulty

pub withdraw_marked-requires : goal.withdraw_marked-requires
withdraw_marked-requires c = search table-formed

pub returns : goal.returns
returns c = search carried-done
