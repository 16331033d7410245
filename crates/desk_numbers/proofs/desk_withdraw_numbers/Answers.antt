-- `desk_numbers::desk_withdraw_numbers` meets its contract. Assumes nothing.
use Rattle.desk_numbers.proofs.Trays.{numbers-judged, numbers-withdrawn}
use Rattle.desk_numbers.proofs.desk_withdraw_numbers.Goals as goal

pub carry_out_at_desk-requires : goal.carry_out_at_desk-requires
carry_out_at_desk-requires c = search numbers-judged

pub returns : goal.returns
returns c = search numbers-withdrawn
