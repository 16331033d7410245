-- `desk_tray::carry_out_at_desk` meets its contract. Assumes nothing.
use Rattle.desk_states.proofs.Open.{sized-when-open, few-when-open}
use Rattle.desk_states.proofs.Removed.{shut-edited}
use Rattle.desk_tray.proofs.Carried.{judged-formed, carried-left, carried-edited}
use Rattle.desk_tray.proofs.carry_out_at_desk.Goals as goal

pub returns-then-not-is_open : goal.returns-then-not-is_open
returns-then-not-is_open c = search shut-edited

pub vertex_count-n-requires : goal.vertex_count-n-requires
vertex_count-n-requires c = search sized-when-open

pub note_numbers-numbers-requires : goal.note_numbers-numbers-requires
note_numbers-numbers-requires c = (search sized-when-open, search few-when-open)

pub carry_out-answer-requires : goal.carry_out-answer-requires
carry_out-answer-requires c = search judged-formed

pub follow_done-requires : goal.follow_done-requires
follow_done-requires c = search carried-left

pub returns : goal.returns
returns c = search carried-edited
