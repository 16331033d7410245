-- `clerk::looks::states_written` is safe and ends. Assumes nothing.
use Rattle.desk_fits.proofs.Fits.{formed-by-desk, long-by-desk}
use Rattle.clerk.proofs.looks.states_written.Goals as goal

pub put_states-requires : goal.put_states-requires
put_states-requires c = record { formed = search formed-by-desk; s_len = search long-by-desk }
