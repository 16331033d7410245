-- `desk_looks::desk_state` meets its contract. Assumes nothing.
use Rattle.desk_fits.proofs.Fits.{formed-by-desk, long-by-desk, on-misfit, on-desk}
use Rattle.desk_looks.proofs.desk_state.Goals as goal

pub returns-then-not-desk_fits : goal.returns-then-not-desk_fits
returns-then-not-desk_fits c = search on-misfit

pub state_formed-requires : goal.state_formed-requires
state_formed-requires c = record { formed = search formed-by-desk; s_len = search long-by-desk }

pub returns : goal.returns
returns c = search on-desk
