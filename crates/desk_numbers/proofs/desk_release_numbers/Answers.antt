-- `desk_numbers::desk_release_numbers` meets its contract. Assumes nothing.
use Rattle.desk_fits.proofs.Fits.{formed-by-desk, long-by-desk, on-misfit, on-desk}
use Rattle.desk_numbers.proofs.desk_release_numbers.Goals as goal

pub returns-then-not-desk_fits : goal.returns-then-not-desk_fits
returns-then-not-desk_fits c = search on-misfit

pub release_all-requires : goal.release_all-requires
release_all-requires c = record { formed = search formed-by-desk; s_len = search long-by-desk }

pub returns : goal.returns
returns c = search on-desk
