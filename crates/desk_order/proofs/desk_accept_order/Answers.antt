-- `desk_order::desk_accept_order` meets its contract. Assumes nothing.
use Rattle.desk_fits.proofs.Fits.{formed-by-desk, on-misfit, on-desk}
use Rattle.desk_order.proofs.desk_accept_order.Goals as goal

pub returns-then-not-desk_fits : goal.returns-then-not-desk_fits
returns-then-not-desk_fits c = search on-misfit

pub accept_formed-requires : goal.accept_formed-requires
accept_formed-requires c = search formed-by-desk

pub returns : goal.returns
returns c = search on-desk
