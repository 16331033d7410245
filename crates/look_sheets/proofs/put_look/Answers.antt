-- `look_sheets::put_look` meets its contract. Assumes nothing.
use Rattle.desk_fits.proofs.Fits.{formed-by-desk, long-by-desk}
use Rattle.look_sheets.proofs.Seen.{fits-by-desk, look-misfit, look-fit}
use Rattle.look_sheets.proofs.put_look.Goals as goal

pub returns-then-not-desk_fits : goal.returns-then-not-desk_fits
returns-then-not-desk_fits c = search look-misfit

pub look_formed-requires : goal.look_formed-requires
look_formed-requires c = record { formed = search formed-by-desk; s_len = search long-by-desk; s_value = search fits-by-desk }

pub returns : goal.returns
returns c = search look-fit
