-- `change_sheets::make_change` meets its contract. Assumes nothing.
use Rattle.change_sheets.proofs.Cases.{fits-by-test, unfit-told}
use Rattle.change_sheets.proofs.make_change.Goals as goal

pub returns-then-not-desk_fits : goal.returns-then-not-desk_fits
returns-then-not-desk_fits c = search unfit-told

pub make_fitting-requires : goal.make_fitting-requires
make_fitting-requires c = search fits-by-test
