-- `desk_fits::desk_fits` meets its contract. Assumes nothing.
use Rattle.desk_fits.proofs.Fits.{misfit-table, count_fits_lem, fits-as-states}
use Rattle.layout.proofs.Answers.{sized-by}
use Rattle.desk_fits.proofs.desk_fits.Goals as goal

pub returns-then-not-well_formed : goal.returns-then-not-well_formed
returns-then-not-well_formed c = search misfit-table

pub vertex_count-requires : goal.vertex_count-requires
vertex_count-requires c = search sized-by

pub states_fit-requires : goal.states_fit-requires
states_fit-requires c = search count_fits_lem

pub returns : goal.returns
returns c = search fits-as-states
