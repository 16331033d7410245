-- `sealed::number_fits` meets its contract. Assumes nothing.
use Rattle.reader.proofs.Fits.{number-low, number-rest}
use Rattle.sealed.proofs.number_fits.Goals as goal

pub returns-then-x-low : goal.returns-then-x-low
returns-then-x-low c = search number-low

pub returns : goal.returns
returns c = search number-rest
