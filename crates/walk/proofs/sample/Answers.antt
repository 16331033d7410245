-- `walk::sample` meets its contract. The code's 18446744073709551616.0 is 2 to the 64th, by computation. Assumes nothing.
use lib.Ieee.{of_bits}
use Rattle.walk.specs.Walk.{sample}
use Rattle.walk.proofs.sample.Goals as goal

pub returns : goal.returns
unfolding of_bits sample
returns c = rw (c.nearest_u64_to_f64.ensures, c.exact.ensures)
