-- `walk::exact` meets its contract. Assumes nothing.
use lib.Ieee.{in_float}
use Rattle.std.proofs.Common.{le→leb}
use Rattle.walk.proofs.exact.Goals as goal

pub int_to_float-result : goal.int_to_float-result
unfolding in_float
int_to_float-result c = le→leb _ _ c.requires
