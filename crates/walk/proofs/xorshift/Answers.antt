-- `walk::xorshift` meets its contract. Assumes nothing.
use Rattle.walk.specs.Walk.{xorshift}
use Rattle.std.proofs.Common.{rules}
use Rattle.walk.proofs.xorshift.Goals as goal

pub returns : goal.returns
unfolding xorshift
returns c = search rules
