-- `put_read::place_near` meets its contract. Assumes nothing.
use Rattle.std.proofs.Common.{arith}
use Rattle.put_read.proofs.place_near.Goals as goal
use Rattle.put_read.proofs.place_near.Goals.{then-wrapping_sub_u32-x, else-wrapping_sub_u32-x}

pub loop-half-preserved : goal.loop-half-preserved
loop-half-preserved c = elim c.if-wrapping_sub_u32-x.branch [ then-wrapping_sub_u32-x w ↦ omega arith | else-wrapping_sub_u32-x w ↦ omega arith ]
