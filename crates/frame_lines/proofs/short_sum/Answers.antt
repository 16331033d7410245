-- `frame_lines::short_sum` meets its contract. Assumes nothing.
use Rattle.frames.proofs.Bytes.{short-sum-is}
use Rattle.frame_lines.proofs.short_sum.Goals as goal

pub returns : goal.returns
returns c = short-sum-is _ _ _ c.byte_of.ensures c.byte_of-2.ensures
