-- `frame_lines::number_sum` meets its contract. Assumes nothing.
use Rattle.frames.proofs.Bytes.{number-sum-is}
use Rattle.frame_lines.proofs.number_sum.Goals as goal

pub returns : goal.returns
returns c = number-sum-is _ _ _ _ _ _ c.wide-w.ensures c.byte_of.ensures c.byte_of-2.ensures c.byte_of-3.ensures c.byte_of-4.ensures
