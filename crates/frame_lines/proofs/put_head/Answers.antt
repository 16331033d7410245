-- `frame_lines::put_head` meets its contract. Assumes nothing.
use Rattle.frames.proofs.Lines.{head-put}
use Rattle.frame_lines.proofs.put_head.Goals as goal

pub returns : goal.returns
returns c = search head-put
