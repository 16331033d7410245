-- `frame_lines::put_record` meets its contract. Assumes nothing.
use Rattle.frames.proofs.Lines.{record-put}
use Rattle.frame_lines.proofs.put_record.Goals as goal

pub returns : goal.returns
returns c = search record-put
