-- `write_frames::put_vertex` meets its contract. Assumes nothing.
use Rattle.frames.proofs.Lines.{vertex-put}
use Rattle.write_frames.proofs.put_vertex.Goals as goal

pub returns : goal.returns
returns c = search vertex-put
