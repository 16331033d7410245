-- `hyperedge_frames::put_hyperedge` meets its contract. Assumes nothing.
use Rattle.frames.proofs.Lines.{hyperedge-put}
use Rattle.hyperedge_frames.proofs.put_hyperedge.Goals as goal

pub returns : goal.returns
returns c = search hyperedge-put
