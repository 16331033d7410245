-- `hyperedge_frames::hyperedge_sum` meets its contract. Assumes nothing.
use Rattle.frames.proofs.Lines.{hyperedge-sum}
use Rattle.hyperedge_frames.proofs.hyperedge_sum.Goals as goal

pub returns : goal.returns
returns c = search hyperedge-sum
