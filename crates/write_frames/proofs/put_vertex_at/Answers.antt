-- `write_frames::put_vertex_at` meets its contract. Assumes nothing.
use Rattle.frames.proofs.Text.{vertex-at-put}
use Rattle.write_frames.proofs.put_vertex_at.Goals as goal

pub returns : goal.returns
returns c = search vertex-at-put
