-- `sealed::sealed_vertex_fits` meets its contract. Assumes nothing.
use Rattle.reader.proofs.Records.{vertex-other, vertex-rest}
use Rattle.sealed.proofs.sealed_vertex_fits.Goals as goal

pub returns-then-byte_at-ne1 : goal.returns-then-byte_at-ne1
returns-then-byte_at-ne1 c = search vertex-other

pub returns : goal.returns
returns c = search vertex-rest
