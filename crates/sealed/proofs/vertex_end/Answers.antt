-- `sealed::vertex_end` meets its contract. Assumes nothing.
use Rattle.reader.proofs.Ends.{further-failed, further-passed}
use Rattle.reader.proofs.Records.{vertex-unsealed}
use Rattle.reader.proofs.Frame.{sealed-by}
use borrow.Author.Rules.{rules}
use Rattle.sealed.proofs.vertex_end.Goals as goal

pub returns-then-end-at : goal.returns-then-end-at
returns-then-end-at c = search vertex-unsealed

pub sealed_vertex_fits-requires : goal.sealed_vertex_fits-requires
sealed_vertex_fits-requires c = record { valued = search rules; sealed = search sealed-by }

pub returns-then-not-sealed_vertex_fits : goal.returns-then-not-sealed_vertex_fits
returns-then-not-sealed_vertex_fits c = search further-failed

pub returns : goal.returns
returns c = search further-passed
