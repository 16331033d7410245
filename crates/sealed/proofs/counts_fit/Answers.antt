-- `sealed::counts_fit` meets its contract. Assumes nothing.
use Rattle.reader.proofs.Fits.{counts-many, counts-many-more, counts-few, counts-few-more, counts-none, counts_some}
use Rattle.sealed.proofs.counts_fit.Goals as goal

pub returns-then-n-gt-VERTEX_LIMIT : goal.returns-then-n-gt-VERTEX_LIMIT
returns-then-n-gt-VERTEX_LIMIT c = search counts-many

pub returns-then-m-gt-HYPEREDGE_LIMIT : goal.returns-then-m-gt-HYPEREDGE_LIMIT
returns-then-m-gt-HYPEREDGE_LIMIT c = search counts-many-more

pub returns-then-vertex-n : goal.returns-then-vertex-n
returns-then-vertex-n c = search counts-few

pub returns-then-hyperedge-m : goal.returns-then-hyperedge-m
returns-then-hyperedge-m c = search counts-few-more

pub returns-then-m-eq0 : goal.returns-then-m-eq0
returns-then-m-eq0 c = search counts-none

pub returns : goal.returns
returns c = search counts_some
