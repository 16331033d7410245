-- `formed::is_shaped` meets its contract: its tests in the order of the definition. Assumes nothing.
use Rattle.formed.proofs.Judged.{unsized, vertices-over, hyperedges-over, vertices-used, hyperedges-used, records-last}
use Rattle.formed.proofs.is_shaped.Goals as goal

pub returns-then-t-ne-SIZE : goal.returns-then-t-ne-SIZE
returns-then-t-ne-SIZE c = search unsized

pub returns-then-n-gt-VERTEX_LIMIT : goal.returns-then-n-gt-VERTEX_LIMIT
returns-then-n-gt-VERTEX_LIMIT c = search vertices-over

pub returns-then-m-gt-HYPEREDGE_LIMIT : goal.returns-then-m-gt-HYPEREDGE_LIMIT
returns-then-m-gt-HYPEREDGE_LIMIT c = search hyperedges-over

pub returns-then-not-vertices_unused : goal.returns-then-not-vertices_unused
returns-then-not-vertices_unused c = search vertices-used

pub returns-then-not-hyperedges_unused : goal.returns-then-not-hyperedges_unused
returns-then-not-hyperedges_unused c = search hyperedges-used

pub returns : goal.returns
returns c = search records-last
