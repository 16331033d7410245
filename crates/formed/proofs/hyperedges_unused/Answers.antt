-- `formed::hyperedges_unused` meets its contract. Assumes nothing.
use Rattle.layout.specs.Layout.{limit}
use Rattle.formed.proofs.Judged.{hyperedges-are}
use Rattle.formed.proofs.hyperedges_unused.Goals as goal

pub returns : goal.returns
returns c = hyperedges-are limit _ _ _ c.requires.m_value c.all_zero.ensures
