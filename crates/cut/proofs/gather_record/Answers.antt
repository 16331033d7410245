-- `cut::gather_record` meets its contract. Assumes nothing.
use Rattle.cut.proofs.Gathering.{places-lent, gathered-more}
use Rattle.cut.proofs.gather_record.Goals as goal

pub mark_pairs-requires : goal.mark_pairs-requires
mark_pairs-requires c = search places-lent

pub returns : goal.returns
returns c = search gathered-more
