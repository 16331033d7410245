-- `well_formed::is_valid` meets its contract: its tests in the order of the definition. Assumes nothing.
use Rattle.formed.proofs.Judged.{shaped-records, numbered-when, vertices-fall, hyperedges-fall, members-last}
use borrow.Author.Rules.{rules}
use Rattle.well_formed.proofs.is_valid.Goals as goal

pub returns-then-not-climbing : goal.returns-then-not-climbing
returns-then-not-climbing c = search vertices-fall

pub returns-then-not-climbing-2 : goal.returns-then-not-climbing-2
returns-then-not-climbing-2 c = search hyperedges-fall

pub members_valid-requires : goal.members_valid-requires
members_valid-requires c = record { t_len = search rules; m_value = search shaped-records; t_value = numbered-when _ _ _ c.climbing.ensures c.if-not-climbing.false-raw; n_value = search rules }

pub returns : goal.returns
returns c = search members-last
