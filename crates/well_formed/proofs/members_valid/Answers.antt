-- `well_formed::members_valid` meets its contract. Assumes nothing.
use Rattle.formed.proofs.Judged.{vertices-rise, members-dense}
use borrow.Author.Rules.{rules}
use Rattle.well_formed.proofs.members_valid.Goals as goal

pub returns-then-t : goal.returns-then-t
returns-then-t c = search members-dense

pub all_members_live-requires : goal.all_members_live-requires
all_members_live-requires c = record { t_len = search rules; m_value = search rules; ascending = search vertices-rise }
