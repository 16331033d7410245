-- `reads::list_members` meets its contract. Assumes nothing.
use Rattle.reads.proofs.Columns.{members-within, members-listed}
use borrow.Author.Rules.{rules}
use Rattle.reads.proofs.list_members.Goals as goal

pub list_column-requires : goal.list_column-requires
list_column-requires c = (search members-within, search rules)

pub returns : goal.returns
returns c = search members-listed
