-- `edits::records::store` meets its contract: `Stored` at each word. Assumes nothing.
use Rattle.edits.proofs.Stored.{stored-none, stored_more, stored-end}
use borrow.Author.Rules.{rules}
use Rattle.edits.proofs.records.store.Goals as goal

pub loop-i-init : goal.loop-i-init
loop-i-init c = (search rules, search rules, stored-none _ _ _)

pub loop-i-preserved : goal.loop-i-preserved
loop-i-preserved c = (search rules, search rules, search stored_more)

pub shape_of-t : goal.shape_of-t
shape_of-t c = c.loop-i.invariant.2.same

pub returns : goal.returns
returns c = search stored-end
