-- `damaged_texts::differ_at` meets its contract. Assumes nothing.
use borrow.Author.Rules.{rules}
use Rattle.damaged_texts.proofs.differ_at.Goals as goal

pub loop-b-preserved : goal.loop-b-preserved
loop-b-preserved c = (search rules, (search rules, search rules))
