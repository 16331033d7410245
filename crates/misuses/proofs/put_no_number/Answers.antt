-- `misuses::put_no_number` meets its contract. Assumes nothing.
use Rattle.misuses.specs.Misuses.{number_text}
use borrow.Author.Rules.{rules}
use Rattle.misuses.proofs.put_no_number.Goals as goal

pub returns : goal.returns
unfolding number_text
returns c = search rules
