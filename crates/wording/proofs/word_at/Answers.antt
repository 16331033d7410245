-- `wording::word_at` meets its contract. Assumes nothing.
use Rattle.wording.proofs.Filled.{word_none}
use Rattle.wording.proofs.word_at.Goals as goal

pub returns : goal.returns
returns c = search word_none
