-- `put_read::put_word` meets its contract. Assumes nothing.
use Rattle.reader.proofs.Words.{word-put}
use Rattle.put_read.proofs.put_word.Goals as goal

pub returns : goal.returns
returns c = search word-put
