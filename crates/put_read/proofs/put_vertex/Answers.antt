-- `put_read::put_vertex` meets its contract. Assumes nothing.
use Rattle.reader.proofs.Words.{vertex-number-word, vertex-weight-word, vertex-words-put}
use Rattle.std.proofs.Common.{rules}
use Rattle.put_read.proofs.put_vertex.Goals as goal

pub put_word-a-requires : goal.put_word-a-requires
put_word-a-requires c = (search rules, search vertex-number-word)

pub put_word-requires : goal.put_word-requires
put_word-requires c = (search rules, search vertex-weight-word)

pub returns : goal.returns
returns c = search vertex-words-put
