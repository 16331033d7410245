-- `head_line::put_head` meets its contract. Assumes nothing.
use Rattle.reader.proofs.HeadLine.{next-vertex-word, next-hyperedge-word, head-words-put}
use borrow.Author.Rules.{rules}
use Rattle.head_line.proofs.put_head.Goals as goal

pub put_word-a-requires : goal.put_word-a-requires
put_word-a-requires c = (search rules, search next-vertex-word)

pub put_word-b-requires : goal.put_word-b-requires
put_word-b-requires c = (search rules, search next-hyperedge-word)

pub returns : goal.returns
returns c = search head-words-put
