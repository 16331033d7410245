-- `hyperedge_lines::put_hyperedge` meets its contract. Assumes nothing.
use Rattle.reader.proofs.Words.{hyperedge-number-word, hyperedge-weight-word, record-room, record-words-put}
use borrow.Author.Rules.{rules}
use Rattle.hyperedge_lines.proofs.put_hyperedge.Goals as goal

pub put_word-a-requires : goal.put_word-a-requires
put_word-a-requires c = (search rules, search hyperedge-number-word)

pub put_word-b-requires : goal.put_word-b-requires
put_word-b-requires c = (search rules, search hyperedge-weight-word)

pub put_words-requires : goal.put_words-requires
put_words-requires c =
    record-room _ _ _ c.requires.list_value c.requires.sealed.1.1 c.requires.limit_in_bounds c.put_word-a.ensures c.put_word-b.ensures c.put_word-c.ensures

pub returns : goal.returns
returns c = search record-words-put
