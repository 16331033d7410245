-- `query_sheets::put_query` meets its contract. Assumes nothing.
use borrow.Author.Rules.{rules}
use Rattle.query_sheets.specs.Room.{no_words}
use Rattle.query_sheets.proofs.put_query.Goals as goal

pub returns : goal.returns
unfolding no_words
returns c = search rules
