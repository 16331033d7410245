-- `rename_vertex::rename_words` meets its contract: after i turns i words are read. Assumes nothing.
use borrow.Author.Rules.{rules}
use Rattle.edits.proofs.Copied.{copied_none}
use Rattle.rename_vertex.proofs.Renaming.{words_more, words-done}
use Rattle.rename_vertex.proofs.rename_words.Goals as goal

pub loop-i-init : goal.loop-i-init
loop-i-init c = (search rules, copied_none _ _ _)

pub loop-i-preserved : goal.loop-i-preserved
loop-i-preserved c = (search rules, search words_more)

pub shape_of-t : goal.shape_of-t
shape_of-t c = c.loop-i.invariant.1.same

pub returns : goal.returns
returns c = search words-done
