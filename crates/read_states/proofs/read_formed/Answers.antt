-- `read_states::read_formed` meets its contract. Assumes nothing.
use Rattle.layout.specs.Layout.{vertex_limit}
use Rattle.reader.proofs.Made.{blank-is}
use Rattle.read_states.proofs.Answer.{read-unsized, read-bad, read-good}
use borrow.Author.Rules.{rules}
use Rattle.read_states.proofs.read_formed.Goals as goal

pub returns-then-s-ne-VERTEX_LIMIT : goal.returns-then-s-ne-VERTEX_LIMIT
returns-then-s-ne-VERTEX_LIMIT c = search read-unsized

pub read_lines-line-requires : goal.read_lines-line-requires
read_lines-line-requires c = record { formed = search rules; ss_value = blank-is vertex_limit }

pub returns-then-line-ne0 : goal.returns-then-line-ne0
returns-then-line-ne0 c = search read-bad

pub returns : goal.returns
returns c = search read-good
