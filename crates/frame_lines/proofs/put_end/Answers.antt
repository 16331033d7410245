-- `frame_lines::put_end` meets its contract. Assumes nothing.
use Rattle.frames.proofs.Bytes.{balance-low, end-put}
use borrow.Author.Rules.{rules}
use Rattle.frame_lines.proofs.put_end.Goals as goal

pub overflow_cast-balance : goal.overflow_cast-balance
overflow_cast-balance c = search (balance-low, rules)

pub returns : goal.returns
returns c = search end-put
