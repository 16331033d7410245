-- `frame_lines::balance` meets its contract. Assumes nothing.
use Rattle.frames.specs.Frames.{balance}
use borrow.Author.Rules.{rules}
use Rattle.frame_lines.proofs.balance.Goals as goal

pub returns : goal.returns
unfolding balance
returns c = search rules
