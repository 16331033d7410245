-- `hyperedge_frames::members_sum` meets its contract. Assumes nothing.
use Rattle.frames.proofs.Lines.{sum-none, sum_more, sum-end}
use borrow.Author.Rules.{rules}
use Rattle.hyperedge_frames.proofs.members_sum.Goals as goal

pub loop-i-init : goal.loop-i-init
loop-i-init c = (search rules, search rules, sum-none c.args.members.now)

pub loop-i-preserved : goal.loop-i-preserved
loop-i-preserved c = (search rules, search rules, search sum_more)

pub returns : goal.returns
returns c = (search sum-end, search rules)
