-- `hyperedge_frames::put_members` meets its contract. Assumes nothing.
use mathlib.Core.Path.{refl}
use Rattle.frames.proofs.Lines.{members-none, members-more, members-end}
use borrow.Author.Rules.{rules}
use Rattle.hyperedge_frames.proofs.put_members.Goals as goal

pub loop-i-init : goal.loop-i-init
loop-i-init c = (search rules, refl, members-none c.args.members.now _ _ (search rules))

pub loop-i-preserved : goal.loop-i-preserved
loop-i-preserved c = (search rules, search rules, search members-more)

pub returns : goal.returns
returns c = search members-end
