-- `live_members::members_live` meets its contract: what is left of the members is the whole of them. Assumes nothing.
use Rattle.lists.proofs.All.{all-on, all-no, all_end}
use Rattle.formed.proofs.Judged.{members-are, members-few}
use borrow.Author.Rules.{rules}
use Rattle.live_members.proofs.members_live.Goals as goal

pub guess_eighths-requires : goal.guess_eighths-requires
guess_eighths-requires c = search members-few

pub loop-i-init : goal.loop-i-init
loop-i-init c = (search rules, search members-few, search members-are)

pub returns-then-not-is_live : goal.returns-then-not-is_live
returns-then-not-is_live c = search all-no

pub loop-i-preserved : goal.loop-i-preserved
loop-i-preserved c = (search rules, search rules, search all-on)

pub returns : goal.returns
returns c = search all_end
