-- `member_lists::judge_members` meets its contract. Assumes nothing.
use Rattle.edits.proofs.Refusals.{judged-empty, judged-long, judged-missing, judged-live, missing-within}
use borrow.Author.Rules.{rules}
use Rattle.member_lists.proofs.judge_members.Goals as goal

pub returns-then-members-eq0 : goal.returns-then-members-eq0
returns-then-members-eq0 c = search judged-empty

pub returns-then-members-gt-MEMBER_LIMIT : goal.returns-then-members-gt-MEMBER_LIMIT
returns-then-members-gt-MEMBER_LIMIT c = search judged-long

pub offset_bounds-members-i : goal.offset_bounds-members-i
offset_bounds-members-i c = search (rules, missing-within)

pub bounds-members-i : goal.bounds-members-i
bounds-members-i c = search missing-within

pub returns-in-Some : goal.returns-in-Some
returns-in-Some c = search judged-missing

pub returns-in-None : goal.returns-in-None
returns-in-None c = search judged-live
