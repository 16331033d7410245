-- `member_lists::judge_neighbours` meets its contract. Assumes nothing.
use Rattle.edits.proofs.Refusals.{neighbour-within, neighbours-equal, neighbours-fine}
use borrow.Author.Rules.{rules}
use Rattle.member_lists.proofs.judge_neighbours.Goals as goal

pub offset_bounds-members-i : goal.offset_bounds-members-i
offset_bounds-members-i c = search (rules, neighbour-within)

pub bounds-members-i : goal.bounds-members-i
bounds-members-i c = search neighbour-within

pub returns-in-Some : goal.returns-in-Some
returns-in-Some c = search neighbours-equal

pub returns-in-None : goal.returns-in-None
returns-in-None c = search neighbours-fine
