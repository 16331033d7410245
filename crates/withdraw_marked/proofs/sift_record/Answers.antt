-- `withdraw_marked::sift_record` meets its contract. Assumes nothing.
use Rattle.withdraw_marked.proofs.Sifting.{hyperedge-passed, members-room, left_le, hyperedge-emptied, hyperedge-kept}
use borrow.Author.Rules.{rules}
use Rattle.withdraw_marked.proofs.sift_record.Goals as goal

pub returns-then-hyperedges-j : goal.returns-then-hyperedges-j
returns-then-hyperedges-j c = search hyperedge-passed

pub keep_spared-c-requires : goal.keep_spared-c-requires
keep_spared-c-requires c = record { formed = search rules; list_in_bounds = search members-room }

pub returns-then-c-eq0 : goal.returns-then-c-eq0
returns-then-c-eq0 c = search hyperedge-emptied

pub end_record-requires : goal.end_record-requires
end_record-requires c = (search rules, (search rules, search left_le))

pub returns : goal.returns
returns c = search hyperedge-kept
