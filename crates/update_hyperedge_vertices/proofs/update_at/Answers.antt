-- `update_hyperedge_vertices::update_at` meets its contract. Assumes nothing.
use Rattle.edits.proofs.UpdateHyperedge.{update-within, update-small, update_same, update-done}
use borrow.Author.Rules.{rules}
use Rattle.update_hyperedge_vertices.proofs.update_at.Goals as goal

pub members_formed-old-requires : goal.members_formed-old-requires
members_formed-old-requires c = record { formed = search rules; j_bound = search update-within }

pub returns-then-same_members : goal.returns-then-same_members
returns-then-same_members c = search update_same

pub put_members-requires : goal.put_members-requires
put_members-requires c = (search rules, (search update-small, search rules))

pub returns : goal.returns
returns c = search update-done
