-- `merge_vertices::merge_live` meets its contract. Assumes nothing.
use Rattle.merge_vertices.proofs.Merging.{merge-same, beside-within, merge-beside, gone-below, merge-done}
use borrow.Author.Rules.{rules}
use Rattle.merge_vertices.proofs.merge_live.Goals as goal

pub returns-then-v-w : goal.returns-then-v-w
returns-then-v-w c = search merge-same

pub hyperedge_number-requires : goal.hyperedge_number-requires
hyperedge_number-requires c = (search rules, search beside-within)

pub drop_vertex-requires : goal.drop_vertex-requires
drop_vertex-requires c = (search rules, (search gone-below, search rules))

pub returns-in-Some : goal.returns-in-Some
returns-in-Some c = search merge-beside

pub returns : goal.returns
returns c = search merge-done
