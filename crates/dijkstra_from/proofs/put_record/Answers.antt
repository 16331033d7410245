-- `dijkstra_from::put_record` meets its contract. Assumes nothing.
use Rattle.paths.proofs.Writing.{record-no, record-yes, record-room}
use borrow.Author.Rules.{rules}
use Rattle.dijkstra_from.proofs.put_record.Goals as goal

pub returns-then-m-v-ne2 : goal.returns-then-m-v-ne2
returns-then-m-v-ne2 c = search record-no

pub put_cost-requires : goal.put_cost-requires
put_cost-requires c = record { formed = search rules; v_bound = (search rules, search record-room) }

pub returns : goal.returns
returns c = search record-yes
