-- `desk_order::judge_length` meets its contract. Assumes nothing.
use Rattle.desk_order.proofs.Faults.{order-short, order-whole}
use Rattle.desk_order.proofs.judge_length.Goals as goal

pub returns-then-order-vertex_count : goal.returns-then-order-vertex_count
returns-then-order-vertex_count c = search order-short

pub returns : goal.returns
returns c = search order-whole
