-- `desk_sheets::judge_order` meets its contract. Assumes nothing.
use Rattle.desk_sheets.proofs.Told.{order-refused, order-plain, order-worded}
use Rattle.desk_sheets.proofs.judge_order.Goals as goal

pub returns-in_err-desk_accept_order : goal.returns-in_err-desk_accept_order
returns-in_err-desk_accept_order c = search (order-refused, c.in_err-desk_accept_order.was)

pub returns-then-plain : goal.returns-then-plain
returns-then-plain c = search (order-plain, c.in_ok-desk_accept_order.was)

pub returns : goal.returns
returns c = search (order-worded, c.in_ok-desk_accept_order.was)
