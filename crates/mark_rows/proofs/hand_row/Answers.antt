-- `mark_rows::hand_row` meets its contract. Assumes nothing.
use native.Mathlib.Omega.{arith}
use Rattle.mark_rows.proofs.Rows.{begun_first, begun_more, begun-either, begun-end}
use Rattle.mark_rows.proofs.hand_row.Goals as goal

pub loop-i-init : goal.loop-i-init
loop-i-init c = (omega arith, begun_first _ _ _ c.requires.2)

pub overflow_mul-rows : goal.overflow_mul-rows
overflow_mul-rows c = omega arith

pub overflow_add-rows : goal.overflow_add-rows
overflow_add-rows c = omega arith

pub offset_bounds-rows-k : goal.offset_bounds-rows-k
offset_bounds-rows-k c = omega arith

pub bounds-rows-k : goal.bounds-rows-k
bounds-rows-k c = omega arith

pub overflow_mul-rows-in-loop-i : goal.overflow_mul-rows-in-loop-i
overflow_mul-rows-in-loop-i c = omega arith

pub overflow_add-rows-in-loop-i : goal.overflow_add-rows-in-loop-i
overflow_add-rows-in-loop-i c = omega arith

pub offset_bounds-rows-x : goal.offset_bounds-rows-x
offset_bounds-rows-x c = omega arith

pub bounds-rows-x : goal.bounds-rows-x
bounds-rows-x c = omega arith

pub bounds-rows-x-in-loop-i : goal.bounds-rows-x-in-loop-i
bounds-rows-x-in-loop-i c = omega arith

pub loop-i-preserved : goal.loop-i-preserved
loop-i-preserved c =
    (omega arith, begun_more c.loop-i.invariant.1 (omega arith) (omega arith) _ (begun-either c.loop-i.invariant.1 (omega arith) c.args.k))

pub returns : goal.returns
returns c = search begun-end
