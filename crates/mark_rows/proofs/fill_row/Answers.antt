-- `mark_rows::fill_row` meets its contract. Assumes nothing.
use native.Mathlib.Omega.{arith}
use Rattle.mark_rows.proofs.Rows.{begun_first, begun_more, begun-end}
use Rattle.mark_rows.proofs.fill_row.Goals as goal

pub loop-w-init : goal.loop-w-init
loop-w-init c = (omega arith, begun_first _ _ _ c.requires.2)

pub overflow_mul-w : goal.overflow_mul-w
overflow_mul-w c = omega arith

pub word_of-requires : goal.word_of-requires
word_of-requires c = omega arith

pub overflow_mul-rows : goal.overflow_mul-rows
overflow_mul-rows c = omega arith

pub overflow_add-rows : goal.overflow_add-rows
overflow_add-rows c = omega arith

pub offset_bounds-rows-x : goal.offset_bounds-rows-x
offset_bounds-rows-x c = omega arith

pub bounds-rows-x : goal.bounds-rows-x
bounds-rows-x c = omega arith

pub loop-w-preserved : goal.loop-w-preserved
loop-w-preserved c = (omega arith, search begun_more)

pub returns : goal.returns
returns c = search begun-end
