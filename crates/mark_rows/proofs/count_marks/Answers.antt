-- `mark_rows::count_marks` meets its contract. Assumes nothing.
use mathlib.Core.Path.{refl}
use native.Mathlib.Omega.{arith}
use Rattle.mark_rows.proofs.Rows.{row-count-more, row_count_lem}
use Rattle.mark_rows.proofs.count_marks.Goals as goal

pub loop-w-init : goal.loop-w-init
loop-w-init c = (omega arith, refl, omega arith)

pub overflow_mul-x : goal.overflow_mul-x
overflow_mul-x c = omega arith

pub overflow_add-x : goal.overflow_add-x
overflow_add-x c = omega arith

pub offset_bounds-rows-x : goal.offset_bounds-rows-x
offset_bounds-rows-x c = omega arith

pub bounds-rows-x : goal.bounds-rows-x
bounds-rows-x c = omega arith

pub overflow_add-c : goal.overflow_add-c
overflow_add-c c = omega (arith, c.count_word-c.ensures.1)

pub loop-w-preserved : goal.loop-w-preserved
loop-w-preserved c = (omega arith, search row-count-more, omega (arith, c.count_word-c.ensures.1))

pub returns : goal.returns
returns c = (search row_count_lem, omega arith)
