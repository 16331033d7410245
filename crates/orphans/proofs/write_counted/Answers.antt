-- `orphans::write_counted` meets its contract. Assumes nothing.
use native.Mathlib.Omega.{arith}
use Rattle.lists.proofs.Count.{count-le}
use Rattle.marks.specs.Marks.{is_marked}
use Rattle.properties.proofs.Written.{counted-length, counted-some, counted_start, counted-room, counted-wrote, counted_same}
use borrow.Author.Rules.{rules}
use Rattle.orphans.proofs.write_counted.Goals as goal

pub overflow_cast-out : goal.overflow_cast-out
overflow_cast-out c = omega (arith, count-le (is_marked c.args.marks.now) c.vertex_count-n.result)

pub bounds-out-0 : goal.bounds-out-0
bounds-out-0 c = search counted-some

pub slice_bounds-write_marked-count : goal.slice_bounds-write_marked-count
slice_bounds-write_marked-count c = search counted_start

pub slice_bounds-write_marked-start : goal.slice_bounds-write_marked-start
slice_bounds-write_marked-start c = search counted_start

pub write_marked-requires : goal.write_marked-requires
write_marked-requires c = record { formed = search rules; n_value = (search rules, search counted-room) }

pub overflow_add-result : goal.overflow_add-result
overflow_add-result c = omega (arith, count-le (is_marked c.args.marks.now) c.vertex_count-n.result)

pub shape_of-out : goal.shape_of-out
shape_of-out c = search counted_same

pub returns : goal.returns
returns c = record { words = search counted-length; wrote = search counted-wrote }
