-- `orphans::list_two` meets its contract. Assumes nothing.
use Prim.Native.Nat.{◌≤◌}
use native.Mathlib.Omega.{arith}
use lib.ListN.{length}
use Rattle.lists.proofs.Count.{count-le}
use Rattle.layout.specs.Layout.{limit, vertex_limit}
use Rattle.marks.specs.Marks.{is_marked}
use Rattle.properties.proofs.Written.{two-over, two-first, two-part, two-second, two_fits}
use borrow.Author.Rules.{rules}
use Rattle.orphans.proofs.list_two.Goals as goal

pub overflow_add-c : goal.overflow_add-c
overflow_add-c c = let most : (c.count_marked.result ≤ vertex_limit) × (c.count_marked-2.result ≤ vertex_limit) = (
  omega (arith, c.count_marked.ensures, count-le (is_marked c.args.a.now) c.vertex_count-n.result, c.vertex_count-n.ensures, c.requires.shape.vertices-le),
  omega (arith, c.count_marked-2.ensures, count-le (is_marked c.args.b.now) c.vertex_count-n.result, c.vertex_count-n.ensures, c.requires.shape.vertices-le),
) in omega (arith, (most).0, (most).1)

pub overflow_add-c-2 : goal.overflow_add-c-2
overflow_add-c-2 c = let most : (c.count_marked.result ≤ vertex_limit) × (c.count_marked-2.result ≤ vertex_limit) = (
  omega (arith, c.count_marked.ensures, count-le (is_marked c.args.a.now) c.vertex_count-n.result, c.vertex_count-n.ensures, c.requires.shape.vertices-le),
  omega (arith, c.count_marked-2.ensures, count-le (is_marked c.args.b.now) c.vertex_count-n.result, c.vertex_count-n.ensures, c.requires.shape.vertices-le),
) in omega (arith, (most).0, (most).1)

pub returns-then-out-c : goal.returns-then-out-c
returns-then-out-c c = search two-over

pub write_counted-k-requires : goal.write_counted-k-requires
write_counted-k-requires c = record { formed = search rules; t_in_bounds = search two-first }

pub offset_bounds-out-k : goal.offset_bounds-out-k
offset_bounds-out-k c = let part : c.write_counted-k.result ≤ length c.write_counted-k.new.out = two-part limit c.args.t.now c.args.a.now c.args.b.now c.vertex_count-n.result c.count_marked.result c.count_marked-2.result c.vertex_count-n.ensures c.count_marked.ensures c.count_marked-2.ensures c.args.out.now c.if-out-c.false c.write_counted-k.result c.write_counted-k.new.out c.write_counted-k.ensures.words c.write_counted-k.ensures.wrote in omega (arith, part)

pub slice_bounds-write_counted-count : goal.slice_bounds-write_counted-count
slice_bounds-write_counted-count c = let part : c.write_counted-k.result ≤ length c.write_counted-k.new.out = two-part limit c.args.t.now c.args.a.now c.args.b.now c.vertex_count-n.result c.count_marked.result c.count_marked-2.result c.vertex_count-n.ensures c.count_marked.ensures c.count_marked-2.ensures c.args.out.now c.if-out-c.false c.write_counted-k.result c.write_counted-k.new.out c.write_counted-k.ensures.words c.write_counted-k.ensures.wrote in omega (arith, part)

pub slice_bounds-write_counted-start : goal.slice_bounds-write_counted-start
slice_bounds-write_counted-start c = let part : c.write_counted-k.result ≤ length c.write_counted-k.new.out = two-part limit c.args.t.now c.args.a.now c.args.b.now c.vertex_count-n.result c.count_marked.result c.count_marked-2.result c.vertex_count-n.ensures c.count_marked.ensures c.count_marked-2.ensures c.args.out.now c.if-out-c.false c.write_counted-k.result c.write_counted-k.new.out c.write_counted-k.ensures.words c.write_counted-k.ensures.wrote in omega (arith, part)

pub write_counted-requires : goal.write_counted-requires
write_counted-requires c = let s = c in record { formed = search rules; t_in_bounds = two-second limit s.args.t.now _ _ _ _ _ c.vertex_count-n.ensures c.count_marked.ensures c.count_marked-2.ensures _ c.if-out-c.false _ _ c.write_counted-k.ensures.words c.write_counted-k.ensures.wrote }

pub returns : goal.returns
returns c = search two_fits
