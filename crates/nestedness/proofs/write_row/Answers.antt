-- `nestedness::write_row` meets its contract. Assumes nothing.
use Prim.Native.Nat.{◌≤◌}
use lib.ListN.{length, length-set}
use Rattle.lists.proofs.Count.{count-le}
use Rattle.properties.specs.State.{size_at}
use native.Mathlib.Omega.{arith}
use Rattle.properties.proofs.Rows.{row-three, row_kept, row_wrote}
use Rattle.nestedness.proofs.write_row.Goals as goal

pub returns-then-c-eq0 : goal.returns-then-c-eq0
returns-then-c-eq0 c = search row_kept

pub bounds-out-0 : goal.bounds-out-0
bounds-out-0 c = let three : 3 ≤ length c.args.out.now = omega (
  arith,
  row-three c.args.t.now c.args.sizes.now c.args.all.now c.args.inc.now c.requires.classed c.args.s c.hyperedge_count-k.result c.hyperedge_count-k.ensures c.count_of_size-c.result c.count_of_size-c.ensures c.if-c-eq0.false,
  c.requires.s_le_vertex_limit.1,
) in omega (arith, three)

pub word-requires-2 : goal.word-requires-2
word-requires-2 c = omega (arith, c.count_of_size-d.ensures, count-le (size_at c.args.sizes.now c.args.inc.now c.args.s) c.hyperedge_count-k.result, c.hyperedge_count-k.ensures, c.requires.formed.shape.hyperedges-le)

pub bounds-out-1 : goal.bounds-out-1
bounds-out-1 c = let three : 3 ≤ length c.args.out.now = omega (
  arith,
  row-three c.args.t.now c.args.sizes.now c.args.all.now c.args.inc.now c.requires.classed c.args.s c.hyperedge_count-k.result c.hyperedge_count-k.ensures c.count_of_size-c.result c.count_of_size-c.ensures c.if-c-eq0.false,
  c.requires.s_le_vertex_limit.1,
) in rw length-set (omega (arith, three))

pub word-requires-3 : goal.word-requires-3
word-requires-3 c = omega (arith, c.count_of_size-c.ensures, count-le (size_at c.args.sizes.now c.args.all.now c.args.s) c.hyperedge_count-k.result, c.hyperedge_count-k.ensures, c.requires.formed.shape.hyperedges-le)

pub bounds-out-2 : goal.bounds-out-2
bounds-out-2 c = let three : 3 ≤ length c.args.out.now = omega (
  arith,
  row-three c.args.t.now c.args.sizes.now c.args.all.now c.args.inc.now c.requires.classed c.args.s c.hyperedge_count-k.result c.hyperedge_count-k.ensures c.count_of_size-c.result c.count_of_size-c.ensures c.if-c-eq0.false,
  c.requires.s_le_vertex_limit.1,
) in rw (length-set, length-set) (omega (arith, three))

pub returns : goal.returns
returns c = search row_wrote
