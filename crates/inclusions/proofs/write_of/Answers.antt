-- `inclusions::write_of` meets its contract. Assumes nothing.
use Rattle.properties.proofs.Blocks.{laid-wrote}
use Prim.Native.Nat.{◌≤◌, ◌+◌}
use native.Mathlib.Omega.{arith}
use lib.ListN.{length}
use Rattle.layout.specs.Layout.{limit, hyperedge_count, hyperedge_at, read}
use Rattle.lookups.proofs.Laid.{laid_none, laid-room, laid-fits, laid_more}
use Rattle.properties.specs.Properties.{pair, pairs_of}
use borrow.Author.Rules.{rules}
use Rattle.inclusions.proofs.write_of.Goals as goal

pub loop-b-init : goal.loop-b-init
loop-b-init c = (search rules, laid_none _ _ _)

pub offset_bounds-out-c : goal.offset_bounds-out-c
unfolding pairs_of
offset_bounds-out-c c = let room : c.loop-b.c + length (pair (read limit c.args.t.now) (hyperedge_at limit c.args.t.now c.args.a) (hyperedge_at limit c.args.t.now c.loop-b.b)) ≤ length c.loop-b.out = let ws = c.args.t.now in
    laid-room c.loop-b.invariant.1 (hyperedge_count ws) (omega arith) c.requires.a_bound.1 in omega (arith, room)

pub slice_bounds-write_pair-count : goal.slice_bounds-write_pair-count
unfolding pairs_of
slice_bounds-write_pair-count c = let room : c.loop-b.c + length (pair (read limit c.args.t.now) (hyperedge_at limit c.args.t.now c.args.a) (hyperedge_at limit c.args.t.now c.loop-b.b)) ≤ length c.loop-b.out = let ws = c.args.t.now in
    laid-room c.loop-b.invariant.1 (hyperedge_count ws) (omega arith) c.requires.a_bound.1 in omega (arith, room)

pub slice_bounds-write_pair-start : goal.slice_bounds-write_pair-start
unfolding pairs_of
slice_bounds-write_pair-start c = let room : c.loop-b.c + length (pair (read limit c.args.t.now) (hyperedge_at limit c.args.t.now c.args.a) (hyperedge_at limit c.args.t.now c.loop-b.b)) ≤ length c.loop-b.out = let ws = c.args.t.now in
    laid-room c.loop-b.invariant.1 (hyperedge_count ws) (omega arith) c.requires.a_bound.1 in omega (arith, room)

pub write_pair-w-requires : goal.write_pair-w-requires
unfolding pairs_of
write_pair-w-requires c = let room : c.loop-b.c + length (pair (read limit c.args.t.now) (hyperedge_at limit c.args.t.now c.args.a) (hyperedge_at limit c.args.t.now c.loop-b.b)) ≤ length c.loop-b.out = let ws = c.args.t.now in
    laid-room c.loop-b.invariant.1 (hyperedge_count ws) (omega arith) c.requires.a_bound.1 in record { formed = c.requires.formed; sets = c.requires.sets; a_bound = (c.requires.a_bound.0, (omega arith, laid-fits c.loop-b.invariant.1 _ (room))) }

pub overflow_add-c : goal.overflow_add-c
unfolding pairs_of
overflow_add-c c = let room : c.loop-b.c + length (pair (read limit c.args.t.now) (hyperedge_at limit c.args.t.now c.args.a) (hyperedge_at limit c.args.t.now c.loop-b.b)) ≤ length c.loop-b.out = let ws = c.args.t.now in
    laid-room c.loop-b.invariant.1 (hyperedge_count ws) (omega arith) c.requires.a_bound.1 in omega (arith, room, c.write_pair-w.ensures.words, c.loop-b.invariant.1.same)

pub loop-b-preserved : goal.loop-b-preserved
unfolding pairs_of
loop-b-preserved c = let room : c.loop-b.c + length (pair (read limit c.args.t.now) (hyperedge_at limit c.args.t.now c.args.a) (hyperedge_at limit c.args.t.now c.loop-b.b)) ≤ length c.loop-b.out = let ws = c.args.t.now in
    laid-room c.loop-b.invariant.1 (hyperedge_count ws) (omega arith) c.requires.a_bound.1 in let w = c.write_pair-w.ensures in
    (omega arith, laid_more c.loop-b.invariant.1 _ w.words (room) w.wrote)

pub shape_of-out : goal.shape_of-out
shape_of-out c = c.loop-b.invariant.1.same

pub returns : goal.returns
unfolding pairs_of
returns c = laid-wrote c.loop-b.invariant.1 _ (omega arith) (omega arith)
