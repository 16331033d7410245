-- `inclusions::write_pairs` meets its contract. Assumes nothing.
use Prim.Native.Nat.{◌≤◌, ◌+◌}
use native.Mathlib.Omega.{arith}
use lib.ListN.{length}
use Rattle.layout.specs.Layout.{limit, hyperedge_count, hyperedge_at, read}
use Rattle.lookups.proofs.Laid.{laid_none, laid-room, laid-fits, laid_more, laid_end}
use Rattle.properties.specs.Properties.{pairs_of, inclusions}
use borrow.Author.Rules.{rules}
use Rattle.inclusions.proofs.write_pairs.Goals as goal

pub loop-a-init : goal.loop-a-init
loop-a-init c = (search rules, laid_none _ _ _)

pub offset_bounds-out-c : goal.offset_bounds-out-c
unfolding inclusions
offset_bounds-out-c c = let room : c.loop-a.c + length (pairs_of (read limit c.args.t.now) (hyperedge_at limit c.args.t.now c.loop-a.a)) ≤ length c.loop-a.out = let ws = c.args.t.now in
    laid-room c.loop-a.invariant.1 (hyperedge_count ws) (omega arith) c.requires.t_in_bounds in omega (arith, room)

pub slice_bounds-write_of-count : goal.slice_bounds-write_of-count
unfolding inclusions
slice_bounds-write_of-count c = let room : c.loop-a.c + length (pairs_of (read limit c.args.t.now) (hyperedge_at limit c.args.t.now c.loop-a.a)) ≤ length c.loop-a.out = let ws = c.args.t.now in
    laid-room c.loop-a.invariant.1 (hyperedge_count ws) (omega arith) c.requires.t_in_bounds in omega (arith, room)

pub slice_bounds-write_of-start : goal.slice_bounds-write_of-start
unfolding inclusions
slice_bounds-write_of-start c = let room : c.loop-a.c + length (pairs_of (read limit c.args.t.now) (hyperedge_at limit c.args.t.now c.loop-a.a)) ≤ length c.loop-a.out = let ws = c.args.t.now in
    laid-room c.loop-a.invariant.1 (hyperedge_count ws) (omega arith) c.requires.t_in_bounds in omega (arith, room)

pub write_of-w-requires : goal.write_of-w-requires
unfolding inclusions
write_of-w-requires c = let room : c.loop-a.c + length (pairs_of (read limit c.args.t.now) (hyperedge_at limit c.args.t.now c.loop-a.a)) ≤ length c.loop-a.out = let ws = c.args.t.now in
    laid-room c.loop-a.invariant.1 (hyperedge_count ws) (omega arith) c.requires.t_in_bounds in record { formed = c.requires.formed; sets = c.requires.sets; a_bound = (omega arith, laid-fits c.loop-a.invariant.1 _ (room)) }

pub overflow_add-c : goal.overflow_add-c
unfolding inclusions
overflow_add-c c = let room : c.loop-a.c + length (pairs_of (read limit c.args.t.now) (hyperedge_at limit c.args.t.now c.loop-a.a)) ≤ length c.loop-a.out = let ws = c.args.t.now in
    laid-room c.loop-a.invariant.1 (hyperedge_count ws) (omega arith) c.requires.t_in_bounds in omega (arith, room, c.write_of-w.ensures.words, c.loop-a.invariant.1.same)

pub loop-a-preserved : goal.loop-a-preserved
unfolding inclusions
loop-a-preserved c = let room : c.loop-a.c + length (pairs_of (read limit c.args.t.now) (hyperedge_at limit c.args.t.now c.loop-a.a)) ≤ length c.loop-a.out = let ws = c.args.t.now in
    laid-room c.loop-a.invariant.1 (hyperedge_count ws) (omega arith) c.requires.t_in_bounds in let w = c.write_of-w.ensures in
    (omega arith, laid_more c.loop-a.invariant.1 _ w.words (room) w.wrote)

pub shape_of-out : goal.shape_of-out
shape_of-out c = c.loop-a.invariant.1.same

pub returns : goal.returns
unfolding inclusions
returns c = laid_end c.loop-a.invariant.1 _ (omega arith) (omega arith)
