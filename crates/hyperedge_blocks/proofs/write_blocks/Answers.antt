-- `hyperedge_blocks::write_blocks` meets its contract. Assumes nothing.
use Prim.Native.Nat.{◌≤◌, ◌+◌}
use native.Mathlib.Omega.{arith}
use lib.ListN.{length}
use Rattle.layout.specs.Layout.{limit, hyperedge_count, hyperedge_at}
use Rattle.lookups.specs.Lookups.{block, listing}
use Rattle.lookups.specs.State.{block_length}
use Rattle.lookups.proofs.Laid.{laid_none, laid-room, laid-fits, laid_more, laid_end}
use borrow.Author.Rules.{rules}
use Rattle.hyperedge_blocks.proofs.write_blocks.Goals as goal

pub loop-j-init : goal.loop-j-init
loop-j-init c = (search rules, laid_none _ _ _)

pub offset_bounds-out-c : goal.offset_bounds-out-c
unfolding listing
offset_bounds-out-c c = let room : c.loop-j.c + length (block c.args.q (hyperedge_at limit c.args.t.now c.loop-j.j)) ≤ length c.loop-j.out = laid-room c.loop-j.invariant.1 (hyperedge_count c.args.t.now) (omega arith) c.requires.t_in_bounds in omega (arith, room)

pub slice_bounds-write_block-count : goal.slice_bounds-write_block-count
unfolding listing
slice_bounds-write_block-count c = let room : c.loop-j.c + length (block c.args.q (hyperedge_at limit c.args.t.now c.loop-j.j)) ≤ length c.loop-j.out = laid-room c.loop-j.invariant.1 (hyperedge_count c.args.t.now) (omega arith) c.requires.t_in_bounds in omega (arith, room)

pub slice_bounds-write_block-start : goal.slice_bounds-write_block-start
unfolding listing
slice_bounds-write_block-start c = let room : c.loop-j.c + length (block c.args.q (hyperedge_at limit c.args.t.now c.loop-j.j)) ≤ length c.loop-j.out = laid-room c.loop-j.invariant.1 (hyperedge_count c.args.t.now) (omega arith) c.requires.t_in_bounds in omega (arith, room)

pub write_block-k-requires : goal.write_block-k-requires
unfolding block_length listing
write_block-k-requires c = let room : c.loop-j.c + length (block c.args.q (hyperedge_at limit c.args.t.now c.loop-j.j)) ≤ length c.loop-j.out = laid-room c.loop-j.invariant.1 (hyperedge_count c.args.t.now) (omega arith) c.requires.t_in_bounds in record { formed = search rules; j_bound = (omega arith, laid-fits c.loop-j.invariant.1 _ (room)) }

pub overflow_add-c : goal.overflow_add-c
unfolding block_length listing
overflow_add-c c = let room : c.loop-j.c + length (block c.args.q (hyperedge_at limit c.args.t.now c.loop-j.j)) ≤ length c.loop-j.out = laid-room c.loop-j.invariant.1 (hyperedge_count c.args.t.now) (omega arith) c.requires.t_in_bounds in omega (arith, room, c.write_block-k.ensures.value, c.loop-j.invariant.1.same)

pub loop-j-preserved : goal.loop-j-preserved
unfolding block_length listing
loop-j-preserved c = let room : c.loop-j.c + length (block c.args.q (hyperedge_at limit c.args.t.now c.loop-j.j)) ≤ length c.loop-j.out = laid-room c.loop-j.invariant.1 (hyperedge_count c.args.t.now) (omega arith) c.requires.t_in_bounds in let w = c.write_block-k.ensures in
    (omega arith, laid_more c.loop-j.invariant.1 _ w.value (room) w.out_after)

pub shape_of-out : goal.shape_of-out
shape_of-out c = c.loop-j.invariant.1.same

pub returns : goal.returns
unfolding listing
returns c = laid_end c.loop-j.invariant.1 _ (omega arith) (omega arith)
