-- `closure::write_pairs` meets its contract. Assumes nothing.
use Prim.Native.Nat.{◌≤◌}
use native.Mathlib.Omega.{arith}
use mathlib.Core.Path.{◌≡◌}
use lib.ListN.{length}
use Rattle.components.proofs.Blocks.{blocks-first, blocks-long, blocks_at, blocks-room, blocks-lent, blocks_more, blocks_end}
use Rattle.closure.proofs.write_pairs.Goals as goal

pub loop-x-init : goal.loop-x-init
loop-x-init c = (omega arith, blocks-first _ _)

pub offset_bounds-out-at : goal.offset_bounds-out-at
offset_bounds-out-at c = let placed : c.loop-x.at ≤ length c.loop-x.out = blocks_at c.loop-x.invariant.1 c.args.n c.requires.n_value.1 c.loop-x.invariant.0 in let long : length c.loop-x.out ≡ length c.args.out.now = blocks-long c.loop-x.invariant.1 c.args.n c.requires.n_value.1 c.loop-x.invariant.0 in omega (arith, placed, long, c.well_formed)

pub slice_bounds-write_row-count : goal.slice_bounds-write_row-count
slice_bounds-write_row-count c = let placed : c.loop-x.at ≤ length c.loop-x.out = blocks_at c.loop-x.invariant.1 c.args.n c.requires.n_value.1 c.loop-x.invariant.0 in placed

pub slice_bounds-write_row-start : goal.slice_bounds-write_row-start
slice_bounds-write_row-start c = let placed : c.loop-x.at ≤ length c.loop-x.out = blocks_at c.loop-x.invariant.1 c.args.n c.requires.n_value.1 c.loop-x.invariant.0 in placed

pub slice_bounds-write_row-end : goal.slice_bounds-write_row-end
slice_bounds-write_row-end c = omega arith

pub write_row-at-requires : goal.write_row-at-requires
write_row-at-requires c = record { formed = c.requires.formed; n_value = (c.requires.n_value.0, c.loop-x-test.true, blocks-lent c.loop-x.invariant.1 c.args.n c.requires.n_value.1 c.loop-x-test.true) }

pub overflow_add-at : goal.overflow_add-at
overflow_add-at c = let long : length c.loop-x.out ≡ length c.args.out.now = blocks-long c.loop-x.invariant.1 c.args.n c.requires.n_value.1 c.loop-x.invariant.0 in omega (
  arith,
  blocks-room c.loop-x.invariant.1 c.args.n c.requires.n_value.1 c.loop-x-test.true,
  long,
  c.write_row-at.ensures.words,
  c.well_formed,
)

pub loop-x-preserved : goal.loop-x-preserved
loop-x-preserved c = (
  omega arith,
  blocks_more c.loop-x.invariant.1 c.args.n c.requires.n_value.1 c.write_row-at.new.part c.write_row-at.result
      c.write_row-at.ensures,
)

pub shape_of-out : goal.shape_of-out
shape_of-out c =
    blocks-long c.loop-x.invariant.1 c.args.n c.requires.n_value.1 c.loop-x.invariant.0

pub returns : goal.returns
returns c =
    blocks_end c.loop-x.invariant.1 c.args.n c.requires.n_value.1 c.loop-x.invariant.0 c.loop-x-test.false
