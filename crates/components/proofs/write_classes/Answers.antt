-- `components::write_classes` meets its contract. Assumes nothing.
use Prim.Native.Nat.{◌≤◌}
use native.Mathlib.Omega.{arith}
use mathlib.Core.Path.{◌≡◌}
use lib.ListN.{length}
use Rattle.layout.specs.Layout.{limit, read}
use Rattle.steps.specs.Matrices.{number_of}
use Rattle.components.proofs.Blocks.{blocks-first, blocks-long, blocks_at, blocks-room, blocks-lent, blocks_more, blocks_end, class-length, class-as}
use Rattle.components.proofs.write_classes.Goals as goal

pub loop-k-init : goal.loop-k-init
loop-k-init c = (omega arith, blocks-first _ _)

pub overflow_add-k : goal.overflow_add-k
overflow_add-k c = omega arith

pub offset_bounds-out-at : goal.offset_bounds-out-at
offset_bounds-out-at c = let placed : c.loop-k.at ≤ length c.loop-k.out = blocks_at c.loop-k.invariant.1 c.args.c c.requires.n_value.1 c.loop-k.invariant.0 in let long : length c.loop-k.out ≡ length c.args.out.now = blocks-long c.loop-k.invariant.1 c.args.c c.requires.n_value.1 c.loop-k.invariant.0 in omega (arith, placed, long, c.well_formed)

pub slice_bounds-write_class-count : goal.slice_bounds-write_class-count
slice_bounds-write_class-count c = let placed : c.loop-k.at ≤ length c.loop-k.out = blocks_at c.loop-k.invariant.1 c.args.c c.requires.n_value.1 c.loop-k.invariant.0 in placed

pub slice_bounds-write_class-start : goal.slice_bounds-write_class-start
slice_bounds-write_class-start c = let placed : c.loop-k.at ≤ length c.loop-k.out = blocks_at c.loop-k.invariant.1 c.args.c c.requires.n_value.1 c.loop-k.invariant.0 in placed

pub slice_bounds-write_class-end : goal.slice_bounds-write_class-end
slice_bounds-write_class-end c = omega arith

pub write_class-at-requires : goal.write_class-at-requires
write_class-at-requires c = record { formed = c.requires.formed; n_value = (c.requires.n_value.0, omega (arith, class-length (number_of (read limit c.args.t.now)) c.args.ids.now c.args.n c.loop-k.k, blocks-lent c.loop-k.invariant.1 c.args.c c.requires.n_value.1 c.loop-k-test.true)) }

pub overflow_add-at : goal.overflow_add-at
overflow_add-at c = let long : length c.loop-k.out ≡ length c.args.out.now = blocks-long c.loop-k.invariant.1 c.args.c c.requires.n_value.1 c.loop-k.invariant.0 in omega (
  arith,
  blocks-room c.loop-k.invariant.1 c.args.c c.requires.n_value.1 c.loop-k-test.true,
  long,
  (class-as (number_of (read limit c.args.t.now)) c.args.ids.now c.args.n c.loop-k.k c.write_class-at.ensures).words,
  c.well_formed,
)

pub loop-k-preserved : goal.loop-k-preserved
loop-k-preserved c = (
  omega arith,
  blocks_more c.loop-k.invariant.1 c.args.c c.requires.n_value.1 c.write_class-at.new.part c.write_class-at.result
      (class-as (number_of (read limit c.args.t.now)) c.args.ids.now c.args.n c.loop-k.k c.write_class-at.ensures),
)

pub shape_of-out : goal.shape_of-out
shape_of-out c =
    blocks-long c.loop-k.invariant.1 c.args.c c.requires.n_value.1 c.loop-k.invariant.0

pub returns : goal.returns
returns c =
    blocks_end c.loop-k.invariant.1 c.args.c c.requires.n_value.1 c.loop-k.invariant.0 c.loop-k-test.false
