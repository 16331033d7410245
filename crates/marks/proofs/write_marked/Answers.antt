-- `marks::write_marked` meets its contract: `Written` at each record. Assumes nothing.
use Prim.Native.Nat.{◌<◌, ◌-◌}
use native.Mathlib.Omega.{arith}
use lib.ListN.{length}
use Rattle.layout.specs.Layout.{limit}
use Rattle.marks.proofs.Marked.{written_none, written-room, written-yes, written-no, written-end, number-live}
use borrow.Author.Rules.{rules}
use Rattle.marks.proofs.write_marked.Goals as goal
use Rattle.marks.proofs.write_marked.Goals.{then-marks-k, else-marks-k}

pub loop-k-init : goal.loop-k-init
loop-k-init c = (search rules, written_none _ _ _)

pub offset_bounds-out-c : goal.offset_bounds-out-c
offset_bounds-out-c c = let room : c.loop-k.c < length c.loop-k.out = written-room c.loop-k.invariant.1 _ c.loop-k-test.true c.if-marks-k.true c.requires.n_value.1 in omega (arith, room)

pub bounds-out-c : goal.bounds-out-c
bounds-out-c c = let room : c.loop-k.c < length c.loop-k.out = written-room c.loop-k.invariant.1 _ c.loop-k-test.true c.if-marks-k.true c.requires.n_value.1 in room

pub overflow_add-c : goal.overflow_add-c
overflow_add-c c = let room : c.loop-k.c < length c.loop-k.out = written-room c.loop-k.invariant.1 _ c.loop-k-test.true c.if-marks-k.true c.requires.n_value.1 in omega (arith, room)

pub loop-k-preserved : goal.loop-k-preserved
loop-k-preserved c = (
  omega arith,
  elim c.if-marks-k.branch [
    | then-marks-k w ↦ written-yes c.loop-k.invariant.1 w.if-marks-k.true (written-room c.loop-k.invariant.1 _ c.loop-k-test.true w.if-marks-k.true c.requires.n_value.1)
        w.c-is (number-live limit c.args.t.now _ c.requires.n_value.0 _ _ c.loop-k-test.true w.vertex_number.ensures) w.out-is
    | else-marks-k w ↦ written-no c.loop-k.invariant.1 w.if-marks-k.false w.c-is w.out-is
  ],
)

pub shape_of-out : goal.shape_of-out
shape_of-out c = c.loop-k.invariant.1.same

pub returns : goal.returns
returns c = search written-end
