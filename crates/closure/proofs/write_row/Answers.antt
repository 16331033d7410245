-- `closure::write_row` meets its contract. Assumes nothing.
use mathlib.Core.Path.{sym, ◌∙◌}
use Prim.Native.Nat.{◌+◌, ◌≤◌}
use native.Mathlib.Omega.{arith}
use lib.ListN.{length, length-set}
use Rattle.layout.specs.Layout.{limit, read}
use Rattle.graph.specs.Reach.{matrix}
use Rattle.steps.specs.Matrices.{number_of}
use Rattle.marks.proofs.Marked.{number-live}
use Rattle.closure.proofs.Pairs.{row-none, row_room, row-yes, row-no, row-end, row_fits}
use Rattle.closure.proofs.write_row.Goals as goal
use Rattle.closure.proofs.write_row.Goals.{then-is_pair, else-is_pair}

pub loop-y-init : goal.loop-y-init
loop-y-init c = (omega arith, row-none _ _ _ _)

pub is_pair-requires : goal.is_pair-requires
is_pair-requires c = omega arith

pub offset_bounds-part-i : goal.offset_bounds-part-i
offset_bounds-part-i c = let room : c.loop-y.i + 2 ≤ length c.loop-y.part = row_room c.loop-y.invariant.1 _ c.loop-y-test.true (sym c.is_pair.ensures ∙ c.if-is_pair.true)
    (row_fits (number_of (read limit c.args.t.now)) (matrix c.args.m.now) c.args.n c.args.x c.args.part.now c.requires.n_value.2) in omega (arith, room)

pub bounds-part-i : goal.bounds-part-i
bounds-part-i c = let room : c.loop-y.i + 2 ≤ length c.loop-y.part = row_room c.loop-y.invariant.1 _ c.loop-y-test.true (sym c.is_pair.ensures ∙ c.if-is_pair.true)
    (row_fits (number_of (read limit c.args.t.now)) (matrix c.args.m.now) c.args.n c.args.x c.args.part.now c.requires.n_value.2) in omega (arith, room)

pub overflow_add-part : goal.overflow_add-part
overflow_add-part c = let room : c.loop-y.i + 2 ≤ length c.loop-y.part = row_room c.loop-y.invariant.1 _ c.loop-y-test.true (sym c.is_pair.ensures ∙ c.if-is_pair.true)
    (row_fits (number_of (read limit c.args.t.now)) (matrix c.args.m.now) c.args.n c.args.x c.args.part.now c.requires.n_value.2) in omega (arith, room)

pub offset_bounds-part-i-then-is_pair : goal.offset_bounds-part-i-then-is_pair
offset_bounds-part-i-then-is_pair c = let room : c.loop-y.i + 2 ≤ length c.loop-y.part = row_room c.loop-y.invariant.1 _ c.loop-y-test.true (sym c.is_pair.ensures ∙ c.if-is_pair.true)
    (row_fits (number_of (read limit c.args.t.now)) (matrix c.args.m.now) c.args.n c.args.x c.args.part.now c.requires.n_value.2) in omega (arith, room)

pub bounds-part-i-then-is_pair : goal.bounds-part-i-then-is_pair
bounds-part-i-then-is_pair c = let room : c.loop-y.i + 2 ≤ length c.loop-y.part = row_room c.loop-y.invariant.1 _ c.loop-y-test.true (sym c.is_pair.ensures ∙ c.if-is_pair.true)
    (row_fits (number_of (read limit c.args.t.now)) (matrix c.args.m.now) c.args.n c.args.x c.args.part.now c.requires.n_value.2) in omega (arith, room, length-set c.loop-y.part c.loop-y.i c.vertex_number-from.result)

pub overflow_add-i : goal.overflow_add-i
overflow_add-i c = let room : c.loop-y.i + 2 ≤ length c.loop-y.part = row_room c.loop-y.invariant.1 _ c.loop-y-test.true (sym c.is_pair.ensures ∙ c.if-is_pair.true)
    (row_fits (number_of (read limit c.args.t.now)) (matrix c.args.m.now) c.args.n c.args.x c.args.part.now c.requires.n_value.2) in omega (arith, room)

pub loop-y-preserved : goal.loop-y-preserved
loop-y-preserved c =
    let f = number_of (read limit c.args.t.now) in
    let r = row_fits f (matrix c.args.m.now) c.args.n c.args.x c.args.part.now c.requires.n_value.2 in (
      omega arith,
      elim c.if-is_pair.branch [
        | then-is_pair w ↦ let e = sym c.is_pair.ensures ∙ w.if-is_pair.true in
            row-yes c.loop-y.invariant.1 e (row_room c.loop-y.invariant.1 _ c.loop-y-test.true e r)
            (number-live limit c.args.t.now _ c.requires.n_value.0 _ _ c.requires.n_value.1 c.vertex_number-from.ensures)
            (number-live limit c.args.t.now _ c.requires.n_value.0 _ _ c.loop-y-test.true w.vertex_number.ensures) w.i-is w.part-is
        | else-is_pair w ↦ row-no c.loop-y.invariant.1 (sym c.is_pair.ensures ∙ w.if-is_pair.false) w.i-is w.part-is
      ],
    )

pub shape_of-part : goal.shape_of-part
shape_of-part c = c.loop-y.invariant.1.same

pub returns : goal.returns
returns c =
    row-end (matrix c.args.m.now) c.args.n c.loop-y.invariant.1 c.loop-y.invariant.0 c.loop-y-test.false
