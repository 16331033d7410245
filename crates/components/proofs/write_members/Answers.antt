-- `components::write_members` meets its contract: `Written` at each record. Assumes nothing.
use Prim.Native.Nat.{◌<◌}
use native.Mathlib.Omega.{arith}
use lib.ListN.{length}
use Rattle.layout.specs.Layout.{limit}
use Rattle.marks.proofs.Marked.{written_none, written-room, written-yes, written-no, written-end, number-live}
use borrow.Author.Rules.{rules}
use borrow.Author.Tests.{eq-eqb, ne_eqb}
use Rattle.components.proofs.write_members.Goals as goal
use Rattle.components.proofs.write_members.Goals.{then-ids-v, else-ids-v}

pub loop-v-init : goal.loop-v-init
loop-v-init c = (search rules, written_none _ _ _)

pub offset_bounds-part-c : goal.offset_bounds-part-c
offset_bounds-part-c c = let room : c.loop-v.c < length c.loop-v.part = written-room c.loop-v.invariant.1 _ c.loop-v-test.true (eq-eqb _ _ c.if-ids-v.true) c.requires.n_value.1 in omega (arith, room)

pub bounds-part-c : goal.bounds-part-c
bounds-part-c c = let room : c.loop-v.c < length c.loop-v.part = written-room c.loop-v.invariant.1 _ c.loop-v-test.true (eq-eqb _ _ c.if-ids-v.true) c.requires.n_value.1 in room

pub overflow_add-c : goal.overflow_add-c
overflow_add-c c = let room : c.loop-v.c < length c.loop-v.part = written-room c.loop-v.invariant.1 _ c.loop-v-test.true (eq-eqb _ _ c.if-ids-v.true) c.requires.n_value.1 in omega (arith, room)

pub loop-v-preserved : goal.loop-v-preserved
loop-v-preserved c = (
  omega arith,
  elim c.if-ids-v.branch [
    | then-ids-v w ↦ written-yes c.loop-v.invariant.1 (eq-eqb _ _ w.if-ids-v.true) (written-room c.loop-v.invariant.1 _ c.loop-v-test.true (eq-eqb _ _ w.if-ids-v.true) c.requires.n_value.1)
        w.c-is (number-live limit c.args.t.now _ c.requires.n_value.0 _ _ c.loop-v-test.true w.vertex_number.ensures) w.part-is
    | else-ids-v w ↦ written-no c.loop-v.invariant.1 (ne_eqb _ _ w.if-ids-v.false) w.c-is w.part-is
  ],
)

pub shape_of-part : goal.shape_of-part
shape_of-part c = c.loop-v.invariant.1.same

pub returns : goal.returns
returns c = search written-end
