-- `reads::write_column` meets its contract. Assumes nothing.
use Prim.Native.Nat.{◌+◌, ◌*◌, ◌≤◌}
use native.Mathlib.Omega.{arith}
use lib.ListN.{length}
use Rattle.lists.proofs.Stride.{stride}
use Rattle.lookups.proofs.Laid.{copied_none}
use Rattle.reads.proofs.Columns.{column-more, column-end}
use borrow.Author.Rules.{rules}
use Rattle.reads.proofs.write_column.Goals as goal

pub loop-i-init : goal.loop-i-init
loop-i-init c = (search rules, search copied_none)

pub overflow_mul-out : goal.overflow_mul-out
overflow_mul-out c = let in-range : c.args.base + c.loop-i.i * c.args.step + c.args.step ≤ length c.args.t.now = stride _ _ _ _ (omega arith) c.requires.step_in_bounds.0 in omega (arith, in-range)

pub overflow_add-out : goal.overflow_add-out
overflow_add-out c = let in-range : c.args.base + c.loop-i.i * c.args.step + c.args.step ≤ length c.args.t.now = stride _ _ _ _ (omega arith) c.requires.step_in_bounds.0 in omega (arith, in-range)

pub offset_bounds-t-base : goal.offset_bounds-t-base
offset_bounds-t-base c = let in-range : c.args.base + c.loop-i.i * c.args.step + c.args.step ≤ length c.args.t.now = stride _ _ _ _ (omega arith) c.requires.step_in_bounds.0 in omega (arith, in-range)

pub bounds-t-base : goal.bounds-t-base
bounds-t-base c = let in-range : c.args.base + c.loop-i.i * c.args.step + c.args.step ≤ length c.args.t.now = stride _ _ _ _ (omega arith) c.requires.step_in_bounds.0 in omega (arith, in-range)

pub loop-i-preserved : goal.loop-i-preserved
loop-i-preserved c = (search rules, search column-more)

pub shape_of-out : goal.shape_of-out
shape_of-out c = c.loop-i.invariant.1.same

pub returns : goal.returns
returns c = search column-end
