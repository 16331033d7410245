-- `formed::climbing` meets its contract: what is left of the test is the whole of it. Assumes nothing.
use Prim.Native.Nat.{◌≤◌, ◌+◌, ◌*◌}
use lib.ListN.{length}
use Rattle.lists.proofs.Ascend.{climb-on, climb-no-low, climb-no-high, climb-yes}
use Rattle.lists.proofs.Stride.{stride}
use Rattle.formed.proofs.Judged.{climbs-numbered}
use native.Mathlib.Omega.{arith}
use borrow.Author.Rules.{rules}
use Rattle.formed.proofs.climbing.Goals as goal

pub loop-i-init : goal.loop-i-init
loop-i-init c = (search rules, climbs-numbered _ _)

pub overflow_mul-x : goal.overflow_mul-x
overflow_mul-x c = let in-range : c.args.base + c.loop-i.i * c.args.step + c.args.step ≤ length c.args.t.now = stride _ _ _ _ c.loop-i-test.true c.requires.step_in_bounds in omega (arith, in-range)

pub overflow_add-x : goal.overflow_add-x
overflow_add-x c = let in-range : c.args.base + c.loop-i.i * c.args.step + c.args.step ≤ length c.args.t.now = stride _ _ _ _ c.loop-i-test.true c.requires.step_in_bounds in omega (arith, in-range)

pub offset_bounds-t-base : goal.offset_bounds-t-base
offset_bounds-t-base c = let in-range : c.args.base + c.loop-i.i * c.args.step + c.args.step ≤ length c.args.t.now = stride _ _ _ _ c.loop-i-test.true c.requires.step_in_bounds in omega (arith, in-range)

pub bounds-t-base : goal.bounds-t-base
bounds-t-base c = let in-range : c.args.base + c.loop-i.i * c.args.step + c.args.step ≤ length c.args.t.now = stride _ _ _ _ c.loop-i-test.true c.requires.step_in_bounds in omega (arith, in-range)

pub returns-then-x-low : goal.returns-then-x-low
returns-then-x-low c = search climb-no-low

pub returns-then-next-x : goal.returns-then-next-x
returns-then-next-x c = search climb-no-high

pub loop-i-preserved : goal.loop-i-preserved
loop-i-preserved c = (omega arith, search climb-on)

pub returns : goal.returns
returns c = search climb-yes
