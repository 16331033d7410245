-- `closure::count_pairs` meets its contract. Assumes nothing.
use mathlib.Core.Path.{sym, ap, ◌∙◌}
use Prim.Native.Nat.{◌≤◌}
use native.Mathlib.Nat.{le_antisymm}
use native.Mathlib.Omega.{arith}
use Rattle.lists.proofs.Count.{count-le}
use Rattle.graph.specs.Reach.{matrix}
use Rattle.closure.specs.Pairs.{apart}
use Rattle.closure.specs.State.{pairs_below}
use Rattle.closure.proofs.Pairs.{pairs-none, pairs-more}
use Rattle.closure.proofs.count_pairs.Goals as goal

pub loop-x-init : goal.loop-x-init
loop-x-init c = (omega arith, sym (pairs-none _ _), omega arith)

pub overflow_add-c : goal.overflow_add-c
overflow_add-c c = let few : c.count_row-c.result ≤ 256 = omega (arith, c.count_row-c.ensures, count-le (apart (matrix c.args.m.now) c.loop-x.x) c.args.n, c.requires) in omega (arith, few)

pub loop-x-preserved : goal.loop-x-preserved
loop-x-preserved c = let few : c.count_row-c.result ≤ 256 = omega (arith, c.count_row-c.ensures, count-le (apart (matrix c.args.m.now) c.loop-x.x) c.args.n, c.requires) in (omega arith, pairs-more (matrix c.args.m.now) c.args.n c.loop-x.x c.loop-x.c c.count_row-c.result c.loop-x.invariant.1 c.count_row-c.ensures, omega (arith, few))

pub returns : goal.returns
returns c =
    let e = le_antisymm c.loop-x.invariant.0 c.loop-x-test.false in
    (c.loop-x.invariant.1 ∙ ap (pairs_below (matrix c.args.m.now) c.args.n) e, omega (arith, c.loop-x.invariant.2))
