-- `inclusions::write_pair` meets its contract. Assumes nothing.
use Prim.Native.Nat.{◌≤◌}
use lib.ListN.{length, length-set}
use Rattle.layout.specs.Layout.{limit, hyperedge_at, read}
use native.Mathlib.Omega.{arith}
use Rattle.properties.proofs.Pairs.{pair-two, pair-kept, pair-wrote}
use Rattle.inclusions.proofs.write_pair.Goals as goal

pub returns-then-not-strictly_within : goal.returns-then-not-strictly_within
returns-then-not-strictly_within c = search pair-kept

pub bounds-out-0 : goal.bounds-out-0
bounds-out-0 c = let two : 2 ≤ length c.args.out.now = let ws = c.args.t.now in
    omega (arith, pair-two (read limit ws) (hyperedge_at limit ws c.args.a) (hyperedge_at limit ws c.args.b) c.strictly_within.result c.strictly_within.ensures c.if-not-strictly_within.false-raw, c.requires.a_bound.1.1) in omega (arith, two)

pub bounds-out-1 : goal.bounds-out-1
bounds-out-1 c = let two : 2 ≤ length c.args.out.now = let ws = c.args.t.now in
    omega (arith, pair-two (read limit ws) (hyperedge_at limit ws c.args.a) (hyperedge_at limit ws c.args.b) c.strictly_within.result c.strictly_within.ensures c.if-not-strictly_within.false-raw, c.requires.a_bound.1.1) in rw length-set (omega (arith, two))

pub returns : goal.returns
returns c = search pair-wrote
