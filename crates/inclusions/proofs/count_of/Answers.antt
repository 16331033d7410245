-- `inclusions::count_of` meets its contract. Assumes nothing.
use mathlib.Core.Path.{refl}
use Prim.Native.Nat.{◌≤◌}
use native.Mathlib.Omega.{arith}
use Rattle.layout.specs.Layout.{limit, hyperedge_at, read}
use Rattle.properties.specs.Properties.{pairs_of}
use Rattle.properties.proofs.Blocks.{totalled_none, totalled_more, totalled-end}
use Rattle.properties.proofs.Pairs.{pair-most}
use borrow.Author.Rules.{rules}
use Rattle.inclusions.proofs.count_of.Goals as goal

pub loop-b-init : goal.loop-b-init
loop-b-init c = (search rules, totalled_none _ _ _)

pub pair_length-c-requires : goal.pair_length-c-requires
pair_length-c-requires c = record { formed = c.requires.formed; sets = c.requires.sets; a_bound = (c.requires.a_bound, omega arith) }

pub overflow_add-c : goal.overflow_add-c
overflow_add-c c = let most : c.pair_length-c.result ≤ 2 = let ws = c.args.t.now in
    omega (arith, c.pair_length-c.ensures, pair-most (read limit ws) (hyperedge_at limit ws c.args.a) (hyperedge_at limit ws c.loop-b.b)) in omega (arith, most)

pub loop-b-preserved : goal.loop-b-preserved
loop-b-preserved c = let most : c.pair_length-c.result ≤ 2 = let ws = c.args.t.now in
    omega (arith, c.pair_length-c.ensures, pair-most (read limit ws) (hyperedge_at limit ws c.args.a) (hyperedge_at limit ws c.loop-b.b)) in (omega arith, totalled_more c.loop-b.invariant.1 c.pair_length-c.ensures (most) refl)

pub returns : goal.returns
unfolding pairs_of
returns c = totalled-end c.loop-b.invariant.1 _ (omega arith) (omega arith)
