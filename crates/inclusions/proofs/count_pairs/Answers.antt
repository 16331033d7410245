-- `inclusions::count_pairs` meets its contract. Assumes nothing.
use mathlib.Core.Path.{refl}
use Prim.Native.Nat.{◌≤◌, ◌*◌}
use native.Mathlib.Omega.{arith}
use Rattle.layout.specs.Layout.{limit, hyperedge_limit, hyperedge_at}
use Rattle.properties.specs.Properties.{inclusions}
use Rattle.properties.proofs.Blocks.{totalled_none, totalled_more, totalled-end}
use Rattle.properties.proofs.Pairs.{pairs-most}
use borrow.Author.Rules.{rules}
use Rattle.inclusions.proofs.count_pairs.Goals as goal

pub loop-a-init : goal.loop-a-init
loop-a-init c = (search rules, totalled_none _ _ _)

pub count_of-c-requires : goal.count_of-c-requires
count_of-c-requires c = record { formed = c.requires.formed; sets = c.requires.sets; a_bound = omega arith }

pub overflow_add-c : goal.overflow_add-c
overflow_add-c c = let most : c.count_of-c.result ≤ hyperedge_limit * 2 = let ws = c.args.t.now in
    omega (arith, c.count_of-c.ensures, pairs-most limit ws c.requires.formed (hyperedge_at limit ws c.loop-a.a)) in omega (arith, most)

pub loop-a-preserved : goal.loop-a-preserved
loop-a-preserved c = let most : c.count_of-c.result ≤ hyperedge_limit * 2 = let ws = c.args.t.now in
    omega (arith, c.count_of-c.ensures, pairs-most limit ws c.requires.formed (hyperedge_at limit ws c.loop-a.a)) in (omega arith, totalled_more c.loop-a.invariant.1 c.count_of-c.ensures (most) refl)

pub returns : goal.returns
unfolding inclusions
returns c = totalled-end c.loop-a.invariant.1 _ (omega arith) (omega arith)
