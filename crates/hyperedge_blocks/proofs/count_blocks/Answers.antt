-- `hyperedge_blocks::count_blocks` meets its contract. Assumes nothing.
use mathlib.Core.Path.{refl, ◌∙◌}
use Prim.Native.Nat.{suc, ◌≤◌}
use native.Mathlib.Omega.{arith}
use Rattle.layout.specs.Layout.{limit}
use Rattle.lookups.specs.Lookups.{listing}
use Rattle.lookups.proofs.Places.{summed-none, summed-more, summed-end}
use Rattle.lookups.proofs.Laid.{block-most, blocks-length}
use borrow.Author.Rules.{rules}
use Rattle.hyperedge_blocks.proofs.count_blocks.Goals as goal

pub loop-j-init : goal.loop-j-init
loop-j-init c = (search rules, summed-none _ _ _ _)

pub overflow_add-n : goal.overflow_add-n
overflow_add-n c = let most : c.block_length-n.result ≤ suc limit = omega (arith, c.block_length-n.ensures, block-most limit c.args.t.now c.loop-j.j c.args.q c.requires (omega arith)) in omega (arith, most)

pub loop-j-preserved : goal.loop-j-preserved
loop-j-preserved c = let most : c.block_length-n.result ≤ suc limit = omega (arith, c.block_length-n.ensures, block-most limit c.args.t.now c.loop-j.j c.args.q c.requires (omega arith)) in (omega arith, summed-more c.loop-j.invariant.1 (omega arith) c.block_length-n.ensures (most) refl)

pub returns : goal.returns
unfolding listing
returns c = summed-end c.loop-j.invariant.1 (omega arith) ∙ blocks-length _ _
