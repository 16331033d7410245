-- `full_adjacent::words_needed` meets its contract. Assumes nothing.
use mathlib.Core.Path.{◌≡◌}
use Prim.Native.Nat.{◌+◌, ◌-◌}
use native.Mathlib.Omega.{arith}
use Rattle.lookups.specs.State.{listing_most, start}
use Rattle.lookups.proofs.Full.{start_none, start-more, start-end, start-most}
use borrow.Author.Rules.{rules}
use Rattle.full_adjacent.proofs.words_needed.Goals as goal

pub loop-k-init : goal.loop-k-init
loop-k-init c = (search rules, start_none _)

pub words_for-c-requires : goal.words_for-c-requires
words_for-c-requires c = c.requires.counts_len.1 c.loop-k.k c.loop-k-test.true

pub overflow_add-c : goal.overflow_add-c
overflow_add-c c = let more : c.loop-k.c + c.words_for-c.result ≡ start c.args.counts.now (c.loop-k.k + 1) = start-more c.args.counts.now c.loop-k.k _ _ (omega arith) c.loop-k.invariant.1 c.words_for-c.ensures in omega (arith, more, start-most c.args.counts.now listing_most c.args.n (omega arith) c.requires.counts_len.1 (c.loop-k.k + 1) (omega arith))

pub loop-k-preserved : goal.loop-k-preserved
loop-k-preserved c = let more : c.loop-k.c + c.words_for-c.result ≡ start c.args.counts.now (c.loop-k.k + 1) = start-more c.args.counts.now c.loop-k.k _ _ (omega arith) c.loop-k.invariant.1 c.words_for-c.ensures in (omega arith, more)

pub returns : goal.returns
returns c = start-end c.args.counts.now c.args.n c.loop-k.k _ c.loop-k.invariant.1 c.loop-k.invariant.0 c.loop-k-test.false
