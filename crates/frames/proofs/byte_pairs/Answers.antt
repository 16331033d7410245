-- `frames::byte_pairs` meets its contract. Assumes nothing.
use mathlib.Core.Path.{refl}
use Prim.Native.Nat.{ℕ}
use lib.ListN.{length-replicate}
use Rattle.frames.proofs.Bytes.{pairs-none, pairs-more, pairs_end}
use borrow.Author.Rules.{rules}
use Rattle.frames.proofs.byte_pairs.Goals as goal

pub loop-b-init : goal.loop-b-init
loop-b-init c = (search rules, refl, pairs-none _ (length-replicate {A = ℕ} 512 0))

pub loop-b-preserved : goal.loop-b-preserved
loop-b-preserved c = (search rules, search rules, search pairs-more)

pub returns : goal.returns
returns c = search pairs_end
