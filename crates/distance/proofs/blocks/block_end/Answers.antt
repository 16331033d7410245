-- `distance::blocks::block_end` meets its contract. Assumes nothing.
use mathlib.Core.Path.{refl}
use mathlib.Core.Logic.{inl, inr}
use borrow.Author.Rules.{rules}
use Rattle.distance.proofs.blocks.block_end.Goals as goal

pub returns-then-n-j : goal.returns-then-n-j
returns-then-n-j c = (search rules, search rules, search rules, inl refl)

pub returns : goal.returns
returns c = (search rules, search rules, search rules, inr refl)
