-- `distance::blocks::lesser` meets its contract. Assumes nothing.
use mathlib.Core.Path.{refl}
use mathlib.Core.Logic.{inl, inr}
use native.Mathlib.Omega.{arith}
use Rattle.distance.proofs.blocks.lesser.Goals as goal

pub returns-then-b-a : goal.returns-then-b-a
returns-then-b-a c = (omega arith, omega arith, inr refl)

pub returns : goal.returns
returns c = (omega arith, omega arith, inl refl)
