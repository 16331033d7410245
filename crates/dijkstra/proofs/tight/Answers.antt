-- `dijkstra::tight` meets its contract. Assumes nothing.
use native.Mathlib.Omega.{arith}
use Rattle.distance.proofs.Descent.{tight-no-step, tight-no-mark, tight-key}
use Rattle.dijkstra.proofs.tight.Goals as goal

pub returns-then-h-eq0 : goal.returns-then-h-eq0
returns-then-h-eq0 c = search tight-no-step

pub returns-then-m-v-ne2 : goal.returns-then-m-v-ne2
returns-then-m-v-ne2 c = search tight-no-mark

pub by-key-requires : goal.by-key-requires
by-key-requires c = omega (arith, c.requires.2 c.if-m-v-ne2.false)

pub returns : goal.returns
returns c = search tight-key
