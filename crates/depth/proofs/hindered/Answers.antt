-- `depth::hindered` meets its contract. Assumes nothing.
use Rattle.depth.proofs.Dfs.{hindered-is}
use mathlib.Core.Bool.{not}
use native.Mathlib.Omega.{arith}
use lib.Dec.{eqb}
use Rattle.graph.proofs.Outside.{byte_le}
use Rattle.depth.proofs.hindered.Goals as goal

pub overflow_add-result : goal.overflow_add-result
overflow_add-result c = omega (arith, byte_le (not (eqb c.args.entry 1)))

pub returns : goal.returns
returns c = hindered-is (eqb c.args.entry 1) c.args.mark
