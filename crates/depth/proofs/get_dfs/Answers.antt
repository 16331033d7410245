-- `depth::get_dfs` meets its contract. Assumes nothing.
use Rattle.depth.proofs.Went.{fit-blank, entered}
use Prim.Native.Nat.{ℕ}
use native.Mathlib.Omega.{arith}
use lib.ListN.{get_or-replicate}
use Rattle.depth.proofs.get_dfs.Goals as goal

pub enter-r-requires : goal.enter-r-requires
enter-r-requires c =
    (c.requires.1, get_or-replicate {A = ℕ} 256 c.args.start 0 0 (omega arith), fit-blank c.args.n c.requires.0)

pub returns : goal.returns
returns c = entered _ _ c.requires.0 c.enter-r.ensures
