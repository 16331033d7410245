-- `clerk_files::page` meets its contract. Assumes nothing.
use mathlib.Core.Path.{sym}
use Prim.Native.Nat.{ℕ}
use lib.ListN.{length-replicate}
use Rattle.clerk_files.proofs.page.Goals as goal

pub returns : goal.returns
returns c = sym (length-replicate {A = ℕ} 2097152 0)
