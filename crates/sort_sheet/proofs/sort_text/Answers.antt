-- `sort_sheet::sort_text` meets its contract. Assumes nothing.
use Prim.Native.Nat.{ℕ}
use lib.ListN.{length-replicate}
use Rattle.layout.specs.Layout.{limit, size}
use Rattle.sort_sheet.proofs.sort_text.Goals as goal

pub sort_through-requires : goal.sort_through-requires
sort_through-requires c = length-replicate {A = ℕ} (size limit) 0
