-- `edits::records::store_zeros` meets its contract. Assumes nothing.
use Prim.Native.Nat.{ℕ}
use mathlib.Core.Path.{sym}
use lib.ListN.{length-replicate}
use borrow.Author.Rules.{rules}
use Rattle.edits.proofs.Stored.{part-stored}
use Rattle.edits.proofs.records.store_zeros.Goals as goal

pub returns : goal.returns
returns c = part-stored _ _ _ _ _ (sym (length-replicate {A = ℕ} _ 0)) (search rules)
