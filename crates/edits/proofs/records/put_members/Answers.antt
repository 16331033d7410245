-- `edits::records::put_members` meets its contract. Assumes nothing.
use mathlib.Core.Path.{◌∙◌}
use native.Mathlib.Omega.{arith}
use lib.ListN.{length-set}
use Rattle.edits.proofs.Stored.{members-stored}
use Rattle.edits.proofs.records.put_members.Goals as goal

pub store-requires : goal.store-requires
store-requires c = simp length-set (omega arith)

pub store_zeros-requires : goal.store_zeros-requires
store_zeros-requires c = omega (arith, simp length-set at c.store.auto.t)

pub shape_of-t : goal.shape_of-t
shape_of-t c = simp length-set at (c.store_zeros.auto.t ∙ c.store.auto.t)

pub returns : goal.returns
returns c = search members-stored
