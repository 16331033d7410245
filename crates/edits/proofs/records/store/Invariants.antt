-- `edits::records::store` meets its contract: `Stored` at each word. Assumes nothing.
use Prim.Native.Nat.{◌+◌, ◌≤◌}
use lib.ListN.{length}
use Rattle.edits.proofs.Stored.{Stored}
use Rattle.edits.proofs.records.store.Given as goal

abbrev pub invariant-loop-i : goal.invariant-loop-i
invariant-loop-i l = (l.i ≤ length l.list) × (l.a + length l.list ≤ length l.initial.t) × Stored l.a l.list l.initial.t l.i l.t
