-- `desk_states::note_numbers` meets its contract. Assumes nothing.
use mathlib.Core.Path.{◌≡◌}
use Prim.Native.Nat.{◌≤◌}
use lib.ListN.{length, take}
use Rattle.layout.specs.Layout.{vertex_limit, vertex_size, vertices_at}
use Rattle.layout.specs.Inner.{column}
use Rattle.desk_states.proofs.note_numbers.Given as goal

abbrev pub invariant-loop-i : goal.invariant-loop-i
invariant-loop-i l = (l.i ≤ l.n) × (length l.numbers ≡ vertex_limit) × (take l.i l.numbers ≡ column l.t vertices_at vertex_size l.i)
