-- `desk_numbers::release_in_turn` meets its contract. Assumes nothing.
use mathlib.Core.Path.{◌≡◌}
use Prim.Native.Nat.{◌≤◌}
use lib.ListN.{length, drop}
use Rattle.layout.specs.Layout.{limit, vertex_limit, read}
use Rattle.desk_numbers.specs.Numbers.{in_turn}
use Rattle.desk_numbers.proofs.release_in_turn.Given as goal

abbrev pub invariant-loop-i : goal.invariant-loop-i
invariant-loop-i l = (l.i ≤ length l.numbers) × (length l.s ≡ vertex_limit) × (in_turn (drop l.i l.numbers) l.s (read limit l.t) ≡ in_turn l.numbers l.initial.s (read limit l.t))
