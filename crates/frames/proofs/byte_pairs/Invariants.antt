-- `frames::byte_pairs` meets its contract. Assumes nothing.
use mathlib.Core.Path.{◌≡◌}
use Prim.Native.Nat.{◌≤◌}
use Rattle.frames.specs.Frames.{byte_values}
use Rattle.frames.specs.Pairs.{Pairs}
use Rattle.frames.proofs.Bytes.{table}
use Rattle.frames.proofs.byte_pairs.Given as goal

abbrev pub invariant-loop-b : goal.invariant-loop-b
invariant-loop-b l = (l.b ≤ byte_values) × (l.digits ≡ table) × Pairs l.b l.pairs
