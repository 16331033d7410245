-- `write_frames::hyperedges_length` meets its contract. Assumes nothing.
use mathlib.Core.Path.{◌≡◌}
use Prim.Native.Nat.{◌*◌, ◌≤◌}
use lib.ListN.{length}
use Rattle.layout.specs.Layout.{limit}
use Rattle.frames.specs.Frames.{hyperedge_length}
use Rattle.frames.proofs.Text.{hyperedge_lines}
use Rattle.write_frames.proofs.hyperedges_length.Given as goal

abbrev pub invariant-loop-j : goal.invariant-loop-j
invariant-loop-j l = (l.j ≤ l.m) × (l.sum ≤ l.j * hyperedge_length limit) × (l.sum ≡ length (hyperedge_lines limit l.t l.j))
