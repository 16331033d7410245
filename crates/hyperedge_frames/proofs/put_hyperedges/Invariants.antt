-- `hyperedge_frames::put_hyperedges` meets its contract. Assumes nothing.
use mathlib.Core.Path.{◌≡◌}
use Prim.Native.Nat.{◌≤◌}
use lib.ListN.{length}
use Rattle.layout.specs.Layout.{limit}
use Rattle.frames.specs.Put.{Put}
use Rattle.frames.proofs.Text.{hyperedge_lines}
use Rattle.hyperedge_frames.proofs.put_hyperedges.Given as goal

abbrev pub invariant-loop-j : goal.invariant-loop-j
invariant-loop-j l = (l.j ≤ l.m) × (length l.text ≡ length l.initial.text) × Put l.at (length (hyperedge_lines limit l.t l.j)) (hyperedge_lines limit l.t l.j) l.initial.text l.text l.next
