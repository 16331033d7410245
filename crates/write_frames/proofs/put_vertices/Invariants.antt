-- `write_frames::put_vertices` meets its contract. Assumes nothing.
use mathlib.Core.Path.{◌≡◌}
use Prim.Native.Nat.{◌*◌, ◌≤◌}
use lib.ListN.{length}
use Rattle.lists.specs.Lists.{tab, flat}
use Rattle.layout.specs.Layout.{vertex_at}
use Rattle.frames.specs.Frames.{vertex_line, vertex_length}
use Rattle.frames.specs.Put.{Put}
use Rattle.write_frames.proofs.put_vertices.Given as goal

abbrev pub invariant-loop-i : goal.invariant-loop-i
invariant-loop-i l = (l.i ≤ l.n) × (length l.text ≡ length l.initial.text) × Put l.at (l.i * vertex_length) (flat vertex_line (tab (vertex_at l.t) l.i)) l.initial.text l.text l.next
