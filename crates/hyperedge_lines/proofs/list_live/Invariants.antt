-- `hyperedge_lines::list_live` meets its contract. Assumes nothing.
use mathlib.Core.Path.{◌≡◌}
use Prim.Native.Nat.{◌≤◌}
use lib.ListN.{length, drop}
use Rattle.lists.specs.Lists.{all}
use Rattle.layout.specs.Content.{is_live}
use Rattle.layout.specs.Inner.{vertex_column}
use Rattle.hyperedge_lines.proofs.list_live.Given as goal

abbrev pub invariant-loop-i : goal.invariant-loop-i
invariant-loop-i l = (l.i ≤ length l.list) × (all (is_live (vertex_column l.words)) (drop l.i l.list) ≡ all (is_live (vertex_column l.words)) l.list)
