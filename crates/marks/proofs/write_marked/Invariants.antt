-- `marks::write_marked` meets its contract: `Written` at each record. Assumes nothing.
use Prim.Native.Nat.{◌≤◌, ◌-◌}
use Rattle.layout.specs.Content.{live_vertices}
use Rattle.layout.specs.Layout.{limit, read}
use Rattle.lists.specs.Lists.{word_at}
use Rattle.marks.specs.Marks.{is_marked}
use Rattle.marks.proofs.Marked.{Written}
use Rattle.marks.proofs.write_marked.Given as goal

abbrev pub invariant-loop-k : goal.invariant-loop-k
invariant-loop-k l = (l.k ≤ l.n) × Written (is_marked l.marks) (word_at (live_vertices (read limit l.t))) l.initial.out l.k l.c l.out

abbrev pub decreases-loop-k : goal.decreases-loop-k
decreases-loop-k l = l.n - l.k
