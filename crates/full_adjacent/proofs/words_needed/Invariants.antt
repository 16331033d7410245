-- `full_adjacent::words_needed` meets its contract. Assumes nothing.
use mathlib.Core.Path.{◌≡◌}
use Prim.Native.Nat.{◌≤◌}
use Rattle.lookups.specs.State.{start}
use Rattle.full_adjacent.proofs.words_needed.Given as goal

abbrev pub invariant-loop-k : goal.invariant-loop-k
invariant-loop-k l = (l.k ≤ l.n) × (l.c ≡ start l.counts l.k)
