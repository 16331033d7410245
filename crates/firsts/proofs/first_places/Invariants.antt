-- `firsts::first_places` meets its contract. Assumes nothing.
use Prim.Native.Nat.{◌≤◌}
use Rattle.walk.specs.Passes.{FirstsMarked}
use Rattle.firsts.proofs.first_places.Given as goal

abbrev pub invariant-loop-j : goal.invariant-loop-j
invariant-loop-j l = (l.j ≤ l.k) × FirstsMarked l.t l.j 0 l.firsts
