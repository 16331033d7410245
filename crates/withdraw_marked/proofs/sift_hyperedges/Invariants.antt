-- `withdraw_marked::sift_hyperedges` meets its contract. Assumes nothing.
use Prim.Native.Nat.{◌≤◌}
use Rattle.withdraw_marked.specs.Sifting.{HyperedgesSifted}
use Rattle.withdraw_marked.proofs.sift_hyperedges.Given as goal

abbrev pub invariant-loop-j : goal.invariant-loop-j
invariant-loop-j l = (l.j ≤ l.m) × HyperedgesSifted l.vertices l.hyperedges l.old l.j l.k l.t
