-- `desk_states::follow` meets its contract. Assumes nothing.
use Prim.Native.Nat.{◌≤◌}
use Rattle.desk_states.specs.Following.{Moving}
use Rattle.desk_states.proofs.follow.Given as goal

abbrev pub invariant-loop-i : goal.invariant-loop-i
invariant-loop-i l = (l.i ≤ l.n) × Moving l.numbers l.n l.t l.initial.s l.i l.k l.s
