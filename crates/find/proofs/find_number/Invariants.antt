-- `find::find_number` meets its contract: what lies outside lo and hi is settled. Assumes nothing.
use Prim.Native.Nat.{ℕ, ◌-◌, ◌+◌, ◌*◌}
use lib.ListN.{get_or}
use Rattle.layout.proofs.Bracket.{Bracket}
use Rattle.find.proofs.find_number.Given as goal

abbrev pub invariant-loop-lo : goal.invariant-loop-lo
invariant-loop-lo l = Bracket (λ (i : ℕ). get_or l.t (l.base + i * l.step) 0) l.n l.x l.lo l.hi

abbrev pub decreases-loop-lo : goal.decreases-loop-lo
decreases-loop-lo l = l.hi - l.lo
