-- `limits::add_hyperedges` is safe and ends. Assumes nothing.
use Rattle.std.proofs.Common.{◌≡◌, ◌≤◌, length}
use Rattle.limits.proofs.add_hyperedges.Given as goal

abbrev pub invariant-loop-j : goal.invariant-loop-j
invariant-loop-j l = (l.j ≤ 192) × (length l.t ≡ length l.initial.t)
