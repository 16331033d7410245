-- `replay_judge::sum_of_bytes` meets its contract. Assumes nothing.
use Rattle.std.proofs.Common.{◌≡◌, ◌≤◌}
use Rattle.replay.specs.Judging.{sum_of}
use Rattle.replay_judge.proofs.sum_of_bytes.Given as goal

abbrev pub invariant-loop-k : goal.invariant-loop-k
invariant-loop-k l = (l.k ≤ l.n) × (l.sum ≡ sum_of l.s l.k)
