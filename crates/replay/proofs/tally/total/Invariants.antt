-- `replay::tally::total` meets its contract. Assumes nothing.
use Rattle.std.proofs.Common.{◌≡◌, ◌≤◌}
use Rattle.replay.specs.Judging.{total_count}
use Rattle.replay.proofs.tally.total.Given as goal

abbrev pub invariant-loop-k : goal.invariant-loop-k
invariant-loop-k l = (l.k ≤ l.n) × (l.sum ≡ total_count l.counts l.k)
