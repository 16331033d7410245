-- `replay_judge::words` meets its contract. Assumes nothing.
use Rattle.std.proofs.Common.{◌≡◌, ◌≤◌}
use Rattle.lists.specs.Tests.{every}
use Rattle.replay.specs.Records.{after_words}
use Rattle.replay.specs.Judging.{same_word}
use Rattle.replay_judge.proofs.words.Given as goal

abbrev pub invariant-loop-k : goal.invariant-loop-k
invariant-loop-k l =
    (l.k ≤ l.n) × (l.here ≡ after_words l.s l.at l.k) × (l.same ≡ every (same_word l.s l.at l.out) l.k)
