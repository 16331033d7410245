-- `replay_judge::mix` meets its contract. Assumes nothing.
use Rattle.std.proofs.Common.{refl}
use Rattle.walk.specs.Walk.{xorshift}
use Rattle.replay.specs.Judging.{mixed}
use Rattle.replay_judge.proofs.mix.Goals as goal

pub returns : goal.returns
unfolding mixed xorshift
returns c = refl
