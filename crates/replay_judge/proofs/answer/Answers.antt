-- `replay_judge::answer` meets its contract. Assumes nothing.
use Rattle.replay.proofs.Judging.{answer-judged}
use Rattle.replay_judge.proofs.answer.Goals as goal

pub returns : goal.returns
returns c = search answer-judged
