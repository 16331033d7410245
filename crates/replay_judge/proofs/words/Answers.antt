-- `replay_judge::words` meets its contract. Assumes nothing.
use Rattle.std.proofs.Common.{rules}
use Rattle.replay.proofs.Bytes.{after_none, after_more}
use Rattle.replay.proofs.Judging.{same_none, differs-here, same_here, same-all}
use Rattle.replay_judge.proofs.words.Goals as goal
use Rattle.replay_judge.proofs.words.Goals.{then-w-word_of, else-w-word_of}

pub loop-k-init : goal.loop-k-init
loop-k-init c = (search rules, search after_none, search same_none)

pub loop-k-preserved : goal.loop-k-preserved
loop-k-preserved c =
    (search rules, search after_more, elim c.if-w-word_of.branch [ then-w-word_of w ↦ search differs-here | else-w-word_of w ↦ search same_here ])

pub returns : goal.returns
returns c = search same-all
