-- `firsts::judge_record` meets its contract. Assumes nothing.
use Rattle.walk.specs.Passes.{FirstsMarked}
use Rattle.firsts.proofs.judge_record.Given as goal

abbrev pub invariant-loop-p : goal.invariant-loop-p
invariant-loop-p l = FirstsMarked l.t l.j l.p l.firsts
