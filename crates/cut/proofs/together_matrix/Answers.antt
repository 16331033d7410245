-- `cut::together_matrix` meets its contract. Assumes nothing.
use Rattle.cut.proofs.Gathering.{gathered_none, gathered-all}
use borrow.Author.Rules.{rules}
use Rattle.cut.proofs.together_matrix.Goals as goal

pub gather-requires : goal.gather-requires
gather-requires c = record { formed = search rules; gathered = gathered_none c.args.t.now }

pub returns : goal.returns
returns c = search gathered-all
