-- `closure::is_pair` meets its contract. Assumes nothing.
use Rattle.graph.specs.Reach.{matrix}
use Rattle.closure.proofs.Pairs.{apart-same, apart_other}
use Rattle.closure.proofs.is_pair.Goals as goal

pub returns-then-x-y : goal.returns-then-x-y
returns-then-x-y c = search apart-same

pub returns : goal.returns
returns c =
    apart_other (matrix c.args.m.now) c.args.x c.args.y c.if-x-y.false
