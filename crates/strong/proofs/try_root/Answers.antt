-- `strong::try_root` meets its contract. Assumes nothing.
use Rattle.graph.specs.Reach.{matrix}
use Rattle.components.proofs.Parts.{tried-old, tried-new}
use Rattle.strong.proofs.Inside.{class-shared}
use Rattle.strong.proofs.try_root.Goals as goal

pub returns-then-ids-r-ne0 : goal.returns-then-ids-r-ne0
returns-then-ids-r-ne0 c = tried-old c.requires.3 c.if-ids-r-ne0.true

pub returns : goal.returns
returns c =
    tried-new c.reach_within-2.new.marks
    (class-shared (matrix c.args.adj.now) (matrix c.args.back.now) c.args.n c.requires.4 c.args.ids.now c.requires.5 c.args.r c.requires.1 c.if-ids-r-ne0.false
    c.free_records.new.free c.reach_within.new.marks c.reach_within-2.new.marks c.free_records.ensures c.reach_within.ensures c.reach_within-2.ensures)
    c.if-ids-r-ne0.false c.join.ensures
