-- `components::try_root` meets its contract. Assumes nothing.
use Rattle.graph.specs.Reach.{matrix}
use Rattle.components.proofs.Parts.{tried-old, tried-new, flags-reached}
use Rattle.components.proofs.try_root.Goals as goal

pub returns-then-ids-r-ne0 : goal.returns-then-ids-r-ne0
returns-then-ids-r-ne0 c = tried-old c.requires.3 c.if-ids-r-ne0.true

pub returns : goal.returns
returns c =
    let m = c.marks_from in
    tried-new m.new.marks (flags-reached (matrix c.args.adj.now) c.args.n c.args.r m.new.marks m.ensures) c.if-ids-r-ne0.false c.join.ensures
