-- `depth::start_at` meets its contract. Assumes nothing.
use Rattle.depth.proofs.Finish.{start-new, start-old}
use Rattle.depth.proofs.Went.{went-none, went-as}
use borrow.Author.Tests.{eq-eqb, ne_eqb}
use Rattle.depth.proofs.start_at.Goals as goal

pub returns-then-marks-x-ne0 : goal.returns-then-marks-x-ne0
returns-then-marks-x-ne0 c = went-none c.requires.1 (λ f. start-old _ _ _ _ _ (ne_eqb _ 0 c.if-marks-x-ne0.true))

pub returns : goal.returns
returns c = went-as c.visit.ensures (λ f. start-new _ _ _ _ _ (eq-eqb _ 0 c.if-marks-x-ne0.false))
