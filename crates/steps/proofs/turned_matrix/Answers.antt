-- `steps::turned_matrix` meets its contract. Assumes nothing.
use borrow.Author.Rules.{rules}
use Rattle.steps.proofs.Drawing.{drawn-none, drawn-turned}
use Rattle.steps.proofs.turned_matrix.Goals as goal

pub draw-requires : goal.draw-requires
draw-requires c = record { formed = search rules; drawn = drawn-none c.args.t.now _ _ }

pub returns : goal.returns
returns c = search drawn-turned
