-- `tray_marks::refused_at` meets its contract. Assumes nothing.
use Rattle.tray_marks.specs.Marking.{refused_at}
use borrow.Author.Rules.{rules}
use Rattle.tray_marks.proofs.refused_at.Goals as goal

pub returns : goal.returns
unfolding refused_at
returns c = search rules
