-- `sealed::stands_at` meets its contract. Assumes nothing.
use mathlib.Core.Path.{◌∙◌}
use Rattle.reader.proofs.Digits.{compared-at}
use Rattle.sealed.proofs.stands_at.Goals as goal

pub returns : goal.returns
returns c = c.eq.ensures ∙ compared-at _ _ _
