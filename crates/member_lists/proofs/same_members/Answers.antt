-- `member_lists::same_members` meets its contract. Assumes nothing.
use mathlib.Core.Path.{◌∙◌}
use Rattle.edits.proofs.Identical.{same-pointwise}
use Rattle.member_lists.proofs.same_members.Goals as goal

pub returns : goal.returns
returns c = c.eq.ensures ∙ same-pointwise _ _
