-- `state_sheets::put_releases` meets its contract. Assumes nothing.
use mathlib.Core.Path.{refl}
use Rattle.wording.proofs.Writing.{left-text, left-no-text, left-length}
use Rattle.state_sheets.specs.Signed.{releases_said}
use borrow.Author.Rules.{rules}
use Rattle.state_sheets.proofs.put_releases.Goals as goal

pub loop-i-init : goal.loop-i-init
unfolding releases_said
loop-i-init c = (search rules, refl)

pub loop-i-preserved : goal.loop-i-preserved
loop-i-preserved c = (search rules, search left-text)

pub shape_of-out : goal.shape_of-out
shape_of-out c = search left-length

pub returns : goal.returns
returns c = search left-no-text
