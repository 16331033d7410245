-- `misuses::put_misuse` meets its contract. Assumes nothing.
use Rattle.misuses.specs.Misuses.{misuse_text}
use Rattle.misuses.proofs.Misuses.{as-misuse, no-misuse}
use Rattle.misuses.proofs.put_misuse.Goals as goal

pub returns-in-Unknown : goal.returns-in-Unknown
unfolding misuse_text
returns-in-Unknown c = search as-misuse

pub returns-in-TooMany : goal.returns-in-TooMany
unfolding misuse_text
returns-in-TooMany c = search as-misuse

pub returns-in-Init : goal.returns-in-Init
unfolding misuse_text
returns-in-Init c = search as-misuse

pub returns-in-NotNumber : goal.returns-in-NotNumber
unfolding misuse_text
returns-in-NotNumber c = search as-misuse

pub returns-in-WrongCount : goal.returns-in-WrongCount
unfolding misuse_text
returns-in-WrongCount c = search as-misuse

pub returns-in_default : goal.returns-in_default
returns-in_default c =
    no-misuse _ _ _ _ _ _
    c.in_default.not-Init c.in_default.not-Unknown c.in_default.not-NotNumber c.in_default.not-WrongCount c.in_default.not-TooMany
