-- `wording::put_meant` meets its contract. Assumes nothing.
use Rattle.wording.proofs.Filled.{meant-below, meant_word, meant-wide, meant-name, meant-above}
use Rattle.wording.proofs.put_meant.Goals as goal

pub returns-then-c-lt65 : goal.returns-then-c-lt65
returns-then-c-lt65 c = search meant-below

pub returns-then-c-lt75 : goal.returns-then-c-lt75
returns-then-c-lt75 c = search meant_word

pub returns-then-c-lt85 : goal.returns-then-c-lt85
returns-then-c-lt85 c = search meant-wide

pub returns-then-c-eq85 : goal.returns-then-c-eq85
returns-then-c-eq85 c = search meant-name

pub returns : goal.returns
returns c = search meant-above
