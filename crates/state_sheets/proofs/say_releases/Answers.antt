-- `state_sheets::say_releases` meets its contract. Assumes nothing.
use Rattle.effect_sheets.proofs.Parts.{no-numbers, in_words}
use Rattle.state_sheets.proofs.say_releases.Goals as goal

pub returns-then-plain : goal.returns-then-plain
returns-then-plain c = search no-numbers

pub returns : goal.returns
returns c = search in_words
