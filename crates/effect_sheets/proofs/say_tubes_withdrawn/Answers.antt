-- `effect_sheets::say_tubes_withdrawn` meets its contract. Assumes nothing.
use Rattle.effect_sheets.proofs.Parts.{no-numbers}
use Rattle.effect_sheets.proofs.Sheets.{tubes-put}
use Rattle.effect_sheets.proofs.say_tubes_withdrawn.Goals as goal

pub returns-then-plain : goal.returns-then-plain
returns-then-plain c = search no-numbers

pub returns : goal.returns
returns c = search tubes-put
