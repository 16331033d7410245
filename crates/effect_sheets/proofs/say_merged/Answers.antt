-- `effect_sheets::say_merged` meets its contract. Assumes nothing.
use Rattle.effect_sheets.proofs.Parts.{no-numbers}
use Rattle.effect_sheets.proofs.Sheets.{merged-put}
use Rattle.effect_sheets.proofs.say_merged.Goals as goal

pub returns-then-plain : goal.returns-then-plain
returns-then-plain c = search no-numbers

pub returns : goal.returns
returns c = search merged-put
