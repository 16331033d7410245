-- `entry_sheets::say_relist` meets its contract. Assumes nothing.
use Rattle.effect_sheets.proofs.Parts.{no-numbers}
use Rattle.entry_sheets.proofs.Entries.{relist-put}
use Rattle.entry_sheets.proofs.say_relist.Goals as goal

pub returns-then-plain : goal.returns-then-plain
returns-then-plain c = search no-numbers

pub returns : goal.returns
returns c = search relist-put
