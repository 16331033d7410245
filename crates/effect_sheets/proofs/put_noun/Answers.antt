-- `effect_sheets::put_noun` meets its contract. Assumes nothing.
use Rattle.effect_sheets.proofs.Sheets.{for-one, for-several}
use Rattle.effect_sheets.proofs.put_noun.Goals as goal

pub returns-then-n-eq1 : goal.returns-then-n-eq1
returns-then-n-eq1 c = search for-one

pub returns : goal.returns
returns c = search for-several
