-- `effect_sheets::put_withdrawn` meets its contract. Assumes nothing.
use Rattle.effect_sheets.proofs.Sheets.{withdrawn-put}
use Rattle.effect_sheets.proofs.put_withdrawn.Goals as goal

pub returns : goal.returns
returns c = search withdrawn-put
