-- `effect_sheets::put_relisted` meets its contract. Assumes nothing.
use Rattle.effect_sheets.proofs.Effects.{as_before, list_put}
use Rattle.effect_sheets.proofs.put_relisted.Goals as goal

pub returns-then-same_members : goal.returns-then-same_members
returns-then-same_members c = search as_before

pub returns : goal.returns
returns c = search list_put
