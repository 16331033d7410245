-- `effect_sheets::put_effects` meets its contract. Assumes nothing.
use Rattle.wording.proofs.Writing.{left-length}
use Rattle.effect_sheets.proofs.Effects.{effects-first, effects-more, effects-end}
use borrow.Author.Rules.{rules}
use Rattle.effect_sheets.proofs.put_effects.Goals as goal

pub loop-j-init : goal.loop-j-init
loop-j-init c = (search rules, search effects-first)

pub put_effect-next-requires : goal.put_effect-next-requires
put_effect-next-requires c = record { formed = search rules; formed_2 = search rules; j_bound = search rules }

pub loop-j-preserved : goal.loop-j-preserved
loop-j-preserved c = (search rules, search effects-more)

pub shape_of-out : goal.shape_of-out
shape_of-out c = search left-length

pub returns : goal.returns
returns c = search effects-end
