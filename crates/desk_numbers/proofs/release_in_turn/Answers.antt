-- `desk_numbers::release_in_turn` meets its contract. Assumes nothing.
use mathlib.Core.Path.{refl}
use Rattle.desk_numbers.proofs.Turns.{turn-refused, turn_more, turns-done}
use borrow.Author.Rules.{rules}
use Rattle.desk_numbers.proofs.release_in_turn.Goals as goal

pub loop-i-init : goal.loop-i-init
loop-i-init c = (search rules, search rules, refl)

pub returns-in_err-release_formed : goal.returns-in_err-release_formed
returns-in_err-release_formed c = search (turn-refused, c.in_err-release_formed.was)

pub loop-i-preserved : goal.loop-i-preserved
loop-i-preserved c = (search rules, search rules, search (turn_more, c.in_ok-release_formed.was))

pub returns : goal.returns
returns c = search turns-done
