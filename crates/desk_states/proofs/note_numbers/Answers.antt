-- `desk_states::note_numbers` meets its contract. Assumes nothing.
use Rattle.desk_states.proofs.Turns.{noted-none, noted_more, noted-all}
use borrow.Author.Rules.{rules}
use Rattle.desk_states.proofs.note_numbers.Goals as goal

pub loop-i-init : goal.loop-i-init
loop-i-init c = (search rules, search rules, search noted-none)

pub loop-i-preserved : goal.loop-i-preserved
loop-i-preserved c = (search rules, search rules, search noted_more)

pub returns : goal.returns
returns c = search noted-all
