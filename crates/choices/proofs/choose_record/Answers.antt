-- `choices::choose_record` meets its contract: `Passing` at each place of the list. Assumes nothing.
use Rattle.steps.proofs.Members.{members-some, members-live, place-below, next-below, next-end}
use Rattle.paths.proofs.Choosing.{passing-first, passing-more, passing-end}
use borrow.Author.Rules.{rules}
use Rattle.choices.proofs.choose_record.Goals as goal

pub bounds-ms-0 : goal.bounds-ms-0
bounds-ms-0 c = search members-some

pub place-a-requires : goal.place-a-requires
place-a-requires c = record { formed = search rules; x_value = search (members-live, members-some) }

pub loop-i-init : goal.loop-i-init
loop-i-init c = (search (passing-first, members-some), search rules)

pub overflow_sub-i-end : goal.overflow_sub-i-end
overflow_sub-i-end c = search members-some

pub place-b-requires : goal.place-b-requires
place-b-requires c = record { formed = search rules; x_value = search (members-live, next-below) }

pub choose_step-requires : goal.choose_step-requires
choose_step-requires c = (search place-below, search place-below, search rules, search rules, search rules)

pub loop-i-preserved : goal.loop-i-preserved
loop-i-preserved c = (search (passing-more, next-below), search rules)

pub returns : goal.returns
returns c = (search (passing-end, next-end), search rules)
