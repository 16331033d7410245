-- `choices::choices` meets its contract. Assumes nothing.
use Rattle.distance.proofs.Lists.{listed-none}
use Rattle.paths.proofs.Choosing.{choosing-none, chosen-end}
use borrow.Author.Rules.{rules}
use Rattle.choices.proofs.choices.Goals as goal

pub loop-j-init : goal.loop-j-init
loop-j-init c = (search rules, choosing-none c.args.back c.args.t.now, search listed-none)

pub choose_record-requires : goal.choose_record-requires
choose_record-requires c = record { formed = search rules; j_bound = (search rules, search rules, search rules, search rules) }

pub loop-j-preserved : goal.loop-j-preserved
loop-j-preserved c = (search rules, search rules, search rules)

pub returns : goal.returns
returns c = (search chosen-end, search rules)
