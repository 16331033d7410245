-- `member_sets::part_within` meets its contract. Assumes nothing.
use mathlib.Core.Path.{sym}
use Rattle.properties.proofs.SetRows.{part-more, part-all}
use borrow.Author.Rules.{rules}
use Rattle.member_sets.proofs.part_within.Goals as goal

pub loop-i-init : goal.loop-i-init
loop-i-init c = (search rules, sym c.requires.from_value)

pub loop-i-preserved : goal.loop-i-preserved
loop-i-preserved c = (search rules, search part-more)

pub returns : goal.returns
returns c = search part-all
