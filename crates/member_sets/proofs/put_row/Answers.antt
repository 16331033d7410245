-- `member_sets::put_row` meets its contract. Assumes nothing.
use native.Mathlib.Omega.{arith}
use Rattle.properties.proofs.SetRows.{putting-none, putting-more, putting-end}
use borrow.Author.Rules.{rules}
use Rattle.member_sets.proofs.put_row.Goals as goal

pub loop-i-init : goal.loop-i-init
loop-i-init c = (search rules, putting-none _ _ _)

pub bounds-m-j : goal.bounds-m-j
bounds-m-j c = omega (arith, c.loop-i.invariant.1.sized)

pub loop-i-preserved : goal.loop-i-preserved
loop-i-preserved c = (search rules, search putting-more)

pub returns : goal.returns
returns c = search putting-end
