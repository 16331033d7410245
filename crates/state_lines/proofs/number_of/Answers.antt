-- `state_lines::number_of` meets its contract. Assumes nothing.
use Prim.Native.Nat.{◌+◌, ◌<◌, ◌≤◌}
use native.Mathlib.Omega.{arith}
use lib.ListN.{length}
use Rattle.state_lines.proofs.Judging.{number-first, number-over, number_more, number-end}
use borrow.Author.Rules.{rules}
use Rattle.state_lines.proofs.number_of.Goals as goal

pub loop-i-init : goal.loop-i-init
loop-i-init c = (search rules, search rules, search number-first, search rules)

pub returns-then-v-gt-LAST : goal.returns-then-v-gt-LAST
returns-then-v-gt-LAST c = search number-over

pub loop-i-preserved : goal.loop-i-preserved
loop-i-preserved c = let h : c.loop-i.i + 1 < length c.args.line.now = omega arith in (search rules, search rules, search number_more, search rules)

pub returns : goal.returns
returns c = let h : length c.args.line.now ≤ c.loop-i.i + 1 = omega arith in search number-end
