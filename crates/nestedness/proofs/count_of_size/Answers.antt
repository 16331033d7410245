-- `nestedness::count_of_size` meets its contract. Assumes nothing.
use mathlib.Core.Path.{refl}
use Prim.Native.Nat.{◌≤◌}
use native.Mathlib.Omega.{arith}
use Rattle.lists.proofs.Count.{count-end}
use Rattle.properties.proofs.Rows.{bit-most, size-more}
use borrow.Author.Rules.{rules}
use Rattle.nestedness.proofs.count_of_size.Goals as goal

pub loop-j-init : goal.loop-j-init
loop-j-init c = (search rules, search rules, refl)

pub overflow_add-c : goal.overflow_add-c
overflow_add-c c = let one : c.of_size-c.result ≤ 1 = search bit-most in omega (arith, one)

pub loop-j-preserved : goal.loop-j-preserved
loop-j-preserved c = let one : c.of_size-c.result ≤ 1 = search bit-most in (omega arith, omega (arith, one), search size-more)

pub returns : goal.returns
returns c = search count-end
