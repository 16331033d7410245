-- `find::find_number` meets its contract: what lies outside lo and hi is settled. Assumes nothing.
use Prim.Native.Nat.{ℕ, ◌≤◌, ◌<◌, ◌-◌, ◌+◌, ◌*◌, ◌/◌}
use Rattle.lists.proofs.Stride.{stride}
use Rattle.layout.proofs.Bracket.{bracket-start, bracket-up, bracket-down, bracket-found, bracket-none}
use native.Mathlib.Omega.{arith}
use Rattle.find.proofs.find_number.Goals as goal

mid : ℕ → ℕ → ℕ
mid lo hi = lo + (hi - lo) / 2

in-range : (base lo hi n step size : ℕ) → lo < hi → hi ≤ n → base + n * step ≤ size → base + mid lo hi * step + step ≤ size
unfolding mid
in-range base lo hi n step size l h r = stride _ _ _ _ (omega arith) r

pub loop-lo-init : goal.loop-lo-init
loop-lo-init c = bracket-start

pub overflow_mul-y : goal.overflow_mul-y
unfolding mid
overflow_mul-y c = omega (arith, in-range _ _ _ _ _ _ c.loop-lo-test.true (omega arith) c.requires.step_in_bounds)

pub overflow_add-y : goal.overflow_add-y
unfolding mid
overflow_add-y c = omega (arith, in-range _ _ _ _ _ _ c.loop-lo-test.true (omega arith) c.requires.step_in_bounds)

pub offset_bounds-t-base : goal.offset_bounds-t-base
unfolding mid
offset_bounds-t-base c = omega (arith, in-range _ _ _ _ _ _ c.loop-lo-test.true (omega arith) c.requires.step_in_bounds)

pub bounds-t-base : goal.bounds-t-base
unfolding mid
bounds-t-base c = omega (arith, in-range _ _ _ _ _ _ c.loop-lo-test.true (omega arith) c.requires.step_in_bounds)

pub returns-then-y-x : goal.returns-then-y-x
returns-then-y-x c = bracket-found _ _ c.requires.ascending _ _ (omega arith) c.if-y-x.true

pub loop-lo-preserved-then-y-x-2 : goal.loop-lo-preserved-then-y-x-2
loop-lo-preserved-then-y-x-2 c = bracket-up _ _ c.requires.ascending _ c.loop-lo.invariant (omega arith) (omega arith) c.if-y-x-2.true

pub loop-lo-preserved : goal.loop-lo-preserved
loop-lo-preserved c = bracket-down _ _ c.requires.ascending _ c.loop-lo.invariant (omega arith) (omega arith) (omega (arith, c.if-y-x.false))

pub returns : goal.returns
returns c = bracket-none _ _ _ _ _ c.loop-lo.invariant c.loop-lo-test.false
