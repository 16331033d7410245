-- `strong::free_records` meets its contract. Assumes nothing.
use mathlib.Core.Path.{◌≡◌, refl}
use mathlib.Core.Bool.{Bool, true, false}
use native.Mathlib.Nat.{not-suc-le-zero}
use native.Mathlib.Omega.{arith}
use lib.Dec.{eqb}
use lib.ListN.{get_or, length-set}
use mir.Val.{bool_byte}
use Rattle.lists.specs.Tests.{bit}
use Rattle.lists.proofs.Store.{store-more}
use Rattle.strong.proofs.free_records.Goals as goal

-- a truth value as a byte
byte-bit : (b : Bool) → bool_byte b ≡ bit b
byte-bit true = refl
byte-bit false = refl

pub loop-v-init : goal.loop-v-init
loop-v-init c = (omega arith, c.requires.1, λ i l. absurd (not-suc-le-zero l))

pub offset_bounds-ids-v : goal.offset_bounds-ids-v
offset_bounds-ids-v c = omega arith

pub bounds-ids-v : goal.bounds-ids-v
bounds-ids-v c = omega arith

pub bounds-free-v : goal.bounds-free-v
bounds-free-v c = omega arith

pub loop-v-preserved : goal.loop-v-preserved
loop-v-preserved c =
    let b = eqb (get_or c.args.ids.now c.loop-v.v 0) 0 in (
      omega arith,
      simp length-set c.loop-v.invariant.1,
      store-more (λ i y. y ≡ bit (eqb (get_or c.args.ids.now i 0) 0)) c.loop-v.free c.loop-v.v (bool_byte b) (omega arith) c.loop-v.invariant.2 (byte-bit b),
    )

pub returns : goal.returns
returns c = λ v l. c.loop-v.invariant.2 v (omega arith)
