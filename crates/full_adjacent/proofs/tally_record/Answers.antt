-- `full_adjacent::tally_record` meets its contract. Assumes nothing.
use lib.ListN.{length}
use mathlib.Core.Path.{refl, ◌∙◌}
use Prim.Native.Nat.{◌-◌, ◌+◌, ◌<◌}
use native.Mathlib.Omega.{arith}
use Rattle.layout.specs.Layout.{limit}
use Rattle.layout.proofs.Read.{live-length, live-ascends}
use Rattle.lookups.specs.State.{listing_most}
use Rattle.lookups.proofs.Shared.{live-fit}
use Rattle.lookups.proofs.Tally.{passing-first, passing-yes, passing-no, passing-end, connecting-most, tallied-as, tallied-one, tallied-most}
use borrow.Author.Rules.{rules}
use Rattle.full_adjacent.proofs.tally_record.Goals as goal
use Rattle.full_adjacent.proofs.tally_record.Goals.{then-ends-v, else-ends-v}

pub loop-i-init : goal.loop-i-init
loop-i-init c = (search rules, tallied-as c.requires.j_bound.1 (passing-first limit c.args.t.now _ _ c.args.dir _ _ c.requires.j_bound.0 c.members_formed-ms.ensures refl) refl)

pub tally-requires : goal.tally-requires
tally-requires c = record { formed = search rules; by_index = λ k h. tallied-most c.loop-i.invariant.1 listing_most (λ y. connecting-most c.args.t.now c.args.dir c.args.v y c.requires.formed) k (omega (arith, live-length limit c.args.t.now)) }

pub loop-i-preserved : goal.loop-i-preserved
loop-i-preserved c =
    let h : c.loop-i.i + 1 < length c.members_formed-ms.result.now = omega arith in let e = c.ends_at-ends.ensures in let f = c.requires.formed in (
      omega arith,
      elim c.if-ends-v.branch [
        | then-ends-v w ↦ tallied-one c.loop-i.invariant.1 _ _ (live-ascends limit c.args.t.now f) (live-fit limit c.args.t.now f)
            (passing-yes c.args.dir _ _ _ _ _ _ h e w.if-ends-v.true) (w.counts-is ∙ w.tally.ensures)
        | else-ends-v w ↦ tallied-as c.loop-i.invariant.1 (passing-no c.args.dir _ _ _ _ _ _ h e w.if-ends-v.false) w.counts-is
      ],
    )

pub returns : goal.returns
returns c = tallied-as c.loop-i.invariant.1 (passing-end _ _ _ c.members_formed-ms.result.now c.loop-i.i _ (omega arith)) refl
