-- `full_entries::fill_record` meets its contract. Assumes nothing.
use lib.ListN.{length}
use mathlib.Core.Path.{refl, ◌∙◌}
use Prim.Native.Nat.{◌+◌, ◌<◌}
use native.Mathlib.Omega.{arith}
use Rattle.layout.specs.Layout.{limit, read}
use Rattle.layout.proofs.Read.{live-ascends}
use Rattle.lookups.specs.State.{listing_ahead}
use Rattle.lookups.proofs.Shared.{live-fit}
use Rattle.lookups.proofs.Tally.{passing, passing-first, passing-yes, passing-no, passing-end}
use Rattle.lookups.proofs.Full.{beyond-same, filling-as, filling-room, fill-yes, fill-no}
use borrow.Author.Rules.{rules}
use Rattle.full_entries.proofs.fill_record.Goals as goal
use Rattle.full_entries.proofs.fill_record.Goals.{then-ends-v, else-ends-v}

pub loop-i-init : goal.loop-i-init
loop-i-init c = (search rules, (filling-as c.requires.j_bound.1 (passing-first limit c.args.t.now _ _ c.args.dir _ _ c.requires.j_bound.0 c.members_formed-ms.ensures c.hyperedge_number-e.ensures) refl refl, beyond-same _ _))

pub put-requires : goal.put-requires
put-requires c = let f = c.requires.formed in let h : c.loop-i.i + 1 < length c.members_formed-ms.result.now = omega arith in record {
  formed = search rules;
  by_index = filling-room c.loop-i.invariant.1.0 _ c.hyperedge_number-e.result
      (passing c.args.dir c.args.v c.hyperedge_number-e.result c.members_formed-ms.result.now (c.loop-i.i + 1)
      (listing_ahead c.args.dir (read limit c.args.t.now) c.args.v (c.args.j + 1)))
      (live-ascends limit c.args.t.now f) (live-fit limit c.args.t.now f)
      (passing-yes c.args.dir _ _ _ _ _ _ h c.ends_at-ends.ensures c.if-ends-v.true);
}

pub loop-i-preserved : goal.loop-i-preserved
loop-i-preserved c =
    let h : c.loop-i.i + 1 < length c.members_formed-ms.result.now = omega arith in let e = c.ends_at-ends.ensures in let f = c.requires.formed in (
      omega arith,
      elim c.if-ends-v.branch [
        | then-ends-v w ↦ fill-yes c.loop-i.invariant.1.0 c.loop-i.invariant.1.1 _ _ (live-ascends limit c.args.t.now f) (live-fit limit c.args.t.now f)
            (passing-yes c.args.dir _ _ _ _ _ _ h e w.if-ends-v.true) (w.nexts-is ∙ w.put.ensures.nexts_after) (w.out-is ∙ w.put.ensures.out_after)
        | else-ends-v w ↦ fill-no c.loop-i.invariant.1.0 c.loop-i.invariant.1.1 (passing-no c.args.dir _ _ _ _ _ _ h e w.if-ends-v.false) w.nexts-is w.out-is
      ],
    )

pub shape_of-out : goal.shape_of-out
shape_of-out c = c.loop-i.invariant.1.1.same

pub returns : goal.returns
returns c = record {
  filling = filling-as c.loop-i.invariant.1.0 (passing-end _ _ _ c.members_formed-ms.result.now c.loop-i.i _ (omega arith)) refl refl;
  beyond = c.loop-i.invariant.1.1;
}
