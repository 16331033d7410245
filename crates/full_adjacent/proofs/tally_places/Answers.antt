-- `full_adjacent::tally_places` meets its contract. Assumes nothing.
use mathlib.Core.Path.{refl}
use Prim.Native.Nat.{◌-◌}
use native.Mathlib.Omega.{arith}
use Rattle.layout.specs.Layout.{limit, read}
use Rattle.lookups.specs.Lookups.{connecting}
use Rattle.lookups.proofs.Tally.{no_counts, tallied-none, tallied-as, ahead-first, ahead-end}
use borrow.Author.Rules.{rules}
use Rattle.full_adjacent.proofs.tally_places.Goals as goal

pub loop-j-init : goal.loop-j-init
unfolding no_counts
loop-j-init c = (search rules, tallied-as (tallied-none limit c.args.t.now (connecting c.args.dir (read limit c.args.t.now) c.args.v) c.requires) (ahead-first _ _ _) refl)

pub tally_record-requires : goal.tally_record-requires
tally_record-requires c = record { formed = search rules; j_bound = (omega arith, c.loop-j.invariant.1) }

pub loop-j-preserved : goal.loop-j-preserved
loop-j-preserved c = (omega arith, c.tally_record.ensures)

pub returns : goal.returns
returns c = tallied-as c.loop-j.invariant.1 (ahead-end limit c.args.t.now c.args.v c.loop-j.j c.args.dir (omega arith)) refl
