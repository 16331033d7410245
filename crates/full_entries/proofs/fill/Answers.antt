-- `full_entries::fill` meets its contract. Assumes nothing.
use mathlib.Core.Path.{refl}
use native.Mathlib.Omega.{arith}
use Rattle.layout.specs.Layout.{limit}
use Rattle.lookups.proofs.Tally.{ahead-first, ahead-end}
use Rattle.lookups.proofs.Full.{beyond-same, beyond-then, filling-as}
use borrow.Author.Rules.{rules}
use Rattle.full_entries.proofs.fill.Goals as goal

pub loop-j-init : goal.loop-j-init
loop-j-init c = (search rules, (filling-as c.requires.filling (ahead-first _ _ _) refl refl, beyond-same _ _))

pub fill_record-requires : goal.fill_record-requires
fill_record-requires c = record { formed = search rules; j_bound = (omega arith, search rules) }

pub loop-j-preserved : goal.loop-j-preserved
loop-j-preserved c = (omega arith, (search rules, search beyond-then))

pub shape_of-out : goal.shape_of-out
shape_of-out c = c.loop-j.invariant.1.1.same

pub returns : goal.returns
returns c = record { filling_2 = filling-as c.loop-j.invariant.1.0 (ahead-end limit c.args.t.now c.args.v c.loop-j.j c.args.dir (omega arith)) refl refl; beyond = c.loop-j.invariant.1.1 }
