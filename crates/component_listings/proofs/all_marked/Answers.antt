-- `component_listings::all_marked` meets its contract. Assumes nothing.
use native.Mathlib.Omega.{arith}
use Rattle.structural.proofs.ComponentsAnswers.{marked-none, marked-no, marked-on, marked-end}
use Rattle.component_listings.proofs.all_marked.Goals as goal

pub loop-v-init : goal.loop-v-init
loop-v-init c = (omega arith, marked-none c.args.marks.now)

pub bounds-marks-v : goal.bounds-marks-v
bounds-marks-v c = omega arith

pub returns-then-marks-v-ne1 : goal.returns-then-marks-v-ne1
returns-then-marks-v-ne1 c = search marked-no

pub loop-v-preserved : goal.loop-v-preserved
loop-v-preserved c = (omega arith, search marked-on)

pub returns : goal.returns
returns c = search marked-end
