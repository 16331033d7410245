-- `dijkstra::hop_from` meets its contract. Assumes nothing.
use Rattle.distance.specs.Cost.{step_back, key_back}
use Rattle.distance.specs.Path.{is_tight, hop}
use Rattle.order.proofs.Least.{least-found, least_step, least-end}
use native.Mathlib.Omega.{arith}
use mathlib.Core.Path.{◌≡◌, sym, ◌∙◌}
use native.Mathlib.Nat.{sub-zero}
use Rattle.dijkstra.proofs.hop_from.Goals as goal

pub loop-v-init : goal.loop-v-init
unfolding hop
loop-v-init c = (omega arith, rw sub-zero)

pub tight-requires : goal.tight-requires
tight-requires c = (omega arith, omega arith, c.requires.2 c.loop-v.v c.loop-v-test.true)

pub returns-then-tight : goal.returns-then-tight
returns-then-tight c = sym (least-found (is_tight (step_back c.args.c.now) (key_back c.args.c.now c.args.w.now) c.args.m.now c.args.d.now c.args.x) c.args.n c.loop-v.v c.loop-v-test.true (sym c.tight.ensures ∙ c.if-tight.true)) ∙ c.loop-v.invariant.1

pub loop-v-preserved : goal.loop-v-preserved
loop-v-preserved c = (omega arith, sym (least_step (is_tight (step_back c.args.c.now) (key_back c.args.c.now c.args.w.now) c.args.m.now c.args.d.now c.args.x) c.args.n c.loop-v.v c.loop-v-test.true (sym c.tight.ensures ∙ c.if-tight.false)) ∙ c.loop-v.invariant.1)

pub returns : goal.returns
returns c =
    let s : c.args.n ≡ c.loop-v.v = omega (arith, c.loop-v.invariant.0) in
    s ∙ sym (least-end (is_tight (step_back c.args.c.now) (key_back c.args.c.now c.args.w.now) c.args.m.now c.args.d.now c.args.x)
    c.args.n c.loop-v.v c.loop-v-test.false) ∙ c.loop-v.invariant.1
