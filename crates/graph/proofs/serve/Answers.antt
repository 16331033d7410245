-- `graph::serve` meets its contract. The invariant: to serve what is left of the queue gives the whole listing. Assumes nothing.
use Rattle.graph.proofs.Bfs.{run_step, run_end, spread-longer}
use Rattle.graph.proofs.Held.{held-as, held_first, held_at, held-short, queued-as}
use Rattle.graph.specs.Bfs.{spread, run, bfs}
use Rattle.graph.specs.Held.{Queued}
use Rattle.graph.specs.Reach.{matrix}
use mathlib.Core.Path.{◌≡◌, sym, ap, ◌∙◌}
use mathlib.Core.Bool.{Bool}
use mathlib.Core.List.{List}
use Prim.Native.Nat.{ℕ, ◌-◌, ◌≤◌, ◌<◌, ◌+◌}
use native.Mathlib.Nat.{sub-zero}
use native.Mathlib.Omega.{arith}
use lib.ListN.{take, get_or, length-replicate}
use lib.Seq.{get_or-take}
use Rattle.graph.proofs.serve.Goals as goal

-- one number is served
turn : (E : ℕ → ℕ → Bool) (s : ℕ) {n : ℕ} {m o r m' o' r' : List ℕ} {t t' k : ℕ} → Queued n m o r t (take t o) → k < t → run E n (n - k) k (take t o) ≡ bfs E n s
    → Queued n m' o' r' t' (spread E (get_or o k 0) n 0 (take t o))
    → (k + 1 ≤ t') × (t' ≤ n) × Queued n m' o' r' t' (take t' o') × (run E n (n - (k + 1)) (k + 1) (take t' o') ≡ bfs E n s)
turn E s {n} {m} {o} {r} {m'} {o'} {r'} {t} {t'} {k} h l e g =
    let q : List ℕ = take t o in
    let x : get_or q k 0 ≡ get_or o k 0 = get_or-take t o k 0 l in (
      omega (arith, g.held.count, h.held.count, spread-longer E n (get_or o k 0) q),
      held-short g.held,
      queued-as g g.held.queue,
      ap (run E n (n - (k + 1)) (k + 1)) (g.held.queue ∙ ap (λ (y : ℕ). spread E y n 0 q) (sym x))
          ∙ sym (run_step E n k q (omega (arith, h.held.count)) (omega (arith, h.held.count, held-short h.held))) ∙ e,
    )

pub put_others-requires : goal.put_others-requires
put_others-requires c = (omega arith, omega arith, length-replicate {A = ℕ} 256 0)

pub bounds-marks-start : goal.bounds-marks-start
bounds-marks-start c = omega arith

pub overflow_cast-order : goal.overflow_cast-order
overflow_cast-order c = omega arith

pub bounds-order-0 : goal.bounds-order-0
bounds-order-0 c = omega arith

pub loop-head-init : goal.loop-head-init
unfolding bfs
loop-head-init c =
    let h = held_first c.requires.2 c.requires.1 c.requires.0 in
    (omega arith, held-short h, queued-as record { held = h; rest = c.put_others.ensures } h.queue, ap (run _ _ _ _) h.queue ∙ rw sub-zero)

pub offset_bounds-order-head : goal.offset_bounds-order-head
offset_bounds-order-head c = omega arith

pub bounds-order-head : goal.bounds-order-head
bounds-order-head c = omega arith

pub overflow_cast-x : goal.overflow_cast-x
overflow_cast-x c = omega (arith, held_at c.loop-head.invariant.2.held c.loop-head.head c.loop-head-test.true)

pub expand-tail-requires : goal.expand-tail-requires
expand-tail-requires c =
    (omega arith, held_at c.loop-head.invariant.2.held c.loop-head.head c.loop-head-test.true, c.loop-head.invariant.2)

pub overflow_add-head : goal.overflow_add-head
overflow_add-head c = omega arith

pub loop-head-smaller : goal.loop-head-smaller
loop-head-smaller c = omega arith

pub loop-head-preserved : goal.loop-head-preserved
loop-head-preserved c =
    turn (matrix c.args.adj.now) c.args.start c.loop-head.invariant.2 c.loop-head-test.true c.loop-head.invariant.3 c.expand-tail.ensures

pub returns : goal.returns
returns c =
    let v = c.loop-head.invariant in
    held-as v.2.held (sym v.3 ∙ run_end _ _ _ _ _ (omega (arith, v.2.held.count)))
