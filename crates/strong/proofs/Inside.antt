-- A search over free numbers; and the class of a root by two such searches. Assumes nothing.
use mathlib.Core.Path.{◌≡◌, refl, sym, ap, ◌∙◌}
use mathlib.Core.Bool.{Bool, true, false}
use mathlib.Core.List.{List}
use Prim.Native.Nat.{ℕ, zero, suc, ◌+◌, ◌-◌, ◌≤◌, ◌<◌}
use native.Mathlib.Numerals.{add-one}
use native.Mathlib.Omega.{arith}
use lib.Dec.{eqb}
use lib.ListN.{get_or, take}
use borrow.Author.Tests.{eq-eqb}
use Rattle.lists.specs.Tests.{bit}
use Rattle.lists.specs.Lists.{memb}
use Rattle.lists.proofs.Cases.{on, test-ext, and_left, and_right, and_both, and-false-left, and-false-right}
use Rattle.lists.proofs.Count.{bit-one, full}
use Rattle.walks.specs.Walks.{Reach, here, step}
use Rattle.walks.proofs.Walks.{reach-trans, reach-map}
use Rattle.graph.specs.Reach.{Edge}
use Rattle.graph.specs.Bfs.{push, spread, bfs}
use Rattle.graph.specs.Held.{Held, Marks}
use Rattle.graph.proofs.Bfs.{push-old, bfs-sound, bfs-complete}
use Rattle.graph.proofs.Held.{held-as}
use Rattle.components.specs.Parts.{flagged}
use Rattle.components.proofs.Parts.{flags-reached}
use Rattle.strong.specs.Strong.{mutually_reached}
use Rattle.strong.specs.State.{inside, Turned, Opened, Unparted}
use Rattle.strong.proofs.Shared.{shared-both, shared-forth, shared_back, reach-forth, reach-back}

-- ---- the code's steps

pub held-old : {n : ℕ} {m o : List ℕ} {t : ℕ} {q : List ℕ} → Held n m o t q → {j : ℕ} → j < n → (get_or m j 0 ≡ 0 → ⊥) → memb j q ≡ true
held-old {n} {m} {o} {t} {q} h {j} l z = on (memb j q) (λ e. e) (λ e. absurd (z (h.marks j l ∙ ap bit e)))

module _ (E : ℕ → ℕ → Bool) where
  pub spread-step : (n x j : ℕ) (q : List ℕ) → j < n → spread E x (n - j) j q ≡ spread E x (n - (j + 1)) (j + 1) (push E x q j)
  unfolding spread
  spread-step n x j q l =
      let e : n - j ≡ suc (n - (j + 1)) = omega arith in
      rw (e, add-one j)

  pub spread_end : (n x j : ℕ) (q : List ℕ) → n ≤ j → spread E x (n - j) j q ≡ q
  unfolding spread
  spread_end n x j q l =
      let e : n - j ≡ 0 = omega arith in
      rw e

  -- where every number is in the queue, none joins it
  spread_none : (n x : ℕ) (q : List ℕ) → ((z : ℕ) → z < n → memb z q ≡ true) → (m j : ℕ) → j + m ≤ n → spread E x m j q ≡ q
  unfolding spread
  spread_none n x q h zero j l = refl
  spread_none n x q h (suc m) j l = rw (push-old E x q j (h j (omega arith))) (spread_none n x q h m (suc j) (omega arith))

  pub held-full : {n : ℕ} {m o : List ℕ} {t : ℕ} (x : ℕ) → Held n m o t (take t o) → t ≡ n → Held n m o t (spread E x n 0 (take t o))
  held-full {n} {m} {o} {t} x h e =
      held-as h (spread_none n x (take t o) (λ z l. full (take t o) n h.once h.below (omega (arith, h.count)) z l) n 0 (omega arith))

module _ (E : ℕ → ℕ → Bool) (p : ℕ → Bool) (x y : ℕ) where
  pub inside-no-step : E x y ≡ false → inside E p x y ≡ false
  unfolding inside
  inside-no-step e = and-false-left (E x y) (p y) e

  pub inside-shut : p y ≡ false → inside E p x y ≡ false
  unfolding inside
  inside-shut e = and-false-right (E x y) (p y) e

  pub inside-step : E x y ≡ true → p y ≡ true → inside E p x y ≡ true
  unfolding inside
  inside-step e f = and_both (E x y) (p y) e f

  inside-leads : inside E p x y ≡ true → (E x y ≡ true) × (p y ≡ true)
  unfolding inside
  inside-leads e = (and_left (E x y) (p y) e, and_right (E x y) (p y) e)

-- ---- walks inside

module _ (E : ℕ → ℕ → Bool) (p : ℕ → Bool) {n : ℕ} where
  reach-out : {s y : ℕ} → Reach (Edge (inside E p) n) s y → Reach (Edge E n) s y
  reach-out a = reach-map (λ u v r. (r.0, r.1, (inside-leads E p u v r.2).0)) a

  -- every number on the way but the first is inside
  end-in : {s y : ℕ} → p s ≡ true → Reach (Edge (inside E p) n) s y → p y ≡ true
  end-in h here = h
  end-in h (step {y = u} {z = v} a r) = (inside-leads E p u v r.2).1

  -- a walk is inside where all that lies on a way from its start to its end is
  reach-in : {s y : ℕ} → ((w : ℕ) → Reach (Edge E n) s w → Reach (Edge E n) w y → p w ≡ true) → Reach (Edge E n) s y → Reach (Edge (inside E p) n) s y
  reach-in h here = here
  reach-in {s} h (step {y = u} {z = v} a r) =
      step (reach-in (λ w b c. h w b (step c r)) a) (r.0, r.1, inside-step E p u v r.2 (h v (step a r) here))

-- ---- the class of r: of the numbers in no class those that reach it, and of these what it reaches

module _ (E F : ℕ → ℕ → Bool) (n : ℕ) (t : Turned E F n) (ids : List ℕ) (u : Unparted E n ids) (r : ℕ) (lr : r < n) (z : get_or ids r 0 ≡ 0)
    (a b m : List ℕ) (ha : Opened n ids a) (hb : Marks n b (bfs (inside F (flagged a)) n r)) (hm : Marks n m (bfs (inside E (flagged b)) n r)) where
  free : (v : ℕ) → v < n → get_or ids v 0 ≡ 0 → flagged a v ≡ true
  free v l e = ap (λ (i : ℕ). eqb i 1) (ha v l) ∙ bit-one (eqb (get_or ids v 0) 0) ∙ eq-eqb (get_or ids v 0) 0 e

  -- below n, where a walk leads
  reach-below : {y : ℕ} → Reach (Edge E n) r y → y < n
  reach-below here = lr
  reach-below (step w e) = e.1

  -- what is on a way from r to r is in the first search
  round : (v : ℕ) → Reach (Edge E n) r v → Reach (Edge E n) v r → flagged b v ≡ true
  round v x y =
      let lv : v < n = reach-below x in
      flags-reached (inside F (flagged a)) n r b hb v lv
      ∙ bfs-complete (inside F (flagged a)) n r lr v
      (reach-in F (flagged a)
      (λ w c d.
      let p : Reach (Edge E n) w r = reach-forth E F n t c in
      let q : Reach (Edge E n) r w = reach-trans x (reach-forth E F n t d) in
      let lw : w < n = reach-below q in
      free w lw (u r w lr lw (shared-both E n r w (bfs-complete E n r lr w q) (bfs-complete E n w lw r p)) z))
      (reach-back E F n t y))

  pub class-shared : (v : ℕ) → v < n → flagged m v ≡ mutually_reached E n r v
  class-shared v l =
      flags-reached (inside E (flagged b)) n r m hm v l
      ∙ test-ext _ _
      (λ e.
      let w = bfs-sound (inside E (flagged b)) n r lr v e in
      let f : flagged b v ≡ true = end-in E (flagged b) (round r here here) w in
      let k = bfs-sound (inside F (flagged a)) n r lr v (sym (flags-reached (inside F (flagged a)) n r b hb v l) ∙ f) in
      shared-both E n r v (bfs-complete E n r lr v (reach-out E (flagged b) w)) (bfs-complete E n v l r (reach-forth E F n t (reach-out F (flagged a) k))))
      (λ e.
      let x = bfs-sound E n r lr v (shared-forth E n r v e) in
      let y = bfs-sound E n v l r (shared_back E n r v e) in
      bfs-complete (inside E (flagged b)) n r lr v (reach-in E (flagged b) (λ w c d. round w c (reach-trans d y)) x))
