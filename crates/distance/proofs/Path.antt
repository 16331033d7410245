-- The path: of the walks from x to y those of least cost, of these those of fewest steps, of these the smallest vertex list.
-- Assumes nothing.
use mathlib.Core.Path.{◌≡◌, refl, sym, ap, ◌∙◌, subst}
use mathlib.Core.Bool.{Bool, true, ◌&&◌}
use mathlib.Core.Logic.{◌⊎◌, inl, inr, ⊎_elim}
use mathlib.Core.List.{List, [], ◌∷◌}
use Prim.Native.Nat.{ℕ, zero, suc, ◌+◌, ◌*◌, ◌≤◌, ◌<◌}
use native.Mathlib.Nat.{lt_irrefl, add_comm}
use native.Mathlib.Omega.{arith}
use lib.Dec.{eqb, ltb}
use lib.ListN.{length, get_or}
use borrow.Author.Tests.{eq-eqb, ne_eqb, eqb-true, lt-ltb, le-ltb, ltb-true, ltb-false}
use Rattle.distance.specs.Labels.{Shortest}
use Rattle.distance.specs.Way.{Way, here, step}
use Rattle.graph.specs.Reach.{Edge}
use Rattle.lists.proofs.Cases.{on, on_same, and-true-left, and-true-right}
use Rattle.order.proofs.Least.{least-hit, least-le}
use Rattle.order.specs.Sort.{LexLe}
use Rattle.distance.specs.Best.{Walk, total, Best}
use Rattle.distance.specs.Path.{key, is_tight, hop, path}

pub key-total : (W : ℕ → ℕ → ℕ) (x : ℕ) (l : List ℕ) → total (key W) x l ≡ total W x l * 65536 + length l
key-total W x [] = refl
key-total W x (v ∷ l) = omega (arith, key-total W v l)

-- a walk backwards in the turned graph
module _ (E : ℕ → ℕ → Bool) (W : ℕ → ℕ → ℕ) (n y : ℕ) where
  abbrev Back : ℕ → ℕ → ℕ → Type 0
  Back = Way (Edge (λ a b. E b a) n) (λ a b. W b a) y

  way-walk : {x k j : ℕ} → Back x k j → (l : List ℕ) × (Walk (Edge E n) x l y) × (total W x l ≡ k) × (length l ≡ j)
  way-walk here = ([], refl, refl, refl)
  way-walk (step {y = a} {z = z} {k = k} {j = j} w e) =
      let r = way-walk w in
      (a ∷ r.0, ((e.1, e.0, e.2), r.1), omega (arith, r.2), ap suc r.3)

  walk-way : (x : ℕ) (l : List ℕ) → Walk (Edge E n) x l y → Back x (total W x l) (length l)
  walk-way x [] e = subst (λ (z : ℕ). Back z 0 0) (sym e) here
  walk-way x (v ∷ l) w =
      subst (λ (k : ℕ). Back x k (suc (length l))) (add_comm (total W v l) (W x v)) (step (walk-way v l w.1) (w.0.1, w.0.0, w.0.2))

module _ (E : ℕ → ℕ → Bool) (K : ℕ → ℕ → ℕ) (n : ℕ) (m d : List ℕ) where
  pub path-none : (f x : ℕ) → get_or d x 0 ≡ 0 → path E K n m d f x ≡ []
  unfolding path
  path-none zero x e = refl
  path-none (suc f) x e = rw (eq-eqb (get_or d x 0) 0 e)

  pub path-more : (f x : ℕ) → (get_or d x 0 ≡ 0 → ⊥) → hop E K n m d x < n → path E K n m d (suc f) x ≡ hop E K n m d x ∷ path E K n m d f (hop E K n m d x)
  unfolding path
  path-more f x e l = rw (ne_eqb (get_or d x 0) 0 e, lt-ltb (hop E K n m d x) n l)

  pub path-lost : (f x : ℕ) → n ≤ hop E K n m d x → path E K n m d f x ≡ []
  unfolding path
  path-lost zero x l = refl
  path-lost (suc f) x l =
      on (eqb (get_or d x 0) 0)
      (λ e. rw e)
      (λ e. rw (e, le-ltb (hop E K n m d x) n l))

module _ (E : ℕ → ℕ → Bool) (W : ℕ → ℕ → ℕ) (n y : ℕ) (m d : List ℕ) (small : n ≤ 256) (h : Shortest (λ a b. E b a) (λ a b. key W b a) n y m d) where
  pub under : (x : ℕ) (l : List ℕ) → Walk (Edge E n) x l y → (get_or m x 0 ≡ 2) × (get_or d x 0 ≤ total (key W) x l)
  under x l w = h.least x (total (key W) x l) (length l) (walk-way E (key W) n y x l w)

  -- a walk of the key of x
  real : (x : ℕ) → x < n → get_or m x 0 ≡ 2 → (l : List ℕ) × (Walk (Edge E n) x l y) × (total (key W) x l ≡ get_or d x 0) × (length l ≤ n)
  real x lx t =
      let w = h.way x lx t in
      let r = way-walk E (key W) n y w.2 in
      (r.0, r.1, r.2, omega (arith, r.3, w.1))

  -- a step brings no key down by more than its own
  slope : (x v : ℕ) → Edge E n x v → get_or m v 0 ≡ 2 → get_or d x 0 ≤ key W x v + get_or d v 0
  slope x v e t =
      let r = real v e.1 t in
      omega (arith, (under x (v ∷ r.0) (e, r.1)).1, r.2)

  tight-is : (x v : ℕ) → E x v ≡ true → get_or m v 0 ≡ 2 → get_or d x 0 ≡ key W x v + get_or d v 0 → is_tight E (key W) m d x v ≡ true
  unfolding is_tight
  tight-is x v e t q = rw (e, eq-eqb (get_or m v 0) 2 t, eq-eqb (get_or d x 0) (key W x v + get_or d v 0) q)

  tight-has : (x v : ℕ) → is_tight E (key W) m d x v ≡ true → (E x v ≡ true) × (get_or m v 0 ≡ 2) × (get_or d x 0 ≡ key W x v + get_or d v 0)
  unfolding is_tight
  tight-has x v e =
      let a : Bool = E x v in
      let b : Bool = eqb (get_or m v 0) 2 in
      let c : Bool = eqb (get_or d x 0) (key W x v + get_or d v 0) in
      (and-true-left a (b && c) e, eqb-true (get_or m v 0) 2 (and-true-left b c (and-true-right a (b && c) e)), eqb-true (get_or d x 0) (key W x v + get_or d v 0) (and-true-right b c (and-true-right a (b && c) e)))

  hop-has : (x : ℕ) → hop E (key W) n m d x < n → is_tight E (key W) m d x (hop E (key W) n m d x) ≡ true
  unfolding hop
  hop-has x l = least-hit (is_tight E (key W) m d x) n 0 (omega arith)

  hop-le : (x v : ℕ) → v < n → is_tight E (key W) m d x v ≡ true → hop E (key W) n m d x ≤ v
  unfolding hop
  hop-le x v l t = least-le (is_tight E (key W) m d x) n 0 v (omega arith) (omega arith) t

  path-short : (f x : ℕ) → length (path E (key W) n m d f x) ≤ f
  unfolding path
  path-short zero x = omega arith
  path-short (suc f) x =
      on_same (get_or d x 0) 0
      (λ z. omega (arith, ap length (path-none E (key W) n m d (suc f) x z)))
      (λ z. on (ltb (hop E (key W) n m d x) n)
      (λ t. omega (arith, ap length (path-more E (key W) n m d f x z (ltb-true (hop E (key W) n m d x) n t)), path-short f (hop E (key W) n m d x)))
      (λ t. omega (arith, ap length (path-lost E (key W) n m d (suc f) x (ltb-false (hop E (key W) n m d x) n t)))))

  -- the path is a walk of the key, and no other walk of the key has a smaller list
  abbrev Good : ℕ → List ℕ → List ℕ → Type 0
  Good x p k = Walk (Edge E n) x p y × (total (key W) x p ≡ get_or d x 0) × LexLe p k

  path-good : (f x : ℕ) (k : List ℕ) → Walk (Edge E n) x k y → total (key W) x k ≡ get_or d x 0 → length k ≤ f → length k ≤ 256 → Good x (path E (key W) n m d f x) k
  path-good zero x [] w e l b = subst (λ (p : List ℕ). Good x p []) (sym (path-none E (key W) n m d zero x (sym e))) (w, e, tt)
  path-good zero x (v ∷ k) w e l b = absurd (lt_irrefl 0 (omega arith))
  path-good (suc f) x [] w e l b = subst (λ (p : List ℕ). Good x p []) (sym (path-none E (key W) n m d (suc f) x (sym e))) (w, e, tt)
  path-good (suc f) x (v ∷ k) w e l b =
      let uv = under v k w.1 in
      let sl : get_or d x 0 ≤ key W x v + get_or d v 0 = slope x v w.0 uv.0 in
      let tv : get_or d x 0 ≡ key W x v + get_or d v 0 = omega (arith, uv.1) in
      let u : ℕ = hop E (key W) n m d x in
      let le : u ≤ v = hop-le x v w.0.1 (tight-is x v w.0.2 uv.0 tv) in
      let lu : u < n = omega (arith, w.0.1) in
      let t = tight-has x u (hop-has x lu) in
      let r = real u lu t.1 in
      let e₁ : total (key W) x (v ∷ k) ≡ total W x (v ∷ k) * 65536 + length (v ∷ k) = key-total W x (v ∷ k) in
      let e₂ : total (key W) x (u ∷ r.0) ≡ total W x (u ∷ r.0) * 65536 + length (u ∷ r.0) = key-total W x (u ∷ r.0) in
      let len : length r.0 ≡ length k = omega (arith, r.2, r.3, t.2, e) in
      subst (λ (p : List ℕ). Good x p (v ∷ k)) (sym (path-more E (key W) n m d f x (λ z. lt_irrefl 0 (omega arith)) lu))
      (on_same u v
      (λ s.
      let g = path-good f u k (subst (λ (i : ℕ). Walk (Edge E n) i k y) (sym s) w.1) (omega (arith, ap (λ (i : ℕ). total (key W) i k) s, ap (λ (i : ℕ). get_or d i 0) s, uv.1)) (omega arith) (omega arith) in
      (((w.0.0, lu, t.0), g.0), omega (arith, g.1, t.2), inr (s, g.2)))
      (λ ne.
      let g = path-good f u r.0 r.1 r.2 (omega arith) (omega arith) in
      (((w.0.0, lu, t.0), g.0), omega (arith, g.1, t.2), inl (omega arith))))

  -- cost first, then steps: the key of x against any walk
  pairs : (x : ℕ) (k : List ℕ) → Walk (Edge E n) x k y → (a s : ℕ) → get_or d x 0 ≡ a * 65536 + s → s ≤ 256 → (a < total W x k) ⊎ ((a ≡ total W x k) × (s ≤ length k))
  pairs x [] w a s e b =
      let z = (under x [] w).1 in
      inr (omega (arith, z), omega (arith, z))
  pairs x (v ∷ k) w a s e b =
      let t = (under v k w.1).0 in
      let r = real v w.0.1 t in
      let q : total (key W) v r.0 ≡ total W v r.0 * 65536 + length r.0 = key-total W v r.0 in
      let sl = slope x v w.0 t in
      ⊎_elim
      (λ (c : total W v r.0 < total W v k). inl (omega (arith, r.2, r.3)))
      (λ (c : (total W v r.0 ≡ total W v k) × (length r.0 ≤ length k)). on_same a (W x v + total W v k)
      (λ i. inr (i, omega (arith, c.0, c.1, r.2, r.3)))
      (λ ne. inl (omega (arith, c.0, r.2, r.3))))
      (pairs v k w.1 (total W v r.0) (length r.0) (sym r.2 ∙ q) (omega (arith, r.3)))

  pub path-best : (x : ℕ) → x < n → get_or m x 0 ≡ 2 → Best (Edge E n) W x y (path E (key W) n m d n x)
  path-best x lx t =
      let r = real x lx t in
      let p : List ℕ = path E (key W) n m d n x in
      let g : Good x p r.0 = path-good n x r.0 r.1 r.2 r.3 (omega (arith, r.3)) in
      let q₁ : total (key W) x p ≡ total W x p * 65536 + length p = key-total W x p in
      let q₂ : total (key W) x r.0 ≡ total W x r.0 * 65536 + length r.0 = key-total W x r.0 in
      record {
        walk = g.0;
        first = λ k w.
            let short : length p ≤ n = path-short n x in
            let cost : total W x p ≡ total W x r.0 = omega (arith, g.1, r.2, r.3) in
            let len : length p ≡ length r.0 = omega (arith, g.1, r.2, r.3) in
            ⊎_elim
            (λ (c : total W x r.0 < total W x k). inl (omega arith))
            (λ (c : (total W x r.0 ≡ total W x k) × (length r.0 ≤ length k)). inr (
              cost ∙ c.0,
              on_same (length p) (length k)
                  (λ i.
                  let q₃ : total (key W) x k ≡ total W x k * 65536 + length k = key-total W x k in
                  let tot : total (key W) x k ≡ get_or d x 0 = omega (arith, c.0, r.2) in
                  inr (i, (path-good n x k w tot (omega arith) (omega arith)).2))
                  (λ ne. inl (omega (arith, c.1))),
            ))
            (pairs x k w (total W x r.0) (length r.0) (sym r.2 ∙ q₂) (omega (arith, r.3)));
      }

  -- the key of x is that of its path
  pub path-key : (x : ℕ) → x < n → get_or m x 0 ≡ 2 → get_or d x 0 ≡ total W x (path E (key W) n m d n x) * 65536 + length (path E (key W) n m d n x)
  path-key x lx t =
      let r = real x lx t in
      let g : Good x (path E (key W) n m d n x) r.0 = path-good n x r.0 r.1 r.2 r.3 (omega (arith, r.3)) in
      sym g.1 ∙ key-total W x (path E (key W) n m d n x)
