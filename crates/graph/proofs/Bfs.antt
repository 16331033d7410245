-- Breadth first lists exactly what is reached from its start, each once. Assumes nothing.
use mathlib.Core.Path.{◌≡◌, refl, sym, ap, ◌∙◌, subst}
use mathlib.Core.Bool.{Bool, true, false, and-false}
use mathlib.Core.Logic.{⊎_elim}
use mathlib.Core.List.{List, [], ◌∷◌, ◌++◌, append_assoc, append-nil}
use Prim.Native.Nat.{ℕ, zero, suc, ◌+◌, ◌-◌, ◌≤◌, ◌<◌}
use native.Mathlib.Nat.{not-suc-le-zero, lt_irrefl, le_antisymm}
use native.Mathlib.Numerals.{add-one}
use native.Mathlib.Omega.{arith}
use lib.Dec.{ltb}
use lib.ListN.{length, get_or, length-append, get_or-append}
use borrow.Author.Tests.{ne_eqb, lt-ltb, le-ltb, ltb-true, ltb-false}
use Rattle.graph.specs.Reach.{Edge}
use Rattle.lists.proofs.Cases.{on, on_same, clash}
use Rattle.lists.proofs.Count.{pigeon}
use Rattle.lists.proofs.Memb.{memb-self, memb-left, memb-getD, memb-at, memb-snoc, memb-snoc-self, below-snoc, below-memb, distinct_snoc}
use Rattle.lists.specs.Lists.{memb, Distinct}
use Rattle.lists.specs.Inner.{Below}
use Rattle.walks.proofs.Walks.{reach-keeps}
use Rattle.walks.specs.Walks.{Reach, here, step}
use Rattle.graph.specs.Bfs.{push, spread, run, bfs}

-- what the queue keeps while it is served from place k on: numbers below n, none twice, each reached from s, and of those before k every step leads into it
pub record Served (E : ℕ → ℕ → Bool) (n s k : ℕ) (q : List ℕ) : Type 0 where
  pub once : Distinct q
  pub below : Below n q
  pub within : k ≤ length q
  pub start : memb s q ≡ true
  pub sound : (y : ℕ) → memb y q ≡ true → Reach (Edge E n) s y
  pub done : (i z : ℕ) → i < k → z < n → E (get_or q i 0) z ≡ true → memb z q ≡ true

module _ (E : ℕ → ℕ → Bool) where
  pub push-new : (x : ℕ) (q : List ℕ) (j : ℕ) → E x j ≡ true → memb j q ≡ false → push E x q j ≡ q ++ (j ∷ [])
  unfolding push
  push-new x q j e f = rw (e, f)

  pub push-none : (x : ℕ) (q : List ℕ) (j : ℕ) → E x j ≡ false → push E x q j ≡ q
  unfolding push
  push-none x q j e = rw e

  pub push-old : (x : ℕ) (q : List ℕ) (j : ℕ) → memb j q ≡ true → push E x q j ≡ q
  unfolding push
  push-old x q j e = rw (e, and-false)

  -- what a new number keeps, the whole round keeps
  pub push-keeps : (P : List ℕ → Type 0) (x : ℕ) (q : List ℕ) (j : ℕ)
      → (E x j ≡ true → memb j q ≡ false → P (q ++ (j ∷ []))) → P q → P (push E x q j)
  push-keeps P x q j h p =
      on (E x j) (λ e. on (memb j q) (λ m. rw push-old p) (λ m. rw push-new (h e m))) (λ e. rw push-none p)

  pub spread-keeps : (P : List ℕ → Type 0) (n x : ℕ)
      → ((q : List ℕ) (j : ℕ) → j < n → E x j ≡ true → memb j q ≡ false → P q → P (q ++ (j ∷ [])))
      → (m j : ℕ) (q : List ℕ) → j + m ≤ n → P q → P (spread E x m j q)
  unfolding spread
  spread-keeps P n x h zero j q b p = p
  spread-keeps P n x h (suc m) j q b p =
      spread-keeps P n x h m (suc j) (push E x q j) (omega arith) (push-keeps P x q j (λ e f. h q j (omega arith) e f p) p)

  push-in : (x : ℕ) (q : List ℕ) (j : ℕ) → E x j ≡ true → memb j (push E x q j) ≡ true
  push-in x q j e = on (memb j q) (λ t. rw (push-old x q j t) t) (λ t. rw (push-new x q j e t) (memb-snoc-self j q))

  -- every step of x to a number from j on leads into the queue
  pub spread-all : (x m j : ℕ) (q : List ℕ) (z : ℕ) → j ≤ z → z < j + m → E x z ≡ true → memb z (spread E x m j q) ≡ true
  unfolding spread
  spread-all x zero j q z a b e = absurd (lt_irrefl z (omega arith))
  spread-all x (suc m) j q z a b e =
      on_same z j
      (λ s. spread-keeps (λ l. memb z l ≡ true) (suc j + m) x (λ l i _ _ _ p. memb-left z l (i ∷ []) p) m (suc j) (push E x q j) (omega arith)
      (subst (λ (i : ℕ). memb z (push E x q i) ≡ true) s (push-in x q z e)))
      (λ ne. spread-all x m (suc j) (push E x q j) z (omega arith) (omega arith) e)

  -- nothing leaves the queue, and what is in it keeps its place
  pub spread-prefix : (n x : ℕ) (q : List ℕ) → (t : List ℕ) × (spread E x n 0 q ≡ q ++ t)
  spread-prefix n x q =
      spread-keeps (λ l. (t : List ℕ) × (l ≡ q ++ t)) n x
      (λ l j _ _ _ p. (p.0 ++ (j ∷ []), ap (λ (k : List ℕ). k ++ (j ∷ [])) p.1 ∙ append_assoc q p.0 (j ∷ [])))
      n 0 q (omega arith) ([], sym (append-nil q))

module _ (E : ℕ → ℕ → Bool) (n : ℕ) where
  pub spread-longer : (x : ℕ) (q : List ℕ) → length q ≤ length (spread E x n 0 q)
  spread-longer x q = let p = spread-prefix E n x q in omega (arith, ap length p.1, length-append q p.0)

  pub run_more : (f k : ℕ) (q : List ℕ) → k < length q → run E n (suc f) k q ≡ run E n f (suc k) (spread E (get_or q k 0) n 0 q)
  unfolding run
  run_more f k q l = rw (lt-ltb k (length q) l)

  pub run_end : (f k : ℕ) (q : List ℕ) → length q ≤ k → run E n f k q ≡ q
  unfolding run
  run_end zero k q l = refl
  run_end (suc f) k q l = rw (le-ltb k (length q) l)

  -- the code's loop: fuel for each number that is not served
  pub run_step : (k : ℕ) (q : List ℕ) → k < length q → length q ≤ n → run E n (n - k) k q ≡ run E n (n - (k + 1)) (k + 1) (spread E (get_or q k 0) n 0 q)
  run_step k q l b =
      let e : n - k ≡ suc (n - (k + 1)) = omega arith in
      rw (e, add-one k) (run_more (n - suc k) k q l)

module _ (E : ℕ → ℕ → Bool) (n s : ℕ) where
  pub served-first : s < n → Served E n s 0 (s ∷ [])
  served-first h = record {
    once = (refl, tt);
    below = (h, tt);
    within = omega arith;
    start = memb-self s [];
    sound = λ y e. on_same y s (λ t. subst (λ (z : ℕ). Reach (Edge E n) s z) (sym t) here) (λ ne. clash e (memb-snoc-none y ne));
    done = λ i z l. absurd (not-suc-le-zero l);
  }
    where
      memb-snoc-none : (y : ℕ) → (y ≡ s → ⊥) → memb y (s ∷ []) ≡ false
      memb-snoc-none y ne = rw (ne_eqb y s ne)

  pub served-more : (k : ℕ) (q : List ℕ) → k < length q → Served E n s k q → Served E n s (suc k) (spread E (get_or q k 0) n 0 q)
  served-more k q l v =
      let x : ℕ = get_or q k 0 in
      let q' : List ℕ = spread E x n 0 q in
      let mx : memb x q ≡ true = memb-getD q k l in
      let pre : (t : List ℕ) × (q' ≡ q ++ t) = spread-prefix E n x q in
      let kept : (y : ℕ) → memb y q ≡ true → memb y q' ≡ true = λ y e. rw pre.1 (memb-left y q pre.0 e) in
      let place : (i : ℕ) → i < length q → get_or q' i 0 ≡ get_or q i 0 = λ i h. ap (λ (w : List ℕ). get_or w i 0) pre.1 ∙ get_or-append q pre.0 0 i h in
      record {
        once = spread-keeps E Distinct n x (λ w j _ _ f d. distinct_snoc w j d f) n 0 q (omega arith) v.once;
        below = spread-keeps E (Below n) n x (λ w j h _ _ b. below-snoc n w j b h) n 0 q (omega arith) v.below;
        within = omega (arith, ap length pre.1, length-append q pre.0);
        start = kept s v.start;
        sound = spread-keeps E (λ w. (y : ℕ) → memb y w ≡ true → Reach (Edge E n) s y) n x
            (λ w j h e _ p y m. ⊎_elim (λ a. p y a) (λ a. subst (λ (z : ℕ). Reach (Edge E n) s z) (sym a) (step (v.sound x mx) (below-memb n q v.below x mx, h, e))) (memb-snoc y j w m))
            n 0 q (omega arith) v.sound;
        done = λ i z h hz e. on_same i k
            (λ t. spread-all E x n 0 q z (omega arith) (omega arith) (subst (λ (w : ℕ). E w z ≡ true) (ap (λ (u : ℕ). get_or q' u 0) t ∙ place k l) e))
            (λ ne. kept z (v.done i z (omega arith) hz (subst (λ (w : ℕ). E w z ≡ true) (place i (omega arith)) e)));
      }

  pub run-end-zero : (i : ℕ) (w : List ℕ) → run E n zero i w ≡ w
  unfolding run
  run-end-zero i w = refl

  -- the queue is served to its end
  run-served : (f k : ℕ) (q : List ℕ) → n ≤ k + f → Served E n s k q → Served E n s (length (run E n f k q)) (run E n f k q)
  run-served zero k q h v =
      let e : run E n zero k q ≡ q = run-end-zero k q in
      subst (λ (w : List ℕ). Served E n s (length w) w) (sym e)
      (subst (λ (i : ℕ). Served E n s i q) (le_antisymm v.within (omega (arith, pigeon q n v.once v.below))) v)
  run-served (suc f) k q h v =
      on (ltb k (length q))
      (λ e.
      let l : k < length q = ltb-true k (length q) e in
      subst (λ (w : List ℕ). Served E n s (length w) w) (sym (run_more E n f k q l))
      (run-served f (suc k) (spread E (get_or q k 0) n 0 q) (omega arith) (served-more k q l v)))
      (λ e.
      let l : length q ≤ k = ltb-false k (length q) e in
      subst (λ (w : List ℕ). Served E n s (length w) w) (sym (run_end E n (suc f) k q l))
      (subst (λ (i : ℕ). Served E n s i q) (le_antisymm v.within l) v))

  pub bfs-served : s < n → Served E n s (length (bfs E n s)) (bfs E n s)
  unfolding bfs
  bfs-served h = run-served n 0 (s ∷ []) (omega arith) (served-first h)

  -- the listing has each number that is reached from s, and no other, once
  pub bfs-once : s < n → Distinct (bfs E n s)
  bfs-once h = (bfs-served h).once

  pub bfs-below : s < n → Below n (bfs E n s)
  bfs-below h = (bfs-served h).below

  pub bfs-sound : s < n → (y : ℕ) → memb y (bfs E n s) ≡ true → Reach (Edge E n) s y
  bfs-sound h = (bfs-served h).sound

  pub bfs-complete : s < n → (y : ℕ) → Reach (Edge E n) s y → memb y (bfs E n s) ≡ true
  bfs-complete h y w =
      let q : List ℕ = bfs E n s in
      let v : Served E n s (length q) q = bfs-served h in
      reach-keeps (λ z. memb z q ≡ true) v.start
      (λ a b m r. let at = memb-at a q m in v.done at.0 b at.1 r.1 (subst (λ (z : ℕ). E z b ≡ true) (sym at.2) r.2)) w
