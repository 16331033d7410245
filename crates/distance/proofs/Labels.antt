-- Labels: a number is 0 unlabelled, 1 labelled, 2 settled; its key is the total of a walk. Assumes nothing.
use mathlib.Core.Path.{◌≡◌, sym, ap, ◌∙◌, subst}
use mathlib.Core.Bool.{Bool, true, not}
use mathlib.Core.Logic.{◌⊎◌, inl, inr, ⊎_elim}
use mathlib.Core.List.{List}
use Prim.Native.Nat.{ℕ, suc, ◌+◌, ◌≤◌, ◌<◌}
use native.Mathlib.Nat.{lt_irrefl}
use native.Mathlib.Omega.{arith}
use lib.Dec.{eqb, ltb}
use lib.ListN.{length, get_or, set, length-set}
use lib.Seq.{get_or-set_same, get_or-set_other}
use borrow.Author.Tests.{eq-eqb, ne_eqb, ltb-true, ltb-false}
use Rattle.distance.specs.Way.{Way, here, step}
use Rattle.graph.specs.Reach.{Edge}
use Rattle.lists.proofs.Cases.{on, on_same, clash}
use Rattle.lists.proofs.Count.{count-ext, count-flip, count-le}
use Rattle.distance.specs.Labels.{relaxed_mark, relaxed_key, Relaxed, Labels, unsettled, Shortest}

pub live-le : (n : ℕ) (m : List ℕ) → unsettled n m ≤ n
unfolding unsettled
live-le n m = count-le (λ v. not (eqb (get_or m v 0) 2)) n

-- cases on a mark
cases : (x : ℕ) {C : Type 0} → x ≤ 2 → (x ≡ 0 → C) → (x ≡ 1 → C) → (x ≡ 2 → C) → C
cases x l f g h = on_same x 0 f (λ a. on_same x 1 g (λ b. on_same x 2 h (λ c. absurd (lt_irrefl 2 (omega (arith, three a b c))))))
  where
    three : (x ≡ 0 → ⊥) → (x ≡ 1 → ⊥) → (x ≡ 2 → ⊥) → 3 ≤ x
    three a b c = omega (arith, a, b, c)

-- what a step from the settled number did to a label: e says whether there is the step, c is the total by it
data How (e : Bool) (m d c m' d' : ℕ) : Type 0 where
  kept : m' ≡ m → d' ≡ d → (e ≡ true → (m ≡ 0 → ⊥) × ((m ≡ 2) ⊎ (d ≤ c))) → How e m d c m' d'
  fresh : e ≡ true → m ≡ 0 → m' ≡ 1 → d' ≡ c → How e m d c m' d'
  shorter : e ≡ true → m ≡ 1 → m' ≡ 1 → d' ≡ c → c ≤ d → How e m d c m' d'

how : (e : Bool) (m d c : ℕ) → m ≤ 2 → How e m d c (relaxed_mark e m) (relaxed_key e m d c)
how e m d c l =
    on e
    (λ t. cases m l
    (λ z. fresh t z (rw (t, eq-eqb m 0 z)) (rw (t, eq-eqb m 0 z)))
    (λ o. on (ltb c d)
    (λ k. shorter t o (rw (t, ne_eqb m 0 (λ q. absurd (lt_irrefl 0 (omega arith)))) o) (rw (t, ne_eqb m 0 (λ q. absurd (lt_irrefl 0 (omega arith))), eq-eqb m 1 o, k)) (omega (arith, ltb-true c d k)))
    (λ k. kept (rw (t, ne_eqb m 0 (λ q. absurd (lt_irrefl 0 (omega arith))))) (rw (t, ne_eqb m 0 (λ q. absurd (lt_irrefl 0 (omega arith))), eq-eqb m 1 o, k)) (λ _. ((λ q. lt_irrefl 0 (omega arith)), inr (ltb-false c d k)))))
    (λ w. kept (rw (t, ne_eqb m 0 (λ q. absurd (lt_irrefl 0 (omega arith))))) (rw (t, ne_eqb m 0 (λ q. absurd (lt_irrefl 0 (omega arith))), ne_eqb m 1 (λ q. absurd (lt_irrefl 0 (omega arith))))) (λ _. ((λ q. lt_irrefl 0 (omega arith)), inl w))))
    (λ f. kept (rw f) (rw f) (λ t. clash t f))

absurd-num : {C : Type 0} (a b : ℕ) → a < b → a ≡ b → C
absurd-num a b l e = absurd (lt_irrefl b (omega arith))

module _ {e : Bool} {m d c m' d' : ℕ} where
  -- a settled number keeps its key
  how-two : How e m d c m' d' → m' ≡ 2 → (m ≡ 2) × (d' ≡ d)
  how-two (kept a b f) t = (sym a ∙ t, b)
  how-two (fresh a b o k) t = absurd-num 1 2 (omega arith) (sym o ∙ t)
  how-two (shorter a b o k l) t = absurd-num 1 2 (omega arith) (sym o ∙ t)

  how-settled : How e m d c m' d' → m ≡ 2 → (m' ≡ 2) × (d' ≡ d)
  how-settled (kept a b f) t = (a ∙ t, b)
  how-settled (fresh a b o k) t = absurd-num 0 2 (omega arith) (sym b ∙ t)
  how-settled (shorter a b o k l) t = absurd-num 1 2 (omega arith) (sym b ∙ t)

  how-zero : How e m d c m' d' → m' ≡ 0 → (m ≡ 0) × (e ≡ true → ⊥)
  how-zero (kept a b f) t = (sym a ∙ t, λ q. (f q).0 (sym a ∙ t))
  how-zero (fresh a b o k) t = absurd-num 0 1 (omega arith) (sym t ∙ o)
  how-zero (shorter a b o k l) t = absurd-num 0 1 (omega arith) (sym t ∙ o)

  how-three : How e m d c m' d' → m ≤ 2 → m' ≤ 2
  how-three (kept a b f) l = omega (arith, a)
  how-three (fresh a b o k) l = omega (arith, o)
  how-three (shorter a b o k q) l = omega (arith, o)

  -- where there was a label the key is at most what it was, and with the step it is at most the total by it or the number is settled
  how-old : How e m d c m' d' → (m ≡ 0 → ⊥) → d' ≤ d
  how-old (kept a b f) z = omega (arith, b)
  how-old (fresh a b o k) z = absurd (z b)
  how-old (shorter a b o k l) z = omega (arith, k)

  how-step : How e m d c m' d' → e ≡ true → (m ≡ 2) ⊎ (d' ≤ c)
  how-step (kept a b f) t = ⊎_elim (λ (q : m ≡ 2). inl q) (λ (q : d ≤ c). inr (omega (arith, b))) (f t).1
  how-step (fresh a b o k) t = inr (omega (arith, k))
  how-step (shorter a b o k l) t = inr (omega (arith, k))

  -- a label is the old one, or the total by the step
  how-label : How e m d c m' d' → (m' ≡ 0 → ⊥) → ((m ≡ 0 → ⊥) × (d' ≡ d)) ⊎ ((e ≡ true) × (d' ≡ c))
  how-label (kept a b f) z = inl ((λ q. z (a ∙ q)), b)
  how-label (fresh a b o k) z = inr (a, k)
  how-label (shorter a b o k l) z = inr (a, k)

  how_one : How e m d c m' d' → m' ≡ 1 → ((m ≡ 1) × (d' ≡ d)) ⊎ ((e ≡ true) × (d' ≡ c))
  how_one (kept a b f) t = inl (sym a ∙ t, b)
  how_one (fresh a b o k) t = inr (a, k)
  how_one (shorter a b o k l) t = inr (a, k)

  how-nil : How e m d c m' d' → (m ≡ 0 → ⊥) → d ≡ 0 → d' ≡ 0
  how-nil h z q = omega (arith, how-old h z)

module _ {E : ℕ → ℕ → Bool} {W : ℕ → ℕ → ℕ} {n s b r : ℕ} {m d m' d' : List ℕ} {u B : ℕ} (h : Labels E W n s b r m d) (small : n ≤ 256) (ls : s < n) (lu : u < n)
    (one : get_or m u 0 ≡ 1) (least : (v : ℕ) → v < n → get_or m v 0 ≡ 1 → get_or d u 0 ≤ get_or d v 0)
    (x : Relaxed E W B n u (set m u 2) d m' d') where
  at-u : get_or (set m u 2) u 0 ≡ 2
  at-u = get_or-set_same m u 2 0 (omega (arith, h.wide))

  off-u : (v : ℕ) → (v ≡ u → ⊥) → get_or (set m u 2) v 0 ≡ get_or m v 0
  off-u v ne = get_or-set_other m u v 2 0 ne

  was : (v : ℕ) → (get_or (set m u 2) v 0 ≡ 0 → ⊥) → get_or m v 0 ≡ 0 → ⊥
  was v f z = on_same v u (λ e. absurd-num 0 1 (omega arith) (sym z ∙ ap (λ (k : ℕ). get_or m k 0) e ∙ one)) (λ ne. f (off-u v ne ∙ z))

  was-zero : (v : ℕ) → get_or (set m u 2) v 0 ≡ 0 → get_or m v 0 ≡ 0
  was-zero v z = on_same v u (λ e. absurd-num 0 2 (omega arith) (sym z ∙ ap (λ (k : ℕ). get_or (set m u 2) k 0) e ∙ at-u)) (λ ne. sym (off-u v ne) ∙ z)

  was-one : (v : ℕ) → get_or (set m u 2) v 0 ≡ 1 → get_or m v 0 ≡ 1
  was-one v z = on_same v u (λ e. absurd-num 1 2 (omega arith) (sym z ∙ ap (λ (k : ℕ). get_or (set m u 2) k 0) e ∙ at-u)) (λ ne. sym (off-u v ne) ∙ z)

  was-two : (v : ℕ) → get_or (set m u 2) v 0 ≡ 2 → (v ≡ u) ⊎ (get_or m v 0 ≡ 2)
  was-two v z = on_same v u (λ e. inl e) (λ ne. inr (sym (off-u v ne) ∙ z))

  three₁ : (v : ℕ) → v < n → get_or (set m u 2) v 0 ≤ 2
  three₁ v l = on_same v u (λ e. omega (arith, ap (λ (k : ℕ). get_or (set m u 2) k 0) e ∙ at-u)) (λ ne. omega (arith, off-u v ne, h.three v l))

  H : (v : ℕ) → v < n → How (E u v) (get_or (set m u 2) v 0) (get_or d v 0) (get_or d u 0 + W u v) (get_or m' v 0) (get_or d' v 0)
  H v l = rw (x.marks v l, x.keys v l) (how (E u v) (get_or (set m u 2) v 0) (get_or d v 0) (get_or d u 0 + W u v) (three₁ v l))

  -- the settled numbers are no further than u
  near : (v : ℕ) → v < n → get_or (set m u 2) v 0 ≡ 2 → get_or d v 0 ≤ get_or d u 0
  near v l t = ⊎_elim (λ (e : v ≡ u). omega (arith, ap (λ (k : ℕ). get_or d k 0) e)) (λ (q : get_or m v 0 ≡ 2). h.order v u l lu q one) (was-two v t)

  one_on : get_or m u 0 ≡ 0 → ⊥
  one_on z = absurd-num 0 1 (omega arith) (sym z ∙ one)

  pub labels-more : Labels E W n s (b + B) (suc r) m' d'
  labels-more = record {
    wide = x.wide;
    long = x.long;
    three = λ v l. how-three (H v l) (three₁ v l);
    start = λ z. h.start (was-zero s (how-zero (H s ls) z).0);
    zero = how-nil (H s ls) (λ z. h.start (was-zero s z)) h.zero;
    sound = λ v l f. ⊎_elim
        (λ (q : (get_or (set m u 2) v 0 ≡ 0 → ⊥) × (get_or d' v 0 ≡ get_or d v 0)). let w = h.sound v l (was v q.0) in (w.0, omega (arith, w.1), subst (λ (k : ℕ). Way (Edge E n) W s v k w.0) (sym q.1) w.2))
        (λ (q : (E u v ≡ true) × (get_or d' v 0 ≡ get_or d u 0 + W u v)). let w = h.sound u lu one_on in (suc w.0, omega (arith, w.1), subst (λ (k : ℕ). Way (Edge E n) W s v k (suc w.0)) (sym q.1) (step w.2 (lu, l, q.0))))
        (how-label (H v l) f);
    bound = λ v l f. ⊎_elim
        (λ (q : (get_or (set m u 2) v 0 ≡ 0 → ⊥) × (get_or d' v 0 ≡ get_or d v 0)). omega (arith, q.1, h.bound v l (was v q.0)))
        (λ (q : (E u v ≡ true) × (get_or d' v 0 ≡ get_or d u 0 + W u v)). omega (arith, q.1, h.bound u lu one_on, x.bounded v l q.0))
        (how-label (H v l) f);
    met = λ y v ly lv t e z.
        let k = how-zero (H v lv) z in
        ⊎_elim
        (λ (q : y ≡ u). k.1 (subst (λ (i : ℕ). E i v ≡ true) q e))
        (λ (q : get_or m y 0 ≡ 2). h.met y v ly lv q e (was-zero v k.0))
        (was-two y (how-two (H y ly) t).0);
    tight = λ y v ly lv t e.
        let ty = how-two (H y ly) t in
        ⊎_elim
        (λ (q : y ≡ u). ⊎_elim
        (λ (r : get_or (set m u 2) v 0 ≡ 2). omega (arith, (how-settled (H v lv) r).1, near v lv r, ty.1, ap (λ (i : ℕ). get_or d i 0) q))
        (λ (r : get_or d' v 0 ≤ get_or d u 0 + W u v). omega (arith, r, ty.1, ap (λ (i : ℕ). get_or d i 0) q, ap (λ (i : ℕ). W i v) q))
        (how-step (H v lv) (subst (λ (i : ℕ). E i v ≡ true) q e)))
        (λ (q : get_or m y 0 ≡ 2). omega (arith, how-old (H v lv) (λ z. h.met y v ly lv q e (was-zero v z)), h.tight y v ly lv q e, ty.1))
        (was-two y ty.0);
    order = λ y v ly lv t o.
        let ty = how-two (H y ly) t in
        let far : get_or d y 0 ≤ get_or d u 0 = near y ly ty.0 in
        ⊎_elim
        (λ (q : (get_or (set m u 2) v 0 ≡ 1) × (get_or d' v 0 ≡ get_or d v 0)). omega (arith, q.1, ty.1, least v lv (was-one v q.0)))
        (λ (q : (E u v ≡ true) × (get_or d' v 0 ≡ get_or d u 0 + W u v)). omega (arith, q.1, ty.1))
        (how_one (H v lv) o);
  }

  -- one number fewer is not settled
  pub live_more : unsettled n m ≡ suc (unsettled n m')
  unfolding unsettled
  live_more =
      count-flip (λ v. not (eqb (get_or (set m u 2) v 0) 2)) (λ v. not (eqb (get_or m v 0) 2)) u n lu
      (rw (eq-eqb (get_or (set m u 2) u 0) 2 at-u))
      (rw (ne_eqb (get_or m u 0) 2 (λ e. absurd-num 1 2 (omega arith) (sym one ∙ e))))
      (λ y ne. ap (λ (k : ℕ). not (eqb k 2)) (sym (off-u y ne)))
      ∙ ap suc (count-ext (λ v. not (eqb (get_or (set m u 2) v 0) 2)) (λ v. not (eqb (get_or m' v 0) 2)) n
      (λ v l. ap not (on_same (get_or (set m u 2) v 0) 2
      (λ e. eq-eqb (get_or (set m u 2) v 0) 2 e ∙ sym (eq-eqb (get_or m' v 0) 2 (how-settled (H v l) e).0))
      (λ ne. ne_eqb (get_or (set m u 2) v 0) 2 ne ∙ sym (ne_eqb (get_or m' v 0) 2 (λ e. ne (how-two (H v l) e).0))))))

-- where no label is left to settle, every walk from s ends at a settled number, whose key is at most its total
module _ {E : ℕ → ℕ → Bool} {W : ℕ → ℕ → ℕ} {n s b r : ℕ} {m d : List ℕ} (h : Labels E W n s b r m d) (ls : s < n) (end : (v : ℕ) → v < n → get_or m v 0 ≡ 1 → ⊥) where
  settled : (v : ℕ) → v < n → (get_or m v 0 ≡ 0 → ⊥) → get_or m v 0 ≡ 2
  settled v l f = cases (get_or m v 0) (h.three v l) (λ z. absurd (f z)) (λ o. absurd (end v l o)) (λ t. t)

  pub all_ways : (y k j : ℕ) → Way (Edge E n) W s y k j → (get_or m y 0 ≡ 2) × (get_or d y 0 ≤ k)
  all_ways y k j here = (settled s ls h.start, omega (arith, h.zero))
  all_ways y k j (step {y = a} {z = z} {k = i} {j = i'} w e) =
      let q = all_ways a i i' w in
      (settled z e.1 (h.met a z e.0 e.1 q.0 e.2), omega (arith, q.1, h.tight a z e.0 e.1 q.0 e.2))

pub shortest : {E : ℕ → ℕ → Bool} {W : ℕ → ℕ → ℕ} {n s b r : ℕ} {m d : List ℕ} → Labels E W n s b r m d → b ≤ 72057594037927936 → r ≤ n → s < n → ((v : ℕ) → v < n → get_or m v 0 ≡ 1 → ⊥) → Shortest E W n s m d
shortest {E} {W} {n} {s} {b} {r} {m} {d} h lb lr ls end = record {
  wide = h.wide;
  long = h.long;
  small = λ y l t. let q : get_or d y 0 ≤ b = h.bound y l (λ z. absurd-num 0 2 (omega arith) (sym z ∙ t)) in omega arith;
  way = λ y l t. let w = h.sound y l (λ z. absurd-num 0 2 (omega arith) (sym z ∙ t)) in (w.0, omega (arith, w.1), w.2);
  least = all_ways h ls end;
}

-- one label, at the start
pub labels-first : {E : ℕ → ℕ → Bool} {W : ℕ → ℕ → ℕ} {n s b r : ℕ} (m d : List ℕ) → n ≤ 256 → s < n → length m ≡ 256 → length d ≡ 256 → ((v : ℕ) → v < n → get_or m v 0 ≡ 0)
    → Labels E W n s b r (set m s 1) (set d s 0)
labels-first {E} {W} {n} {s} {b} {r} m d small ls wide long none =
    let one : get_or (set m s 1) s 0 ≡ 1 = get_or-set_same m s 1 0 (omega arith) in
    let nil : get_or (set d s 0) s 0 ≡ 0 = get_or-set_same d s 0 0 (omega arith) in
    let other : (v : ℕ) → v < n → (v ≡ s → ⊥) → get_or (set m s 1) v 0 ≡ 0 = λ v l ne. get_or-set_other m s v 1 0 ne ∙ none v l in
    let only : (v : ℕ) → v < n → (get_or (set m s 1) v 0 ≡ 0 → ⊥) → v ≡ s = λ v l f. on_same v s (λ e. e) (λ ne. absurd (f (other v l ne))) in
    let no-two : (v : ℕ) → v < n → get_or (set m s 1) v 0 ≡ 2 → ⊥ = λ v l t. on_same v s
    (λ e. absurd-num 1 2 (omega arith) (sym one ∙ ap (λ (k : ℕ). get_or (set m s 1) k 0) (sym e) ∙ t))
    (λ ne. absurd-num 0 2 (omega arith) (sym (other v l ne) ∙ t)) in
    record {
      wide = length-set m s 1 ∙ wide;
      long = length-set d s 0 ∙ long;
      three = λ v l. on_same v s (λ e. omega (arith, one, ap (λ (k : ℕ). get_or (set m s 1) k 0) e)) (λ ne. omega (arith, other v l ne));
      start = λ z. absurd-num 0 1 (omega arith) (sym z ∙ one);
      zero = nil;
      sound = λ v l f. let e : v ≡ s = only v l f in
          (0, omega arith, subst (λ (i : ℕ). Way (Edge E n) W s i (get_or (set d s 0) i 0) 0) (sym e) (subst (λ (k : ℕ). Way (Edge E n) W s s k 0) (sym nil) here));
      bound = λ v l f. omega (arith, nil, ap (λ (k : ℕ). get_or (set d s 0) k 0) (only v l f));
      met = λ u v lu lv t e. absurd (no-two u lu t);
      tight = λ u v lu lv t e. absurd (no-two u lu t);
      order = λ u v lu lv t e. absurd (no-two u lu t);
    }
