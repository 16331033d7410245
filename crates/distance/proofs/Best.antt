-- The best walk: there is one where there is a walk, there is no other, and it is what is computed. Assumes nothing.
use mathlib.Core.Path.{◌≡◌, refl, sym, ap, ◌∙◌, subst}
use mathlib.Core.Bool.{Bool, true, false, cond}
use mathlib.Core.Logic.{◌⊎◌, inl, inr, ⊎_elim}
use mathlib.Core.List.{List, [], ◌∷◌}
use mathlib.Core.Option.{Option, none, some}
use Prim.Native.Nat.{ℕ, zero, suc, ◌+◌, ◌≤◌, ◌<◌}
use native.Mathlib.Nat.{lt_irrefl}
use native.Mathlib.Omega.{arith}
use lib.Dec.{eqb, ltb}
use lib.ListN.{length}
use borrow.Author.Tests.{eq-eqb, ne_eqb, eqb-true, eqb-false, ltb-true, ltb-false}
use Rattle.lists.specs.Lists.{memb, filter, other_than, Distinct}
use Rattle.lists.proofs.Cases.{on, on_same, on_below, clash, or-true, or_right}
use Rattle.order.specs.Sort.{LexLe}
use Rattle.order.proofs.Smallest.{lex-antisym}
use Rattle.distance.specs.Best.{Walk, total, Ahead, Best}
use Rattle.distance.specs.Computed.{lex_le, ahead, better, onward, best_over, stay, best_within, best}

-- ---- the order of walks

lex-refl : (l : List ℕ) → LexLe l l
lex-refl [] = tt
lex-refl (x ∷ l) = inr (refl, lex-refl l)

lex-trans : (l k j : List ℕ) → LexLe l k → LexLe k j → LexLe l j
lex-trans [] k j p q = tt
lex-trans (x ∷ l) [] j p q = absurd p
lex-trans (x ∷ l) (y ∷ k) [] p q = absurd q
lex-trans (x ∷ l) (y ∷ k) (z ∷ j) p q =
    ⊎_elim
    (λ (a : x < y). ⊎_elim (λ (b : y < z). inl (omega arith)) (λ (b : (y ≡ z) × LexLe k j). inl (omega (arith, b.0))) q)
    (λ (a : (x ≡ y) × LexLe l k). ⊎_elim
    (λ (b : y < z). inl (omega (arith, a.0)))
    (λ (b : (y ≡ z) × LexLe k j). inr (a.0 ∙ b.0, lex-trans l k j a.1 b.1)) q)
    p

lex-yes : (l k : List ℕ) → lex_le l k ≡ true → LexLe l k
unfolding lex_le
lex-yes [] k e = tt
lex-yes (x ∷ l) [] e = clash e refl
lex-yes (x ∷ l) (y ∷ k) e =
    on (ltb x y)
    (λ p. inl (ltb-true x y p))
    (λ p. on (eqb x y) (λ q. inr (eqb-true x y q, lex-yes l k (rw (p, q) at e))) (λ q. clash e (rw (p, q))))

lex-no : (l k : List ℕ) → lex_le l k ≡ false → LexLe k l
unfolding lex_le
lex-no [] k e = clash refl e
lex-no (x ∷ l) [] e = tt
lex-no (x ∷ l) (y ∷ k) e =
    on (ltb x y)
    (λ p. clash (rw p) e)
    (λ p. on (eqb x y)
    (λ q. inr (sym (eqb-true x y q), lex-no l k (rw (p, q) at e)))
    (λ q. inl (omega (arith, ltb-false x y p, eqb-false x y q))))

module _ (W : ℕ → ℕ → ℕ) (x : ℕ) where
  pub ahead-refl : (l : List ℕ) → Ahead W x l l
  ahead-refl l = inr (refl, inr (refl, lex-refl l))

  -- a walk that is no dearer and has fewer steps is ahead of all that the other is ahead of
  ahead-cut : (l k j : List ℕ) → Ahead W x l k → total W x k ≤ total W x j → length k < length j → Ahead W x l j
  ahead-cut l k j a c s =
      ⊎_elim
      (λ (p : total W x l < total W x k). inl (omega arith))
      (λ (p : (total W x l ≡ total W x k) × ((length l < length k) ⊎ ((length l ≡ length k) × LexLe l k))).
      on_below (total W x l) (total W x j)
      (λ q. inl q)
      (λ q. inr (omega (arith, p.0), inl (⊎_elim (λ (r : length l < length k). omega arith) (λ (r : (length l ≡ length k) × LexLe l k). omega (arith, r.0)) p.1))))
      a

  ahead-trans : (l k j : List ℕ) → Ahead W x l k → Ahead W x k j → Ahead W x l j
  ahead-trans l k j a b =
      ⊎_elim
      (λ (p : total W x l < total W x k). ⊎_elim
      (λ (q : total W x k < total W x j). inl (omega arith))
      (λ (q : (total W x k ≡ total W x j) × ((length k < length j) ⊎ ((length k ≡ length j) × LexLe k j))). inl (omega (arith, q.0))) b)
      (λ (p : (total W x l ≡ total W x k) × ((length l < length k) ⊎ ((length l ≡ length k) × LexLe l k))). ⊎_elim
      (λ (q : total W x k < total W x j). inl (omega (arith, p.0)))
      (λ (q : (total W x k ≡ total W x j) × ((length k < length j) ⊎ ((length k ≡ length j) × LexLe k j))). inr (p.0 ∙ q.0, shorter p.1 q.1)) b)
      a
    where
      shorter : (length l < length k) ⊎ ((length l ≡ length k) × LexLe l k) → (length k < length j) ⊎ ((length k ≡ length j) × LexLe k j)
          → (length l < length j) ⊎ ((length l ≡ length j) × LexLe l j)
      shorter p q =
          ⊎_elim
          (λ (r : length l < length k). ⊎_elim (λ (s : length k < length j). inl (omega arith)) (λ (s : (length k ≡ length j) × LexLe k j). inl (omega (arith, s.0))) q)
          (λ (r : (length l ≡ length k) × LexLe l k). ⊎_elim
          (λ (s : length k < length j). inl (omega (arith, r.0)))
          (λ (s : (length k ≡ length j) × LexLe k j). inr (r.0 ∙ s.0, lex-trans l k j r.1 s.1)) q)
          p

  ahead-one : (l k : List ℕ) → Ahead W x l k → Ahead W x k l → l ≡ k
  ahead-one l k a b =
      ⊎_elim
      (λ (p : total W x l < total W x k). ⊎_elim
      (λ (q : total W x k < total W x l). absurd (lt_irrefl (total W x l) (omega arith)))
      (λ (q : (total W x k ≡ total W x l) × ((length k < length l) ⊎ ((length k ≡ length l) × LexLe k l))). absurd (lt_irrefl (total W x l) (omega (arith, q.0)))) b)
      (λ (p : (total W x l ≡ total W x k) × ((length l < length k) ⊎ ((length l ≡ length k) × LexLe l k))). ⊎_elim
      (λ (q : total W x k < total W x l). absurd (lt_irrefl (total W x l) (omega (arith, p.0))))
      (λ (q : (total W x k ≡ total W x l) × ((length k < length l) ⊎ ((length k ≡ length l) × LexLe k l))). same p.1 q.1) b)
      a
    where
      same : (length l < length k) ⊎ ((length l ≡ length k) × LexLe l k) → (length k < length l) ⊎ ((length k ≡ length l) × LexLe k l) → l ≡ k
      same p q =
          ⊎_elim
          (λ (r : length l < length k). ⊎_elim (λ (s : length k < length l). absurd (lt_irrefl (length l) (omega arith))) (λ (s : (length k ≡ length l) × LexLe k l). absurd (lt_irrefl (length l) (omega (arith, s.0)))) q)
          (λ (r : (length l ≡ length k) × LexLe l k). ⊎_elim
          (λ (s : length k < length l). absurd (lt_irrefl (length l) (omega (arith, r.0))))
          (λ (s : (length k ≡ length l) × LexLe k l). lex-antisym l k r.1 s.1) q)
          p

  -- the same step before both
  ahead_step : (v : ℕ) (l k : List ℕ) → Ahead W v l k → Ahead W x (v ∷ l) (v ∷ k)
  ahead_step v l k a =
      ⊎_elim
      (λ (p : total W v l < total W v k). inl (omega arith))
      (λ (p : (total W v l ≡ total W v k) × ((length l < length k) ⊎ ((length l ≡ length k) × LexLe l k))).
      inr (
        ap (λ (c : ℕ). W x v + c) p.0,
        ⊎_elim (λ (r : length l < length k). inl (omega arith)) (λ (r : (length l ≡ length k) × LexLe l k). inr (ap suc r.0, inr (refl, r.1))) p.1,
      ))
      a

  ahead-yes : (l k : List ℕ) → ahead W x l k ≡ true → Ahead W x l k
  unfolding ahead
  ahead-yes l k e =
      on (ltb (total W x l) (total W x k))
      (λ p. inl (ltb-true _ _ p))
      (λ p. on (eqb (total W x l) (total W x k))
      (λ q. inr (
        eqb-true _ _ q,
        on (ltb (length l) (length k))
            (λ r. inl (ltb-true _ _ r))
            (λ r. on (eqb (length l) (length k)) (λ s. inr (eqb-true _ _ s, lex-yes l k (rw (p, q, r, s) at e))) (λ s. clash e (rw (p, q, r, s)))),
      ))
      (λ q. clash e (rw (p, q))))

  ahead-no : (l k : List ℕ) → ahead W x l k ≡ false → Ahead W x k l
  unfolding ahead
  ahead-no l k e =
      on (ltb (total W x l) (total W x k))
      (λ p. clash (rw p) e)
      (λ p. on (eqb (total W x l) (total W x k))
      (λ q. inr (
        sym (eqb-true _ _ q),
        on (ltb (length l) (length k))
            (λ r. clash (rw (p, q, r)) e)
            (λ r. on (eqb (length l) (length k)) (λ s. inr (sym (eqb-true _ _ s), lex-no l k (rw (p, q, r, s) at e))) (λ s. inl (omega (arith, ltb-false (length l) (length k) r, eqb-false (length l) (length k) s)))),
      ))
      (λ q. inl (omega (arith, ltb-false (total W x l) (total W x k) p, eqb-false (total W x l) (total W x k) q))))

-- no two walks are best
pub best-one : {R : ℕ → ℕ → Type 0} {W : ℕ → ℕ → ℕ} {x y : ℕ} {l k : List ℕ} → Best R W x y l → Best R W x y k → l ≡ k
best-one {W = W} {x = x} {l = l} {k = k} a b = ahead-one W x l k (a.first k b.walk) (b.first l a.walk)

-- ---- a walk without its loops

module _ (R : ℕ → ℕ → Type 0) (W : ℕ → ℕ → ℕ) (y : ℕ) where
  -- from where x stands in the list
  from-there : (x z : ℕ) (l : List ℕ) → Walk R z l y → memb x l ≡ true
      → (k : List ℕ) × (Walk R x k y) × (total W x k ≤ total W z l) × (length k < length l)
  from-there x z [] w e = clash e refl
  from-there x z (v ∷ l) w e =
      on_same x v
      (λ s. (l, subst (λ (i : ℕ). Walk R i l y) (sym s) w.1, omega (arith, ap (λ (i : ℕ). total W i l) s), omega arith))
      (λ ne. let r = from-there x v l w.1 (rw (ne_eqb x v ne) at e) in (r.0, r.1, omega (arith, r.2), omega (arith, r.3)))

  -- each vertex once, or a walk that is no dearer and has fewer steps
  cut : (x : ℕ) (l : List ℕ) → Walk R x l y → Distinct (x ∷ l) ⊎ ((k : List ℕ) × (Walk R x k y) × (total W x k ≤ total W x l) × (length k < length l))
  cut x [] w = inl (refl, tt)
  cut x (v ∷ l) w =
      on (memb x (v ∷ l))
      (λ e. inr (from-there x x (v ∷ l) w e))
      (λ e. ⊎_elim
      (λ (d : Distinct (v ∷ l)). inl (e, d))
      (λ (r : (k : List ℕ) × (Walk R v k y) × (total W v k ≤ total W v l) × (length k < length l)).
      inr (v ∷ r.0, (w.0, r.1), omega (arith, r.2), omega (arith, r.3)))
      (cut v l w.1))

-- each of l is one of vs
abbrev In : List ℕ → List ℕ → Type 0
In vs l = (x : ℕ) → memb x l ≡ true → memb x vs ≡ true

abbrev others : ℕ → List ℕ → List ℕ
others x vs = filter (other_than (λ (i : ℕ). i) x) vs

others-le : (x : ℕ) (vs : List ℕ) → length (others x vs) ≤ length vs
unfolding filter other_than
others-le x [] = omega arith
others-le x (v ∷ vs) = on (eqb v x) (λ e. rw e (omega (arith, others-le x vs))) (λ e. rw e (omega (arith, others-le x vs)))

others-fewer : (x : ℕ) (vs : List ℕ) → memb x vs ≡ true → length (others x vs) < length vs
unfolding filter other_than
others-fewer x [] e = clash e refl
others-fewer x (v ∷ vs) e =
    on (eqb v x)
    (λ p. rw p (omega (arith, others-le x vs)))
    (λ p. rw p (omega (arith, others-fewer x vs (rw (ne_eqb x v (λ q. eqb-false v x p (sym q))) at e))))

others_keep : (x z : ℕ) (vs : List ℕ) → (z ≡ x → ⊥) → memb z vs ≡ true → memb z (others x vs) ≡ true
unfolding filter other_than
others_keep x z [] ne e = clash e refl
others_keep x z (v ∷ vs) ne e =
    on (eqb v x)
    (λ p. rw p (others_keep x z vs ne (rw (ne_eqb z v (λ q. ne (q ∙ eqb-true v x p))) at e)))
    (λ p. rw p (⊎_elim
    (λ (q : eqb z v ≡ true). rw q)
    (λ (q : memb z vs ≡ true). or_right (eqb z v) (memb z (others x vs)) (others_keep x z vs ne q))
    (or-true (eqb z v) (memb z vs) e)))

-- a list of some of vs, none twice, is no longer than vs
crowd : (l vs : List ℕ) → Distinct l → In vs l → length l ≤ length vs
crowd [] vs d h = omega arith
crowd (x ∷ l) vs d h =
    let a : length (others x vs) < length vs = others-fewer x vs (h x (rw (eq-eqb x x refl))) in
    let b : length l ≤ length (others x vs) =
    crowd l (others x vs) d.1 (λ z e. others_keep x z vs (λ (q : z ≡ x). clash e (ap (λ (i : ℕ). memb i l) q ∙ d.0)) (h z (or_right (eqb z x) (memb z l) e))) in
    omega arith

-- ---- what is computed

module _ (W : ℕ → ℕ → ℕ) (x : ℕ) where
  better-left : (l : List ℕ) (q : Option (List ℕ)) → (k : List ℕ) × (better W x (some l) q ≡ some k) × (Ahead W x k l)
  unfolding better
  better-left l none = (l, refl, ahead-refl W x l)
  better-left l (some k) = on (ahead W x l k) (λ e. (l, rw e, ahead-refl W x l)) (λ e. (k, rw e, ahead-no W x l k e))

  better-right : (p : Option (List ℕ)) (l : List ℕ) → (k : List ℕ) × (better W x p (some l) ≡ some k) × (Ahead W x k l)
  unfolding better
  better-right none l = (l, refl, ahead-refl W x l)
  better-right (some k) l = on (ahead W x k l) (λ e. (k, rw e, ahead-yes W x k l e)) (λ e. (l, rw e, ahead-refl W x l))

  better-one : (p q : Option (List ℕ)) (k : List ℕ) → better W x p q ≡ some k → (p ≡ some k) ⊎ (q ≡ some k)
  unfolding better
  better-one none q k e = inr e
  better-one (some l) none k e = inl e
  better-one (some l) (some j) k e = on (ahead W x l j) (λ t. inl (rw t at e)) (λ t. inr (rw t at e))

no-some : {A : Type 0} {C : Type 0} {a : A} → none ≡ some a → C
no-some e = absurd (let z : ◌≡◌ {A = ℕ} 0 1 = cc in omega arith)

-- the relation of the test E
abbrev Steps : (ℕ → ℕ → Bool) → ℕ → ℕ → Type 0
Steps E x v = E x v ≡ true

module _ (E : ℕ → ℕ → Bool) (W : ℕ → ℕ → ℕ) (x : ℕ) (next : ℕ → Option (List ℕ)) where
  onward-sound : (v : ℕ) (b : Bool) (o : Option (List ℕ)) (l : List ℕ) → E x v ≡ b → next v ≡ o → onward b v o ≡ some l
      → (v : ℕ) × (k : List ℕ) × (E x v ≡ true) × (next v ≡ some k) × (l ≡ v ∷ k)
  unfolding onward
  onward-sound v false o l eb eo p = no-some p
  onward-sound v true none l eb eo p = no-some p
  onward-sound v true (some k) l eb eo p = (v, k, eb, eo, cc)

  over-sound : (vs l : List ℕ) → best_over E W x next vs ≡ some l → (v : ℕ) × (k : List ℕ) × (E x v ≡ true) × (next v ≡ some k) × (l ≡ v ∷ k)
  unfolding best_over
  over-sound [] l e = no-some e
  over-sound (v ∷ vs) l e =
      ⊎_elim
      (λ (p : onward (E x v) v (next v) ≡ some l). onward-sound v (E x v) (next v) l refl refl p)
      (λ (p : best_over E W x next vs ≡ some l). over-sound vs l p)
      (better-one W x (onward (E x v) v (next v)) (best_over E W x next vs) l e)

  over-complete : (vs : List ℕ) (v : ℕ) (k : List ℕ) → memb v vs ≡ true → E x v ≡ true → next v ≡ some k
      → (l : List ℕ) × (best_over E W x next vs ≡ some l) × (Ahead W x l (v ∷ k))
  unfolding best_over onward
  over-complete [] v k i e q = clash i refl
  over-complete (u ∷ vs) v k i e q =
      on_same v u
      (λ s.
      let r = better-left W x (v ∷ k) (best_over E W x next vs) in
      (r.0, ap (λ (z : ℕ). better W x (onward (E x z) z (next z)) (best_over E W x next vs)) (sym s) ∙ rw (e, q) r.1, r.2))
      (λ ne.
      let r = over-complete vs v k (rw (ne_eqb v u ne) at i) e q in
      let s = better-right W x (onward (E x u) u (next u)) r.0 in
      (s.0, rw r.1 s.1, ahead-trans W x s.0 r.0 (v ∷ k) s.2 r.2))

module _ (E : ℕ → ℕ → Bool) (W : ℕ → ℕ → ℕ) (vs : List ℕ) (y : ℕ) where
  stay-sound : (x : ℕ) (l : List ℕ) → stay x y ≡ some l → (x ≡ y) × (l ≡ [])
  unfolding stay
  stay-sound x l e = on (eqb x y) (λ t. (eqb-true x y t, let q : some [] ≡ some l = rw t at e in cc)) (λ t. no-some (rw t at e))

  within-sound : (f x : ℕ) (l : List ℕ) → best_within E W vs y f x ≡ some l → Walk (Steps E) x l y
  unfolding best_within
  within-sound zero x l e = let r = stay-sound x l e in subst (λ (k : List ℕ). Walk (Steps E) x k y) (sym r.1) r.0
  within-sound (suc f) x l e =
      ⊎_elim
      (λ (p : stay x y ≡ some l). let r = stay-sound x l p in subst (λ (k : List ℕ). Walk (Steps E) x k y) (sym r.1) r.0)
      (λ (p : best_over E W x (λ v. best_within E W vs y f v) vs ≡ some l).
      let r = over-sound E W x (λ v. best_within E W vs y f v) vs l p in
      subst (λ (k : List ℕ). Walk (Steps E) x k y) (sym r.4) (r.2, within-sound f r.0 r.1 r.3))
      (better-one W x (stay x y) (best_over E W x (λ v. best_within E W vs y f v) vs) l e)

  module _ (into : (u v : ℕ) → E u v ≡ true → memb v vs ≡ true) where
    within-complete : (f x : ℕ) (k : List ℕ) → Walk (Steps E) x k y → length k ≤ f → (l : List ℕ) × (best_within E W vs y f x ≡ some l) × (Ahead W x l k)
    unfolding best_within stay
    within-complete zero x [] w h = ([], rw (eq-eqb x y w), ahead-refl W x [])
    within-complete zero x (v ∷ k) w h = absurd (lt_irrefl 0 (omega arith))
    within-complete (suc f) x [] w h =
        let r = better-left W x [] (best_over E W x (λ v. best_within E W vs y f v) vs) in
        (r.0, rw (eq-eqb x y w) r.1, r.2)
    within-complete (suc f) x (v ∷ k) w h =
        let r = within-complete f v k w.1 (omega arith) in
        let s = over-complete E W x (λ u. best_within E W vs y f u) vs v r.0 (into x v w.0) w.0 r.1 in
        let b = better-right W x (cond (eqb x y) (some []) none) s.0 in
        (b.0, rw s.1 b.1, ahead-trans W x b.0 s.0 (v ∷ k) b.2 (ahead-trans W x s.0 (v ∷ r.0) (v ∷ k) s.2 (ahead_step W x v r.0 k r.2)))

    walk-in : (x : ℕ) (l : List ℕ) → Walk (Steps E) x l y → In vs l
    walk-in x [] w z e = clash e refl
    walk-in x (v ∷ l) w z e = on_same z v (λ s. subst (λ (i : ℕ). memb i vs ≡ true) (sym s) (into x v w.0)) (λ ne. walk-in v l w.1 z (rw (ne_eqb z v ne) at e))

    module _ (x : ℕ) (mine : memb x vs ≡ true) where
      all_in : (l : List ℕ) → Walk (Steps E) x l y → In vs (x ∷ l)
      all_in l w z e = on_same z x (λ s. subst (λ (i : ℕ). memb i vs ≡ true) (sym s) mine) (λ ne. walk-in x l w z (rw (ne_eqb z x ne) at e))

      complete : (b : ℕ) (k : List ℕ) → length k ≤ b → Walk (Steps E) x k y → (l : List ℕ) × (best E W vs x y ≡ some l) × (Ahead W x l k)
      unfolding best
      complete zero k h w = within-complete (length vs) x k w (omega arith)
      complete (suc b) k h w =
          ⊎_elim
          (λ (d : Distinct (x ∷ k)). within-complete (length vs) x k w (omega (arith, crowd (x ∷ k) vs d (all_in k w))))
          (λ (r : (j : List ℕ) × (Walk (Steps E) x j y) × (total W x j ≤ total W x k) × (length j < length k)).
          let s = complete b r.0 (omega (arith, r.3)) r.1 in
          (s.0, s.1, ahead-cut W x s.0 r.0 k s.2 r.2 r.3))
          (cut (Steps E) W y x k w)

      -- where there is a walk, there is a best one, and it is computed
      pub best-found : (k : List ℕ) → Walk (Steps E) x k y → (l : List ℕ) × (best E W vs x y ≡ some l)
      best-found k w = let r = complete (length k) k (omega arith) w in (r.0, r.1)

      best-walks : (l : List ℕ) → best E W vs x y ≡ some l → Walk (Steps E) x l y
      unfolding best
      best-walks l e = within-sound (length vs) x l e

      -- what is computed is best
      pub best-sound : (l : List ℕ) → best E W vs x y ≡ some l → Best (Steps E) W x y l
      best-sound l e = record {
        walk = best-walks l e;
        first = λ k w. let r = complete (length k) k (omega arith) w in
            let q : some r.0 ≡ some l = sym r.1 ∙ e in
            let s : r.0 ≡ l = cc in
            subst (λ (j : List ℕ). Ahead W x j k) s r.2;
      }

      -- what is best is computed
      pub best-computed : (l : List ℕ) → Best (Steps E) W x y l → best E W vs x y ≡ some l
      best-computed l b =
          let r = best-found l b.walk in
          r.1 ∙ ap some (best-one (best-sound r.0 r.1) b)

      -- none is computed where there is no walk, and only then
      pub none-sound : best E W vs x y ≡ none → (k : List ℕ) → Walk (Steps E) x k y → ⊥
      none-sound e k w = let r = best-found k w in no-some (sym e ∙ r.1)

      pub none-computed : ((k : List ℕ) → Walk (Steps E) x k y → ⊥) → best E W vs x y ≡ none
      none-computed h = case (best E W vs x y) refl
        where
          case : (o : Option (List ℕ)) → best E W vs x y ≡ o → best E W vs x y ≡ none
          case none e = e
          case (some l) e = absurd (h l (best-sound l e).walk)

      -- the best walk has each vertex once: fewer steps than there are vertices
      pub best-short : (l : List ℕ) → Best (Steps E) W x y l → length l < length vs
      best-short l b =
          ⊎_elim
          (λ (d : Distinct (x ∷ l)). omega (arith, crowd (x ∷ l) vs d (all_in l b.walk)))
          (λ (r : (j : List ℕ) × (Walk (Steps E) x j y) × (total W x j ≤ total W x l) × (length j < length l)).
          absurd (⊎_elim
          (λ (p : total W x l < total W x r.0). lt_irrefl (total W x l) (omega (arith, r.2)))
          (λ (p : (total W x l ≡ total W x r.0) × ((length l < length r.0) ⊎ ((length l ≡ length r.0) × LexLe l r.0))).
          ⊎_elim (λ (s : length l < length r.0). lt_irrefl (length l) (omega (arith, r.3))) (λ (s : (length l ≡ length r.0) × LexLe l r.0). lt_irrefl (length l) (omega (arith, r.3, s.0))) p.1)
          (b.first r.0 r.1)))
          (cut (Steps E) W y x l b.walk)
