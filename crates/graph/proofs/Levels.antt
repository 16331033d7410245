-- Breadth first lists by number of steps. Assumes nothing.
use mathlib.Core.Path.{◌≡◌, refl, sym, ap, ap₂, ◌∙◌, subst}
use mathlib.Core.Bool.{Bool, true, false, not}
use mathlib.Core.Logic.{◌↔◌}
use mathlib.Core.List.{List, [], ◌∷◌, ◌++◌}
use Prim.Native.Nat.{ℕ, zero, suc, ◌+◌, ◌-◌, ◌≤◌, ◌<◌}
use native.Mathlib.Nat.{not-suc-le-zero, lt_irrefl, le_antisymm}
use native.Mathlib.Omega.{arith}
use lib.Dec.{ltb}
use lib.ListN.{length, get_or, take, length-append, get_or-append}
use lib.Seq.{get_or-append-add, get_or-take, length-take-le}
use borrow.Author.Tests.{ltb-true, ltb-false}
use Rattle.lists.specs.Lists.{memb, filter, Distinct}
use Rattle.lists.specs.Tests.{◌and◌, chosen}
use Rattle.lists.proofs.Cases.{on, on_same, on_below, clash, and_left, and_right}
use Rattle.lists.proofs.Count.{pigeon}
use Rattle.lists.proofs.Kept.{memb-filter}
use Rattle.lists.proofs.Memb.{memb-getD, memb-at, below-memb}
use Rattle.walks.specs.Walks.{Reach, here, step}
use Rattle.graph.specs.Reach.{Edge}
use Rattle.graph.specs.Walk.{ReachIn, start, onward}
use Rattle.graph.specs.Bfs.{spread, run, bfs}
use Rattle.graph.specs.Held.{outside}
use Rattle.graph.proofs.Bfs.{Served, run_more, run_end, run-end-zero, served-first, served-more, bfs-once, bfs-below, bfs-complete}
use Rattle.graph.proofs.Outside.{chosen-below, chosen-memb, distinct-before, spread-outside}

module _ (R : ℕ → ℕ → Type 0) (x : ℕ) where
  steps-reach : {k y : ℕ} → ReachIn R x k y → Reach R x y
  steps-reach start = here
  steps-reach (onward w r) = step (steps-reach w) r

  reach-steps : {y : ℕ} → Reach R x y → (k : ℕ) × ReachIn R x k y
  reach-steps here = (zero, start)
  reach-steps (step w r) = let p = reach-steps w in (suc p.0, onward p.1 r)

  -- y is reached exactly where there is a walk to it of some number of steps
  pub reached-in : (y : ℕ) → Reach R x y ↔ ((k : ℕ) × ReachIn R x k y)
  reached-in y = (reach-steps, λ p. steps-reach p.1)

-- while the queue is served from place k on: it begins with s; each other number is stepped to from a served place; and where a served
-- place steps to a number, no number before that one waits longer for a step to it
pub record Levels (E : ℕ → ℕ → Bool) (s k : ℕ) (q : List ℕ) : Type 0 where
  pub some : 0 < length q
  pub first : get_or q 0 0 ≡ s
  pub parent : (i : ℕ) → 0 < i → i < length q → (p : ℕ) × (p < k) × (E (get_or q p 0) (get_or q i 0) ≡ true)
  pub earlier : (i j a : ℕ) → 0 < i → i ≤ j → j < length q → a < k → E (get_or q a 0) (get_or q j 0) ≡ true → (p : ℕ) × (p ≤ a) × (E (get_or q p 0) (get_or q i 0) ≡ true)

-- no number stands at two places
pub distinct_apart : (l : List ℕ) → Distinct l → (i j : ℕ) → i < j → j < length l → get_or l i 0 ≡ get_or l j 0 → ⊥
distinct_apart l d i j h b e =
    clash (ap (λ (z : ℕ). memb z (take j l)) (sym (get_or-take j l i 0 h ∙ e)) ∙ memb-getD (take j l) i (omega (arith, length-take-le j l (omega arith)))) (distinct-before l j d b)

module _ (E : ℕ → ℕ → Bool) (n s : ℕ) where
  levels-first : Levels E s 0 (s ∷ [])
  levels-first = record {
    some = omega arith;
    first = refl;
    parent = λ i a b. absurd (lt_irrefl i (omega arith));
    earlier = λ i j a _ _ _ l _. absurd (not-suc-le-zero l);
  }

  module _ (k : ℕ) (q : List ℕ) (l : k < length q) (v : Served E n s k q) (g : Levels E s k q) where
    x : ℕ
    x = get_or q k 0

    new : List ℕ
    new = filter (E x) (chosen (outside q) n)

    at_old : (i : ℕ) → i < length q → get_or (q ++ new) i 0 ≡ get_or q i 0
    at_old i h = get_or-append q new 0 i h

    -- what joined has a step from x to it, and was outside
    at_new : (i : ℕ) → length q ≤ i → i < length (q ++ new) → (E x (get_or (q ++ new) i 0) ≡ true) × (get_or (q ++ new) i 0 < n) × (memb (get_or (q ++ new) i 0) q ≡ false)
    unfolding new outside
    at_new i a b =
        let m : ℕ = i - length q in
        let e : length q + m ≡ i = omega arith in
        let y : ℕ = get_or new m 0 in
        let here' : get_or (q ++ new) i 0 ≡ y = ap (λ (z : ℕ). get_or (q ++ new) z 0) (sym e) ∙ get_or-append-add q new m 0 in
        let t : (E x y and memb y (chosen (outside q) n)) ≡ true = sym (memb-filter (E x) y (chosen (outside q) n)) ∙ memb-getD new m (omega (arith, length-append q new)) in
        let c : memb y (chosen (outside q) n) ≡ true = and_right (E x y) _ t in
        let b' : y < n = below-memb n (chosen (outside q) n) (chosen-below (outside q) n n (omega arith)) y c in
        rw here' (and_left (E x y) _ t, b', on (memb y q) (λ p. clash c (chosen-memb (outside q) n y b' ∙ ap not p)) (λ p. p))

    levels-joined : Levels E s (suc k) (q ++ new)
    unfolding x
    levels-joined = record {
      some = omega (arith, length-append q new);
      first = at_old 0 g.some ∙ g.first;
      parent = λ i a b. on_below i (length q) (λ h. from_old i a h) (λ h. (k, omega arith, from-x i h b));
      earlier = λ i j a z b c d e. on_below i (length q)
          (λ h. on_same a k
          (λ q'. let r = from-old' i z h in (r.0, omega (arith, r.1), r.2))
          (λ ne. on_below j (length q)
          (λ h'. let r = g.earlier i j a z b h' (omega arith) (sym (ap₂ E (at_old a (omega arith)) (at_old j h')) ∙ e) in (r.0, r.1, ap₂ E (at_old r.0 (omega (arith, r.1))) (at_old i h) ∙ r.2))
          (λ h'. absurd (late a j (omega arith) h' c e))))
          (λ h. on_same a k
          (λ q'. (k, omega arith, from-x i h (omega arith)))
          (λ ne. absurd (late a j (omega arith) (omega arith) c e)));
    }
      where
        from-x : (i : ℕ) → length q ≤ i → i < length (q ++ new) → E (get_or (q ++ new) k 0) (get_or (q ++ new) i 0) ≡ true
        from-x i h b = ap (λ (z : ℕ). E z (get_or (q ++ new) i 0)) (at_old k l) ∙ (at_new i h b).0

        from-old' : (i : ℕ) → 0 < i → i < length q → (p : ℕ) × (p < k) × (E (get_or (q ++ new) p 0) (get_or (q ++ new) i 0) ≡ true)
        from-old' i a h = let r = g.parent i a h in (r.0, r.1, ap₂ E (at_old r.0 (omega (arith, r.1))) (at_old i h) ∙ r.2)

        from_old : (i : ℕ) → 0 < i → i < length q → (p : ℕ) × (p < suc k) × (E (get_or (q ++ new) p 0) (get_or (q ++ new) i 0) ≡ true)
        from_old i a h = let r = from-old' i a h in (r.0, omega (arith, r.1), r.2)

        -- what a served place steps to is not outside
        late : (a j : ℕ) → a < k → length q ≤ j → j < length (q ++ new) → E (get_or (q ++ new) a 0) (get_or (q ++ new) j 0) ≡ true → ⊥
        late a j h b c e =
            let r = at_new j b c in
            clash (v.done a (get_or (q ++ new) j 0) h r.1 (sym (ap (λ (z : ℕ). E z (get_or (q ++ new) j 0)) (at_old a (omega arith))) ∙ e)) r.2

    levels-more : Levels E s (suc k) (spread E (get_or q k 0) n 0 q)
    unfolding new x
    levels-more = subst (λ (w : List ℕ). Levels E s (suc k) w) (sym (spread-outside E (get_or q k 0) q n)) levels-joined

  run-levels : (f k : ℕ) (q : List ℕ) → n ≤ k + f → Served E n s k q → Levels E s k q → Levels E s (length (run E n f k q)) (run E n f k q)
  run-levels zero k q h v g =
      subst (λ (w : List ℕ). Levels E s (length w) w) (sym (run-end-zero E n s k q))
      (subst (λ (i : ℕ). Levels E s i q) (le_antisymm v.within (omega (arith, pigeon q n v.once v.below))) g)
  run-levels (suc f) k q h v g =
      on (ltb k (length q))
      (λ e.
      let l : k < length q = ltb-true k (length q) e in
      subst (λ (w : List ℕ). Levels E s (length w) w) (sym (run_more E n f k q l))
      (run-levels f (suc k) (spread E (get_or q k 0) n 0 q) (omega arith) (served-more E n s k q l v) (levels-more k q l v g)))
      (λ e.
      let l : length q ≤ k = ltb-false k (length q) e in
      subst (λ (w : List ℕ). Levels E s (length w) w) (sym (run_end E n (suc f) k q l))
      (subst (λ (i : ℕ). Levels E s i q) (le_antisymm v.within l) g))

  module _ (h : s < n) where
    bfs-levels : Levels E s (length (bfs E n s)) (bfs E n s)
    unfolding bfs
    bfs-levels = run-levels n 0 (s ∷ []) (omega arith) (served-first E n s h) levels-first

    at-below : (i : ℕ) → i < length (bfs E n s) → get_or (bfs E n s) i 0 < n
    at-below i l = below-memb n (bfs E n s) (bfs-below E n s h) (get_or (bfs E n s) i 0) (memb-getD (bfs E n s) i l)

    to-first : (ReachIn (Edge E n) s 0 (get_or (bfs E n s) 0 0))
    to-first = subst (λ (z : ℕ). ReachIn (Edge E n) s 0 z) (sym bfs-levels.first) start

    -- what stands before a number is reached by no more steps
    pub bfs-by-steps : {m y : ℕ} → ReachIn (Edge E n) s m y → (i j : ℕ) → i ≤ j → j < length (bfs E n s) → get_or (bfs E n s) j 0 ≡ y
        → (k : ℕ) × (k ≤ m) × ReachIn (Edge E n) s k (get_or (bfs E n s) i 0)
    bfs-by-steps start i j b l e =
        on_same i 0
        (λ z. (0, omega arith, subst (λ (p : ℕ). ReachIn (Edge E n) s 0 (get_or (bfs E n s) p 0)) (sym z) to-first))
        (λ ne. absurd (distinct_apart (bfs E n s) (bfs-once E n s h) 0 j (omega arith) l (bfs-levels.first ∙ sym e)))
    bfs-by-steps (onward {k = m} {y = y} {z = z} w r) i j b l e =
        on_same i 0
        (λ o. (0, omega arith, subst (λ (p : ℕ). ReachIn (Edge E n) s 0 (get_or (bfs E n s) p 0)) (sym o) to-first))
        (λ ne.
        let a = memb-at y (bfs E n s) (bfs-complete E n s h y (steps-reach (Edge E n) s w)) in
        let p = bfs-levels.earlier i j a.0 (omega arith) b l a.1 (ap₂ E a.2 e ∙ r.2) in
        let u = bfs-by-steps w p.0 a.0 p.1 a.1 a.2 in
        (suc u.0, omega (arith, u.1), onward u.2 (at-below p.0 (omega (arith, p.1, a.1)), at-below i (omega arith), p.2)))
