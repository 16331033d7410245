-- Blocks of 16 numbers: the least key of a block, the block of least key and its number; a label and a settled number. Assumes nothing.
use mathlib.Core.Path.{◌≡◌, refl, sym, ap, ◌∙◌, subst}
use mathlib.Core.Bool.{Bool, true, false}
use mathlib.Core.Logic.{◌⊎◌, ⊎_elim}
use mathlib.Core.List.{List}
use Prim.Native.Nat.{ℕ, ◌+◌, ◌-◌, ◌*◌, ◌/◌, ◌≤◌, ◌<◌}
use native.Mathlib.Nat.{lt_irrefl, le_antisymm}
use native.Mathlib.Omega.{arith}
use lib.Dec.{eqb}
use lib.ListN.{length, get_or, set, length-set, replicate, get_or-replicate}
use lib.Seq.{get_or-set_same, get_or-set_other, set-get_or}
use borrow.Author.Count.{below_more}
use borrow.Author.Tests.{eq-eqb, ne_eqb, eqb-true}
use Rattle.lists.proofs.Cases.{on, on_same, on_below, clash}
use Rattle.order.specs.Least.{least}
use Rattle.order.proofs.Least.{least-hit, least-le, least-found, least_step, least-end}
use Rattle.distance.specs.Labels.{Nearest}
use Rattle.distance.specs.Blocks.{far_key, Open, Block, Blocks, Nearer, Lowest, has_key}

-- ---- the key of one number

module _ (mark : ℕ) where
  pub far_none : mark ≡ 1 → 0 ≡ far_key mark
  unfolding far_key
  far_none e = rw (eq-eqb mark 1 e)

  pub far-off : (mark ≡ 1 → ⊥) → 9223372036854775808 ≡ far_key mark
  unfolding far_key
  far-off e = rw (ne_eqb mark 1 e)

-- f is what `far` found
module _ (mark key f : ℕ) (e : f ≡ far_key mark) where
  pub open-far : key < f → Open mark key f
  open-far l = record { yes = λ o. absurd (lt_irrefl 0 (omega (arith, e, far_none mark o))); no = λ o. omega (arith, e, far-off mark o) }

  pub open-near : f ≤ key → Open mark key key
  open-near l = record { yes = λ _. refl; no = λ o. omega (arith, e, far-off mark o) }

-- ---- the key of a block

module _ (m d : List ℕ) (j : ℕ) where
  pub block-first : Block (j * 16) m d j 9223372036854775808
  block-first = record {
    under = λ v l i. absurd (lt_irrefl v (omega (arith, i)));
    some = λ l. absurd (lt_irrefl 9223372036854775808 l);
  }

  -- e is what `block_end` found, k what `open_key` found of v, r what `lesser` found
  pub block_more : (n e v key : ℕ) → Block v m d j key → (j * 16 ≤ e) × (e ≤ n) × (e ≤ j * 16 + 16) × ((e ≡ n) ⊎ (e ≡ j * 16 + 16)) → j * 16 ≤ v → v < e → (k : ℕ) → Open (get_or m v 0) (get_or d v 0) k
      → (r : ℕ) → (r ≤ key) × (r ≤ k) × ((r ≡ key) ⊎ (r ≡ k)) → Block (v + 1) m d j r
  block_more n e v key h z a b k o r q = record {
    under = below_more (λ i. i / 16 ≡ j → get_or m i 0 ≡ 1 → r ≤ get_or d i 0) v
        (λ i l f t. omega (arith, q.0, h.under i l f t))
        (λ f t. omega (arith, q.1, o.yes t));
    some = λ l. ⊎_elim
        (λ (f : r ≡ key). let s = h.some (omega arith) in (s.0, omega (arith, s.1), s.2, s.3, s.4 ∙ sym f))
        (λ (f : r ≡ k). on_same (get_or m v 0) 1
        (λ t. (v, omega arith, omega (arith, z.2), t, sym (o.yes t) ∙ sym f))
        (λ t. absurd (lt_irrefl r (omega (arith, o.no t)))))
        q.2;
  }

  -- e is what `block_end` found
  pub block-end : (n e v key : ℕ) → Block v m d j key → (j * 16 ≤ e) × (e ≤ n) × (e ≤ j * 16 + 16) × ((e ≡ n) ⊎ (e ≡ j * 16 + 16)) → v ≤ e → e ≤ v → Block n m d j key
  block-end n e v key h q a b = record {
    under = λ i l t. h.under i (⊎_elim (λ (p : e ≡ n). omega arith) (λ (p : e ≡ j * 16 + 16). omega (arith, t)) q.3) t;
    some = λ l. let s = h.some l in (s.0, omega (arith, s.1, q.1), s.2, s.3, s.4);
  }

-- ---- the block of least key

pub lowest-first : (b : List ℕ) → Lowest b 1 0 (get_or b 0 0)
lowest-first b = record {
  within = omega arith;
  here = refl;
  least = λ j l. let e : j ≡ 0 = omega arith in omega (arith, ap (λ (i : ℕ). get_or b i 0) e);
}

-- next and k are what `nearer` found
pub lowest-more : (b : List ℕ) (j at key : ℕ) → Lowest b j at key → j < 16 → (next k : ℕ) → Nearer at key j (get_or b j 0) next k → Lowest b (j + 1) next k
lowest-more b j at key h l next k q =
    on_below (get_or b j 0) key
    (λ s. let r = q.less s in record {
      within = omega (arith, r.0);
      here = r.1 ∙ ap (λ (i : ℕ). get_or b i 0) (sym r.0);
      least = below_more (λ i. k ≤ get_or b i 0) j (λ i li. omega (arith, r.1, h.least i li)) (omega (arith, r.1));
    })
    (λ s. let r = q.kept s in record {
      within = omega (arith, r.0, h.within);
      here = r.1 ∙ h.here ∙ ap (λ (i : ℕ). get_or b i 0) (sym r.0);
      least = below_more (λ i. k ≤ get_or b i 0) j (λ i li. omega (arith, r.1, h.least i li)) (omega (arith, r.1));
    })

pub lowest-end : (b : List ℕ) (j at key : ℕ) → Lowest b j at key → j ≤ 16 → 16 ≤ j → Lowest b 16 at key
lowest-end b j at key h x y = subst (λ (i : ℕ). Lowest b i at key) (le_antisymm x y) h

-- ---- the number of that key

module _ (m d : List ℕ) (key v : ℕ) where
  pub has-no-mark : (get_or m v 0 ≡ 1 → ⊥) → false ≡ has_key m d key v
  unfolding has_key
  has-no-mark f = rw (ne_eqb (get_or m v 0) 1 f)

  pub has-key : get_or m v 0 ≡ 1 → eqb (get_or d v 0) key ≡ has_key m d key v
  unfolding has_key
  has-key e = rw (eq-eqb (get_or m v 0) 1 e)

  key_has : has_key m d key v ≡ true → (get_or m v 0 ≡ 1) × (get_or d v 0 ≡ key)
  unfolding has_key
  key_has t = on (eqb (get_or m v 0) 1) (λ e. (eqb-true (get_or m v 0) 1 e, eqb-true (get_or d v 0) key (rw e at t))) (λ e. clash t (rw e))

  key-is : get_or m v 0 ≡ 1 → get_or d v 0 ≡ key → has_key m d key v ≡ true
  key-is e f = sym (has-key e) ∙ eq-eqb (get_or d v 0) key f

-- the search for it: what is left is the whole; b is what `has_key` found of v
module _ (m d : List ℕ) (key n v whole : ℕ) (h : least (has_key m d key) (n - v) v ≡ whole) where
  pub first-here : (b : Bool) → b ≡ has_key m d key v → v < n → b ≡ true → v ≡ whole
  first-here b e l t = sym (least-found (has_key m d key) n v l (sym e ∙ t)) ∙ h

  pub first_step : (b : Bool) → b ≡ has_key m d key v → v < n → b ≡ false → least (has_key m d key) (n - (v + 1)) (v + 1) ≡ whole
  first_step b e l t = sym (least_step (has_key m d key) n v l (sym e ∙ t)) ∙ h

  pub first-end : v ≤ n → n ≤ v → n ≡ whole
  first-end l e = let s : n ≡ v = omega arith in s ∙ sym (least-end (has_key m d key) n v e) ∙ h

-- at and key are what `lowest` found, r what `first_of` found
module _ (n : ℕ) (m d b : List ℕ) (small : n ≤ 256) (h : Blocks n m d b) (at key : ℕ) (q : Lowest b 16 at key) where
  reach : (v : ℕ) → v < n → get_or m v 0 ≡ 1 → key ≤ get_or d v 0
  reach v l t = omega (arith, q.least (v / 16) (omega arith), (h.block (v / 16) (omega arith)).under v l refl t)

  pub pick-none : ((v : ℕ) → v < n → get_or m v 0 ≡ 1 → get_or d v 0 < 9223372036854775808) → 9223372036854775808 ≤ key → Nearest n m d n
  pick-none low f = record {
    small = omega arith;
    some = λ l. absurd (lt_irrefl n l);
    none = λ _ v l t. lt_irrefl key (omega (arith, reach v l t, low v l t));
    least = λ l. absurd (lt_irrefl n l);
  }

  module _ (f : key < 9223372036854775808) where
    there : (v : ℕ) × (v < n) × (v / 16 ≡ at) × (get_or m v 0 ≡ 1) × (get_or d v 0 ≡ get_or b at 0)
    there = (h.block at q.within).some (omega (arith, q.here))

    pub pick-from : at * 16 ≤ n
    pick-from = omega (arith, there.1, there.2)

    pub pick_some : (r : ℕ) → r ≡ least (has_key m d key) (n - at * 16) (at * 16) → Nearest n m d r
    pick_some r e =
        let s = there in
        let le : r ≤ s.0 =
        omega (arith, e, least-le (has_key m d key) (n - at * 16) (at * 16) s.0 (omega (arith, s.2)) (omega (arith, s.1, s.2)) (key-is m d key s.0 s.3 (s.4 ∙ sym q.here))) in
        let lr : r < n = omega (arith, s.1) in
        let k = key_has m d key r (subst (λ (i : ℕ). has_key m d key i ≡ true) (sym e) (least-hit (has_key m d key) (n - at * 16) (at * 16) (omega (arith, e, pick-from)))) in
        record {
          small = omega arith;
          some = λ _. k.0;
          none = λ l. absurd (lt_irrefl n (omega arith));
          least = λ _ v l t. omega (arith, k.1, reach v l t);
        }

-- ---- the blocks while numbers are labelled and settled

pub blocks-none : (n : ℕ) (m d : List ℕ) → ((v : ℕ) → v < n → get_or m v 0 ≡ 0) → Blocks n m d (replicate 16 9223372036854775808)
blocks-none n m d none = record {
  sized = refl;
  block = λ j lj. record {
    under = λ v l i t. absurd (lt_irrefl 0 (omega (arith, none v l, t)));
    some = λ l. absurd (lt_irrefl 9223372036854775808 (omega (arith, get_or-replicate {A = ℕ} 16 j 9223372036854775808 0 lj)));
  };
}

-- what another block has of a number that is set
module _ (n : ℕ) (m d : List ℕ) (v x y : ℕ) where
  block-other : {j key : ℕ} → (v / 16 ≡ j → ⊥) → Block n m d j key → Block n (set m v x) (set d v y) j key
  block-other {j} {key} ne h = record {
    under = λ i l e t. let a = apart i e in omega (arith, get_or-set_other d v i y 0 a, h.under i l e (sym (get_or-set_other m v i x 0 a) ∙ t));
    some = λ l. let s = h.some l in
        let a = apart s.0 s.2 in
        (s.0, s.1, s.2, get_or-set_other m v s.0 x 0 a ∙ s.3, get_or-set_other d v s.0 y 0 a ∙ s.4);
  }
    where
      apart : (i : ℕ) → i / 16 ≡ j → i ≡ v → ⊥
      apart i e q = ne (ap (λ (z : ℕ). z / 16) (sym q) ∙ e)

-- r is what `lesser` found of the key of its block
module _ (n v key : ℕ) (m d b : List ℕ) (small : n ≤ 256) (lv : v < n) (wide : length m ≡ 256) (long : length d ≡ 256)
    (low : get_or m v 0 ≡ 1 → key ≤ get_or d v 0) (h : Blocks n m d b) where
  pub blocks-label : (r : ℕ) → (r ≤ get_or b (v / 16) 0) × (r ≤ key) × ((r ≡ get_or b (v / 16) 0) ⊎ (r ≡ key)) → Blocks n (set m v 1) (set d v key) (set b (v / 16) r)
  blocks-label r q = record {
    sized = length-set b (v / 16) r ∙ h.sized;
    block = λ j lj. on_same (v / 16) j
        (λ e. subst (λ (k : ℕ). Block n (set m v 1) (set d v key) j k) (sym (ap (λ (i : ℕ). get_or (set b (v / 16) r) i 0) (sym e) ∙ get_or-set_same b (v / 16) r 0 (omega (arith, h.sized))))
        (subst (λ (i : ℕ). Block n (set m v 1) (set d v key) i r) e own))
        (λ ne. subst (λ (k : ℕ). Block n (set m v 1) (set d v key) j k) (sym (get_or-set_other b (v / 16) j r 0 (λ e. ne (sym e)))) (block-other n m d v 1 key ne (h.block j lj)));
  }
    where
      old : Block n m d (v / 16) (get_or b (v / 16) 0)
      old = h.block (v / 16) (omega arith)

      mark : get_or (set m v 1) v 0 ≡ 1
      mark = get_or-set_same m v 1 0 (omega arith)

      here : get_or (set d v key) v 0 ≡ key
      here = get_or-set_same d v key 0 (omega arith)

      own : Block n (set m v 1) (set d v key) (v / 16) r
      own = record {
        under = λ i l e t. on_same i v
            (λ s. omega (arith, q.1, here, ap (λ (z : ℕ). get_or (set d v key) z 0) s))
            (λ ne. omega (arith, q.0, get_or-set_other d v i key 0 ne, old.under i l e (sym (get_or-set_other m v i 1 0 ne) ∙ t)));
        some = λ l. ⊎_elim
            (λ (e : r ≡ get_or b (v / 16) 0).
            let s = old.some (omega arith) in
            on_same s.0 v
            (λ p.
            let k : key ≤ get_or d v 0 = low (ap (λ (z : ℕ). get_or m z 0) (sym p) ∙ s.3) in
            (v, lv, refl, mark, here ∙ omega (arith, q.1, s.4, ap (λ (z : ℕ). get_or d z 0) p)))
            (λ ne. (s.0, s.1, s.2, get_or-set_other m v s.0 1 0 ne ∙ s.3, get_or-set_other d v s.0 key 0 ne ∙ s.4 ∙ sym e)))
            (λ (e : r ≡ key). (v, lv, refl, mark, here ∙ sym e))
            q.2;
      }

-- key is what `block_key` found of the block of u
pub blocks-settle : (n u : ℕ) (m d b : List ℕ) → n ≤ 256 → u < n → Blocks n m d b → (key : ℕ) → Block n (set m u 2) d (u / 16) key → Blocks n (set m u 2) d (set b (u / 16) key)
blocks-settle n u m d b small lu h key k = record {
  sized = length-set b (u / 16) key ∙ h.sized;
  block = λ j lj. on_same (u / 16) j
      (λ e. subst (λ (x : ℕ). Block n (set m u 2) d j x) (sym (ap (λ (i : ℕ). get_or (set b (u / 16) key) i 0) (sym e) ∙ get_or-set_same b (u / 16) key 0 (omega (arith, h.sized))))
      (subst (λ (i : ℕ). Block n (set m u 2) d i key) e k))
      (λ ne. subst (λ (x : ℕ). Block n (set m u 2) d j x) (sym (get_or-set_other b (u / 16) j key 0 (λ e. ne (sym e))))
      (subst (λ (l : List ℕ). Block n (set m u 2) l j (get_or b j 0)) (set-get_or d u 0) (block-other n m d u 2 (get_or d u 0) ne (h.block j lj))));
}
