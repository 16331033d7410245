-- What a depth first search does: it lists the numbers that it marks, each once. Assumes nothing.
use mathlib.Core.Path.{◌≡◌, refl, sym, ap, ◌∙◌, subst}
use mathlib.Core.Bool.{Bool, true, false, ◌||◌}
use mathlib.Core.Logic.{⊎_elim}
use mathlib.Core.List.{List, [], ◌∷◌, ◌++◌, append_assoc, append-nil}
use Prim.Native.Nat.{ℕ, zero, suc, ◌+◌, ◌-◌, ◌≤◌, ◌<◌}
use native.Mathlib.Nat.{lt_irrefl}
use native.Mathlib.Numerals.{add-one}
use native.Mathlib.Omega.{arith}
use lib.Dec.{eqb}
use lib.ListN.{length, get_or, replicate, length-set, length-replicate, get_or-replicate}
use lib.Seq.{get_or-set_same, get_or-set_other}
use borrow.Author.Tests.{eq-eqb}
use Rattle.depth.proofs.Dfs.{tried-none, tried-marked, tried-new}
use Rattle.depth.specs.Dfs.{Progress, unmarked, mark, enlist, tried, tries, visits}
use Rattle.lists.proofs.Cases.{on, on_same, clash, or-true, or_right}
use Rattle.lists.proofs.Memb.{memb-append, memb-self, memb-snoc, memb-snoc-self, memb-left, distinct_snoc, below-snoc}
use Rattle.lists.specs.Lists.{memb, Distinct}
use Rattle.lists.specs.Inner.{Below}
use Rattle.depth.specs.Finish.{start_at, sweep, untouched, finished}

-- from one state to another: the numbers that are newly marked are those that are newly listed, each once
pub record Grown (n : ℕ) (s t : Progress) : Type 0 where
  pub tail : List ℕ
  pub out : t.out ≡ s.out ++ tail
  pub wide : length t.marks ≡ length s.marks
  pub keep : (v : ℕ) → unmarked s.marks v ≡ false → unmarked t.marks v ≡ false
  pub once : Distinct tail
  pub below : Below n tail
  pub new : (v : ℕ) → memb v tail ≡ true → (unmarked s.marks v ≡ true) × (unmarked t.marks v ≡ false)
  pub all : (v : ℕ) → v < n → unmarked s.marks v ≡ true → unmarked t.marks v ≡ false → memb v tail ≡ true

-- what a visit needs: its number is below n, and not marked; the marks are as many as n or more
abbrev pub Visit : ℕ → (ℕ → Progress → Progress) → Type 0
Visit n v = (x : ℕ) (s : Progress) → x < n → n ≤ length s.marks → unmarked s.marks x ≡ true → Grown n s (v x s)

-- two lists with no number in common
pub distinct_append : (a b : List ℕ) → Distinct a → Distinct b → ((v : ℕ) → memb v a ≡ true → memb v b ≡ false) → Distinct (a ++ b)
distinct_append [] b da db h = db
distinct_append (x ∷ a) b da db h = (
  memb-append x a b ∙ ap (λ (t : Bool). t || memb x b) da.0 ∙ h x (memb-self x a),
  distinct_append a b da.1 db (λ v e. h v (or_right (eqb v x) (memb v a) e)),
)

below-append : (n : ℕ) (a b : List ℕ) → Below n a → Below n b → Below n (a ++ b)
below-append n [] b p q = q
below-append n (x ∷ a) b p q = (p.0, below-append n a b p.1 q)

module _ {n : ℕ} where
  pub grown-refl : (s : Progress) → Grown n s s
  grown-refl s = record {
    tail = [];
    out = sym (append-nil s.out);
    wide = refl;
    keep = λ v e. e;
    once = tt;
    below = tt;
    new = λ v e. clash e refl;
    all = λ v l a b. clash a b;
  }

  pub grown-trans : {s t u : Progress} → Grown n s t → Grown n t u → Grown n s u
  grown-trans {s} {t} {u} g h = record {
    tail = g.tail ++ h.tail;
    out = h.out ∙ ap (λ (l : List ℕ). l ++ h.tail) g.out ∙ append_assoc s.out g.tail h.tail;
    wide = h.wide ∙ g.wide;
    keep = λ v e. h.keep v (g.keep v e);
    once = distinct_append g.tail h.tail g.once h.once
        (λ v e. on (memb v h.tail) (λ f. clash (h.new v f).0 (g.new v e).1) (λ f. f));
    below = below-append n g.tail h.tail g.below h.below;
    new = λ v e. ⊎_elim
        (λ (a : memb v g.tail ≡ true). ((g.new v a).0, h.keep v (g.new v a).1))
        (λ (a : memb v h.tail ≡ true).
        (on (unmarked s.marks v) (λ q. q) (λ q. clash (h.new v a).0 (g.keep v q)), (h.new v a).1))
        (or-true (memb v g.tail) (memb v h.tail) (sym (memb-append v g.tail h.tail) ∙ e));
    all = λ v l a b. memb-append v g.tail h.tail ∙ on (unmarked t.marks v)
        (λ q. or_right (memb v g.tail) (memb v h.tail) (h.all v l q b))
        (λ q. ap (λ (x : Bool). x || memb v h.tail) (g.all v l a q));
  }

  module _ (s : Progress) (x : ℕ) (lx : x < n) (b : x < length s.marks) (fresh : unmarked s.marks x ≡ true) where
    marked-x : unmarked (mark x s).marks x ≡ false
    marked-x = ap (λ (i : ℕ). eqb i 0) (get_or-set_same s.marks x 1 0 b)

    other-x : (v : ℕ) → (v ≡ x → ⊥) → unmarked (mark x s).marks v ≡ unmarked s.marks v
    other-x v ne = ap (λ (i : ℕ). eqb i 0) (get_or-set_other s.marks x v 1 0 ne)

    -- x is marked, then others, and then x is listed
    grown-visit : {t : Progress} → Grown n (mark x s) t → Grown n s (enlist x t)
    grown-visit {t} g =
        let absent : memb x g.tail ≡ false = on (memb x g.tail) (λ e. clash (g.new x e).0 marked-x) (λ e. e) in
        record {
          tail = g.tail ++ (x ∷ []);
          out = ap (λ (l : List ℕ). l ++ (x ∷ [])) g.out ∙ append_assoc s.out g.tail (x ∷ []);
          wide = g.wide ∙ length-set s.marks x 1;
          keep = λ v e. on_same v x (λ q. clash (subst (λ (i : ℕ). unmarked s.marks i ≡ true) (sym q) fresh) e) (λ ne. g.keep v (other-x v ne ∙ e));
          once = distinct_snoc g.tail x g.once absent;
          below = below-snoc n g.tail x g.below lx;
          new = λ v e. ⊎_elim
              (λ (a : memb v g.tail ≡ true).
              (on_same v x (λ q. subst (λ (i : ℕ). unmarked s.marks i ≡ true) (sym q) fresh) (λ ne. sym (other-x v ne) ∙ (g.new v a).0), (g.new v a).1))
              (λ (a : v ≡ x).
              (subst (λ (i : ℕ). unmarked s.marks i ≡ true) (sym a) fresh, subst (λ (i : ℕ). unmarked t.marks i ≡ false) (sym a) (g.keep x marked-x)))
              (memb-snoc v x g.tail e);
          all = λ v l a c. on_same v x
              (λ q. subst (λ (i : ℕ). memb i (g.tail ++ (x ∷ [])) ≡ true) (sym q) (memb-snoc-self x g.tail))
              (λ ne. memb-left v g.tail (x ∷ []) (g.all v l (other-x v ne ∙ a) c));
        }

module _ (E : ℕ → ℕ → Bool) (n : ℕ) where
  grown-tried : (v : ℕ → Progress → Progress) → Visit n v → (x k : ℕ) (s : Progress) → k < n → n ≤ length s.marks → Grown n s (tried E v x k s)
  grown-tried v h x k s l b =
      on (E x k)
      (λ e. on (unmarked s.marks k)
      (λ u. rw (tried-new E v x k s e u) (h k s l b u))
      (λ u. rw (tried-marked E v x k s u) (grown-refl s)))
      (λ e. rw (tried-none E v x k s e) (grown-refl s))

  grown-tries : (v : ℕ → Progress → Progress) → Visit n v → (x k : ℕ) (s : Progress) → k ≤ n → n ≤ length s.marks → Grown n s (tries E v x k s)
  unfolding tries
  grown-tries v h x zero s l b = grown-refl s
  grown-tries v h x (suc k) s l b =
      let g = grown-tried v h x k s (omega arith) b in
      grown-trans g (grown-tries v h x k (tried E v x k s) (omega arith) (omega (arith, g.wide)))

  pub grown-visits : (f : ℕ) → Visit n (visits E n f)
  unfolding visits
  grown-visits zero x s l b u = grown-refl s
  grown-visits (suc f) x s l b u =
      grown-visit s x l (omega arith) u
      (grown-tries (visits E n f) (grown-visits f) x n (mark x s) (omega arith) (omega (arith, length-set s.marks x 1)))

  -- from ascending starts
  pub marked-visits : (f x : ℕ) (s : Progress) → x < n → n ≤ length s.marks → unmarked s.marks x ≡ true → unmarked (visits E n (suc f) x s).marks x ≡ false
  unfolding visits
  marked-visits f x s l b u =
      let g = grown-tries (visits E n f) (grown-visits f) x n (mark x s) (omega arith) (omega (arith, length-set s.marks x 1)) in
      g.keep x (marked-x s x l (omega arith) u)

module _ (E : ℕ → ℕ → Bool) (n : ℕ) where
  pub start-new : (f x : ℕ) (s : Progress) → unmarked s.marks x ≡ true → start_at E n f x s ≡ visits E n f x s
  unfolding start_at
  start-new f x s e = rw e

  pub start-old : (f x : ℕ) (s : Progress) → unmarked s.marks x ≡ false → start_at E n f x s ≡ s
  unfolding start_at
  start-old f x s e = rw e

  pub sweep-step : (x : ℕ) (s : Progress) → x < n → sweep E n (n - x) x s ≡ sweep E n (n - (x + 1)) (x + 1) (start_at E n n x s)
  unfolding sweep
  sweep-step x s l =
      let e : n - x ≡ suc (n - (x + 1)) = omega arith in
      rw (e, add-one x)

  pub sweep-end : (x : ℕ) (s : Progress) → n ≤ x → sweep E n (n - x) x s ≡ s
  unfolding sweep
  sweep-end x s l =
      let e : n - x ≡ 0 = omega arith in
      rw e

  start-grown : (x : ℕ) (s : Progress) → x < n → n ≤ length s.marks → Grown n s (start_at E n n x s) × (unmarked (start_at E n n x s).marks x ≡ false)
  start-grown x s l b =
      on (unmarked s.marks x)
      (λ e.
      let q : suc (n - 1) ≡ n = omega arith in
      rw (start-new n x s e)
      (grown-visits E n n x s l b e, subst (λ (f : ℕ). unmarked (visits E n f x s).marks x ≡ false) q (marked-visits E n (n - 1) x s l b e)))
      (λ e. rw (start-old n x s e) (grown-refl s, e))

  sweep-grown : (m x : ℕ) (s : Progress) → x + m ≤ n → n ≤ length s.marks → Grown n s (sweep E n m x s) × ((v : ℕ) → x ≤ v → v < x + m → unmarked (sweep E n m x s).marks v ≡ false)
  unfolding sweep
  sweep-grown zero x s l b = (grown-refl s, λ v a c. absurd (lt_irrefl v (omega arith)))
  sweep-grown (suc m) x s l b =
      let g = start-grown x s (omega arith) b in
      let h = sweep-grown m (suc x) (start_at E n n x s) (omega arith) (omega (arith, g.0.wide)) in
      (grown-trans g.0 h.0, λ v a c. on_same v x (λ q. h.0.keep v (subst (λ (i : ℕ). unmarked (start_at E n n x s).marks i ≡ false) (sym q) g.1)) (λ ne. h.1 v (omega arith) (omega arith)))

  module _ (small : n ≤ 256) where
    sweep-all : Grown n untouched (sweep E n n 0 untouched) × ((v : ℕ) → 0 ≤ v → v < 0 + n → unmarked (sweep E n n 0 untouched).marks v ≡ false)
    sweep-all = sweep-grown n 0 untouched (omega arith) (omega (arith, length-replicate {A = ℕ} 256 0))

    -- every number below n is finished, once
    pub finished-once : Distinct (finished E n)
    unfolding finished
    finished-once = subst Distinct (sym sweep-all.0.out) sweep-all.0.once

    pub finished-below : Below n (finished E n)
    unfolding finished
    finished-below = subst (Below n) (sym sweep-all.0.out) sweep-all.0.below

    pub finished-all : (v : ℕ) → v < n → memb v (finished E n) ≡ true
    unfolding finished
    finished-all v l =
        let z : ◌≡◌ {A = ℕ} (get_or (replicate 256 0) v 0) 0 = get_or-replicate {A = ℕ} 256 v 0 0 (omega arith) in
        ap (memb v) sweep-all.0.out ∙ sweep-all.0.all v l (eq-eqb (get_or (replicate 256 0) v 0) 0 z) (sweep-all.1 v (omega arith) (omega arith))
