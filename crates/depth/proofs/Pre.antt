-- Depth first in preorder, smallest neighbour first: it lists what is reached from the start, each once. Assumes nothing.
use mathlib.Core.Path.{◌≡◌, refl, sym, ap, ◌∙◌, subst}
use mathlib.Core.Bool.{Bool, true, false, ◌||◌}
use mathlib.Core.List.{◌∷◌}
use Prim.Native.Nat.{ℕ, zero, suc, ◌+◌, ◌-◌, ◌≤◌, ◌<◌}
use native.Mathlib.Nat.{lt_irrefl}
use native.Mathlib.Omega.{arith}
use lib.Dec.{eqb}
use lib.ListN.{length, get_or, replicate, length-set, length-replicate, get_or-replicate}
use lib.Seq.{get_or-set_same, get_or-set_other, append_snoc}
use borrow.Author.Tests.{eq-eqb, eqb-true, ne_eqb}
use Rattle.depth.proofs.Dfs.{free-mark, tried-none, tried-marked, tried-new}
use Rattle.depth.proofs.Finish.{Grown, grown-refl, grown-trans}
use Rattle.depth.specs.Dfs.{Progress, unmarked, tried}
use Rattle.depth.specs.Went.{free}
use Rattle.depth.specs.Finish.{untouched}
use Rattle.graph.specs.Reach.{Edge}
use Rattle.lists.proofs.Cases.{on, on_same, clash, or_right}
use Rattle.lists.proofs.Count.{count-mono, count-le}
use Rattle.lists.proofs.Memb.{memb-self}
use Rattle.lists.specs.Lists.{memb, Distinct}
use Rattle.lists.specs.Inner.{Below}
use Rattle.walks.proofs.Walks.{reach-trans, reach-keeps}
use Rattle.walks.specs.Walks.{Reach, here, step}
use Rattle.depth.specs.Pre.{enter, climbs, walks, preorder}

-- what is newly marked is reached from x, and every step of it leads to what is marked
pub record Full (E : ℕ → ℕ → Bool) (n x : ℕ) (s t : Progress) : Type 0 where
  pub grown : Grown n s t
  pub sound : (v : ℕ) → v < n → unmarked s.marks v ≡ true → unmarked t.marks v ≡ false → Reach (Edge E n) x v
  pub done : (v z : ℕ) → v < n → z < n → unmarked s.marks v ≡ true → unmarked t.marks v ≡ false → E v z ≡ true → unmarked t.marks z ≡ false

-- one step of the k that are untried
pub climbs-step : (E : ℕ → ℕ → Bool) (v : ℕ → Progress → Progress) (n x k : ℕ) (s : Progress) → 0 < k → k ≤ n → climbs E v x k (n - k) s ≡ climbs E v x (k - 1) (n - (k - 1)) (tried E v x (n - k) s)
unfolding climbs
climbs-step E v n x k s l b =
    let e : k ≡ suc (k - 1) = omega arith in
    let j : suc (n - k) ≡ n - (k - 1) = omega arith in
    ap (λ (i : ℕ). climbs E v x i (n - k) s) e ∙ ap (λ (i : ℕ). climbs E v x (k - 1) i (tried E v x (n - k) s)) j

pub climbs-end : (E : ℕ → ℕ → Bool) (v : ℕ → Progress → Progress) (x j : ℕ) (s : Progress) → climbs E v x 0 j s ≡ s
unfolding climbs
climbs-end E v x j s = refl

pub walks_more : (E : ℕ → ℕ → Bool) (n f x : ℕ) (s : Progress) → 0 < f → walks E n f x s ≡ climbs E (walks E n (f - 1)) x n (n - n) (enter x s)
unfolding walks
walks_more E n f x s l =
    let e : f ≡ suc (f - 1) = omega arith in
    let z : 0 ≡ n - n = omega arith in
    ap (λ (i : ℕ). walks E n i x s) e ∙ ap (λ (i : ℕ). climbs E (walks E n (f - 1)) x n i (enter x s)) z

free-falls : (n : ℕ) (s t : Progress) → Grown n s t → free n t.marks ≤ free n s.marks
unfolding free
free-falls n s t g = count-mono (unmarked t.marks) (unmarked s.marks) n (λ i l e. on (unmarked s.marks i) (λ q. q) (λ q. clash e (g.keep i q)))

module _ (E : ℕ → ℕ → Bool) (n : ℕ) where
  full-refl : (x : ℕ) (s : Progress) → Full E n x s s
  full-refl x s = record { grown = grown-refl s; sound = λ v l a b. clash a b; done = λ v z l m a b. clash a b }

  full-trans : (x : ℕ) {s t u : Progress} → Full E n x s t → Full E n x t u → Full E n x s u
  full-trans x {s} {t} {u} g h = record {
    grown = grown-trans g.grown h.grown;
    sound = λ v l a b. on (unmarked t.marks v) (λ q. h.sound v l q b) (λ q. g.sound v l a q);
    done = λ v z l m a b e. on (unmarked t.marks v) (λ q. h.done v z l m q b e) (λ q. h.grown.keep z (g.done v z l m a q e));
  }

  full-step : {x y : ℕ} {s t : Progress} → Edge E n x y → Full E n y s t → Full E n x s t
  full-step e g = record { grown = g.grown; sound = λ v l a b. reach-trans (step here e) (g.sound v l a b); done = g.done }

  module _ (s : Progress) (x : ℕ) (lx : x < n) (b : x < length s.marks) (fresh : unmarked s.marks x ≡ true) where
    marked-x : unmarked (enter x s).marks x ≡ false
    marked-x = ap (λ (i : ℕ). eqb i 0) (get_or-set_same s.marks x 1 0 b)

    other-x : (v : ℕ) → (v ≡ x → ⊥) → unmarked (enter x s).marks v ≡ unmarked s.marks v
    other-x v ne = ap (λ (i : ℕ). eqb i 0) (get_or-set_other s.marks x v 1 0 ne)

    grown-enter : {t : Progress} → Grown n (enter x s) t → Grown n s t
    grown-enter {t} g =
        let absent : memb x g.tail ≡ false = on (memb x g.tail) (λ e. clash (g.new x e).0 marked-x) (λ e. e) in
        let at_x : (v : ℕ) → v ≡ x → unmarked s.marks v ≡ true = λ v q. subst (λ (i : ℕ). unmarked s.marks i ≡ true) (sym q) fresh in
        record {
          tail = x ∷ g.tail;
          out = g.out ∙ append_snoc s.out x g.tail;
          wide = g.wide ∙ length-set s.marks x 1;
          keep = λ v e. on_same v x (λ q. clash (at_x v q) e) (λ ne. g.keep v (other-x v ne ∙ e));
          once = (absent, g.once);
          below = (lx, g.below);
          new = λ v e. on_same v x
              (λ q. (at_x v q, subst (λ (i : ℕ). unmarked t.marks i ≡ false) (sym q) (g.keep x marked-x)))
              (λ ne. let r = g.new v (sym (ap (λ (c : Bool). c || memb v g.tail) (ne_eqb v x ne)) ∙ e) in (sym (other-x v ne) ∙ r.0, r.1));
          all = λ v l a c. on_same v x
              (λ q. subst (λ (i : ℕ). memb i (x ∷ g.tail) ≡ true) (sym q) (memb-self x g.tail))
              (λ ne. or_right (eqb v x) (memb v g.tail) (g.all v l (other-x v ne ∙ a) c));
        }

    full-enter : {t : Progress} → Full E n x (enter x s) t → ((z : ℕ) → z < n → E x z ≡ true → unmarked t.marks z ≡ false) → Full E n x s t
    full-enter {t} g h = record {
      grown = grown-enter g.grown;
      sound = λ v l a c. on_same v x (λ q. subst (λ (i : ℕ). Reach (Edge E n) x i) (sym q) here) (λ ne. g.sound v l (other-x v ne ∙ a) c);
      done = λ v z l m a c e. on_same v x (λ q. h z m (subst (λ (i : ℕ). E i z ≡ true) q e)) (λ ne. g.done v z l m (other-x v ne ∙ a) c e);
    }

  -- a visit with room enough
  abbrev Good : ℕ → (ℕ → Progress → Progress) → Type 0
  Good f v = (x : ℕ) (s : Progress) → x < n → n ≤ length s.marks → unmarked s.marks x ≡ true → free n s.marks ≤ f → Full E n x s (v x s) × (unmarked (v x s).marks x ≡ false)

  full-tried : (f : ℕ) (v : ℕ → Progress → Progress) → Good f v → (x j : ℕ) (s : Progress) → x < n → j < n → n ≤ length s.marks → free n s.marks ≤ f
      → Full E n x s (tried E v x j s) × (E x j ≡ true → unmarked (tried E v x j s).marks j ≡ false)
  full-tried f v h x j s lx lj b r =
      on (E x j)
      (λ e. on (unmarked s.marks j)
      (λ u. let g = h j s lj b u r in rw (tried-new E v x j s e u) (full-step (lx, lj, e) g.0, λ _. g.1))
      (λ u. rw (tried-marked E v x j s u) (full-refl x s, λ _. u)))
      (λ e. rw (tried-none E v x j s e) (full-refl x s, λ t. clash t e))

  full-climbs : (f : ℕ) (v : ℕ → Progress → Progress) → Good f v → (x : ℕ) → x < n → (m j : ℕ) (s : Progress) → j + m ≤ n → n ≤ length s.marks → free n s.marks ≤ f
      → Full E n x s (climbs E v x m j s) × ((z : ℕ) → j ≤ z → z < j + m → E x z ≡ true → unmarked (climbs E v x m j s).marks z ≡ false)
  unfolding climbs
  full-climbs f v h x lx zero j s l b r = (full-refl x s, λ z a c e. absurd (lt_irrefl z (omega arith)))
  full-climbs f v h x lx (suc m) j s l b r =
      let t : Progress = tried E v x j s in
      let g = full-tried f v h x j s lx (omega arith) b r in
      let k = full-climbs f v h x lx m (suc j) t (omega arith) (omega (arith, g.0.grown.wide)) (omega (arith, free-falls n s t g.0.grown)) in (
        full-trans x g.0 k.0,
        λ z a c e. on_same z j
            (λ q. k.0.grown.keep z (subst (λ (i : ℕ). unmarked t.marks i ≡ false) (sym q) (g.1 (subst (λ (i : ℕ). E x i ≡ true) q e))))
            (λ ne. k.1 z (omega arith) (omega arith) e),
      )

  full_walks : (f : ℕ) → Good f (walks E n f)
  unfolding walks
  full_walks zero x s l b u r = absurd (lt_irrefl 0 (omega (arith, free-mark n x s.marks l (omega arith) (eqb-true (get_or s.marks x 0) 0 u))))
  full_walks (suc f) x s l b u r =
      let s₁ : Progress = enter x s in
      let fewer = free-mark n x s.marks l (omega arith) (eqb-true (get_or s.marks x 0) 0 u) in
      let k = full-climbs f (walks E n f) (full_walks f) x l n 0 s₁ (omega arith) (omega (arith, length-set s.marks x 1)) (omega (arith, fewer)) in
      (full-enter s x l (omega arith) u k.0 (λ z lz e. k.1 z (omega arith) (omega arith) e), k.0.grown.keep x (marked-x s x l (omega arith) u))

  module _ (small : n ≤ 256) (x : ℕ) (lx : x < n) where
    zeros : (v : ℕ) → v < n → unmarked untouched.marks v ≡ true
    zeros v l = eq-eqb (get_or (replicate 256 0) v 0) 0 (get_or-replicate {A = ℕ} 256 v 0 0 (omega arith))

    all : Full E n x untouched (walks E n n x untouched) × (unmarked (walks E n n x untouched).marks x ≡ false)
    unfolding free
    all = full_walks n x untouched lx (omega (arith, length-replicate {A = ℕ} 256 0)) (zeros x lx) (count-le (unmarked untouched.marks) n)

    pub preorder-once : Distinct (preorder E n x)
    unfolding preorder
    preorder-once = subst Distinct (sym all.0.grown.out) all.0.grown.once

    pub preorder-below : Below n (preorder E n x)
    unfolding preorder
    preorder-below = subst (Below n) (sym all.0.grown.out) all.0.grown.below

    pub preorder-sound : (y : ℕ) → y < n → memb y (preorder E n x) ≡ true → Reach (Edge E n) x y
    unfolding preorder
    preorder-sound y l e =
        let m : memb y all.0.grown.tail ≡ true = ap (memb y) (sym all.0.grown.out) ∙ e in
        all.0.sound y l (zeros y l) (all.0.grown.new y m).1

    pub preorder-complete : (y : ℕ) → y < n → Reach (Edge E n) x y → memb y (preorder E n x) ≡ true
    unfolding preorder
    preorder-complete y l w =
        let t : Progress = walks E n n x untouched in
        let marked : unmarked t.marks y ≡ false =
        reach-keeps (λ z. unmarked t.marks z ≡ false) all.1
        (λ a c p e. all.0.done a c e.0 e.1 (zeros a e.0) p e.2) w in
        ap (memb y) all.0.grown.out ∙ all.0.grown.all y l (zeros y l) marked
