-- Laws of the matrix that has a value for each pair of records, and of the weights by place. Assumes nothing.
use mathlib.Core.Path.{◌≡◌, refl, sym, ap, ◌∙◌, subst}
use mathlib.Core.Bool.{Bool, not, cond}
use mathlib.Core.List.{List}
use Prim.Native.Nat.{ℕ, zero, suc, ◌+◌, ◌*◌, ◌≤◌, ◌<◌}
use native.Mathlib.Nat.{lt_irrefl, not-suc-le-zero, le_antisymm}
use native.Mathlib.Omega.{arith}
use lib.Dec.{eqb, ltb}
use lib.ListN.{get_or, set, length-set, replicate, length-replicate, get_or-replicate, get_or-eq_default}
use lib.Seq.{get_or-set_same, get_or-set_other, set-get_or}
use borrow.Author.Tests.{eq-eqb, lt-ltb, ltb-true, le-ltb}
use Rattle.steps.proofs.Holds.{cells-apart}
use Rattle.lists.specs.Tests.{◌and◌}
use Rattle.lists.proofs.Cases.{on, on_same, on_below, clash, and_both, and-false-right}
use Rattle.lists.proofs.Tab.{length-tab, getD-tab}
use Rattle.layout.specs.Content.{Hyperedge, Table, no_hyperedge}
use Rattle.layout.specs.Layout.{limit, vertex_limit, hyperedge_count, hyperedge_at, read_hyperedges, read}
use Rattle.layout.specs.Inner.{Formed}
use Rattle.steps.specs.Inner.{cell}
use Rattle.distance.specs.Cost.{Within}
use Rattle.paths.specs.Paths.{weight_by, lighter}
use Rattle.lists.specs.Lists.{word_at}
use Rattle.paths.specs.Choices.{Weights, Values}

-- ---- values

-- the entry of a pair depends on the values below n alone
entry-same : (n i j a b : ℕ) → (i < n → j < n → a ≡ b) → cond (ltb i n and ltb j n) a 0 ≡ cond (ltb i n and ltb j n) b 0
unfolding ◌and◌
entry-same n i j a b h =
    on (ltb i n)
    (λ p. on (ltb j n) (λ q. rw (p, q) (h (ltb-true i n p) (ltb-true j n q))) (λ q. rw (p, q)))
    (λ p. rw p)

pub values-ext : {f g : ℕ → ℕ → ℕ} {n : ℕ} {c : List ℕ} → ((i j : ℕ) → i < n → j < n → f i j ≡ g i j) → Values f n c → Values g n c
values-ext {f} {g} {n} h w = record {
  sized = w.sized;
  entry = λ i j li lj. w.entry i j li lj ∙ entry-same n i j (f i j) (g i j) (h i j);
}

pub values-none : (f : ℕ → ℕ → ℕ) (n : ℕ) → ((i j : ℕ) → f i j ≡ 0) → Values f n (replicate (vertex_limit * vertex_limit) 0)
values-none f n h = record {
  sized = length-replicate {A = ℕ} (vertex_limit * vertex_limit) 0;
  entry = λ i j li lj.
      get_or-replicate {A = ℕ} (vertex_limit * vertex_limit) (cell i j) 0 0 (omega arith)
      ∙ sym (on (ltb i n and ltb j n) (λ e. rw e (h i j)) (λ e. rw e));
}

module _ {f : ℕ → ℕ → ℕ} {n : ℕ} {c : List ℕ} (w : Values f n c) (le : n ≤ vertex_limit) where
  -- below n the matrix is the values
  pub value-at : (i j : ℕ) → i < n → j < n → get_or c (cell i j) 0 ≡ f i j
  value-at i j li lj =
      w.entry i j (omega arith) (omega arith)
      ∙ ap (λ (b : Bool). cond b (f i j) 0) (and_both (ltb i n) (ltb j n) (lt-ltb i n li) (lt-ltb j n lj))

  -- no value but among the records below n: k is what `vertex_count` found
  pub values-within : (k : ℕ) → k ≡ n → Within k c
  values-within k e u v lu lv t =
      on_below v n
      (λ l. omega (arith, e))
      (λ l. clash t (ap (λ (x : ℕ). not (eqb x 0)) (w.entry u v (omega (arith, e)) lv ∙ ap (λ (b : Bool). cond b (f u v) 0) (and-false-right (ltb u n) (ltb v n) (le-ltb v n l)))))

  -- one value anew
  pub values-set : {g : ℕ → ℕ → ℕ} (a b : ℕ) (h : ℕ → ℕ) → a < n → b < n
      → ((i j : ℕ) → i < n → j < n → g i j ≡ cond (eqb i a and eqb j b) (h (f i j)) (f i j))
      → Values g n (set c (cell a b) (h (get_or c (cell a b) 0)))
  values-set {g} a b h la lb e = record {
    sized = length-set c (cell a b) (h (get_or c (cell a b) 0)) ∙ w.sized;
    entry = λ i j li lj. on_same (cell i j) (cell a b) (λ q. same i j li lj q) (λ q. other i j li lj q);
  }
    where
      x : ℕ
      x = h (get_or c (cell a b) 0)

      same : (i j : ℕ) → i < vertex_limit → j < vertex_limit → cell i j ≡ cell a b → get_or (set c (cell a b) x) (cell i j) 0 ≡ cond (ltb i n and ltb j n) (g i j) 0
      same i j li lj q =
          let p : i ≡ a = omega arith in
          let r : j ≡ b = omega arith in
          rw (p, r) (get_or-set_same c (cell a b) x 0 (omega (arith, w.sized))
          ∙ ap h (value-at a b la lb)
          ∙ sym (ap (λ (z : Bool). cond z (g a b) 0) (and_both (ltb a n) (ltb b n) (lt-ltb a n la) (lt-ltb b n lb))
          ∙ e a b la lb ∙ ap (λ (z : Bool). cond z (h (f a b)) (f a b)) (and_both _ _ (eq-eqb a a refl) (eq-eqb b b refl))))

      other : (i j : ℕ) → i < vertex_limit → j < vertex_limit → (cell i j ≡ cell a b → ⊥) → get_or (set c (cell a b) x) (cell i j) 0 ≡ cond (ltb i n and ltb j n) (g i j) 0
      other i j li lj ne =
          get_or-set_other c (cell a b) (cell i j) x 0 ne ∙ w.entry i j li lj
          ∙ entry-same n i j (f i j) (g i j) (λ p q. sym (e i j p q ∙ ap (λ (z : Bool). cond z (h (f i j)) (f i j)) (cells-apart i j a b ne)))

-- ---- a choice, for `search`: p and q are the weights that `weight_at` found

module _ (w c : List ℕ) (at k : ℕ) where
  pub choose-first : get_or c at 0 ≡ 0 → set c at k ≡ set c at (lighter (word_at w) (get_or c at 0) k)
  unfolding lighter
  choose-first e = rw e

  module _ (ne : get_or c at 0 ≡ 0 → ⊥) (p : ℕ) (ep : p ≡ word_at w k) (q : ℕ) (eq : q ≡ word_at w (get_or c at 0)) where
    lighter-some : (h : ℕ) → (h ≡ 0 → ⊥) → lighter (word_at w) h k ≡ cond (ltb (word_at w k) (word_at w h)) k h
    unfolding lighter
    lighter-some zero z = absurd (z refl)
    lighter-some (suc h) z = refl

    pub choose-lighter : p < q → set c at k ≡ set c at (lighter (word_at w) (get_or c at 0) k)
    choose-lighter l = rw (lighter-some (get_or c at 0) ne, ← ep, ← eq, lt-ltb p q l)

    pub choose-kept : q ≤ p → c ≡ set c at (lighter (word_at w) (get_or c at 0) k)
    choose-kept l = rw (lighter-some (get_or c at 0) ne, ← ep, ← eq, le-ltb p q l) (sym (set-get_or c at 0))

-- ---- weights: r is what `hyperedge_weight` found of record j

pub weights-none : (t : Table) → Weights t 0 (replicate vertex_limit 0)
weights-none t = record {
  sized = length-replicate {A = ℕ} vertex_limit 0;
  first = λ i l. absurd (not-suc-le-zero l);
  rest = λ i _. on_below (suc i) vertex_limit
      (λ l. get_or-replicate {A = ℕ} vertex_limit (suc i) 0 0 l)
      (λ l. get_or-eq_default (replicate vertex_limit 0) 0 {n = suc i} (omega (arith, length-replicate {A = ℕ} vertex_limit 0)));
  none = refl;
}

pub weight-read : (ws : List ℕ) (j : ℕ) → j < hyperedge_count ws → weight_by (read limit ws) (suc j) ≡ (hyperedge_at limit ws j).weight
weight-read ws j l = ap (λ (e : Hyperedge). e.weight) (getD-tab (hyperedge_at limit ws) (hyperedge_count ws) j no_hyperedge l)

module _ (ws : List ℕ) (j : ℕ) (w : List ℕ) (h : Weights (read limit ws) j w) where
  pub weights-more : Formed limit ws → (k : ℕ) → k ≡ hyperedge_count ws → j < k → (r : ℕ) → r ≡ (hyperedge_at limit ws j).weight
      → Weights (read limit ws) (j + 1) (set w (j + 1) r)
  weights-more f k ek lk r e =
      let l : j < hyperedge_count ws = omega arith in
      record {
        sized = length-set w (j + 1) r ∙ h.sized;
        first = λ i li. on_same i j
            (λ q. ap (λ (z : ℕ). get_or (set w (j + 1) r) z 0) (let z : suc i ≡ j + 1 = omega arith in z) ∙ get_or-set_same w (j + 1) r 0 (omega (arith, h.sized, f.shape.hyperedges-le)) ∙ e ∙ sym (weight-read ws j l) ∙ ap (λ (z : ℕ). weight_by (read limit ws) (suc z)) (sym q))
            (λ ne. get_or-set_other w (j + 1) (suc i) r 0 (λ z. ne (omega arith)) ∙ h.first i (omega arith));
        rest = λ i li. get_or-set_other w (j + 1) (suc i) r 0 (λ z. lt_irrefl i (omega arith)) ∙ h.rest i (omega arith);
        none = get_or-set_other w (j + 1) 0 r 0 (λ z. lt_irrefl j (omega arith)) ∙ h.none;
      }

  pub weights-end : (k : ℕ) → k ≡ hyperedge_count ws → j ≤ k → k ≤ j → Weights (read limit ws) (hyperedge_count ws) w
  weights-end k e a b = subst (λ (i : ℕ). Weights (read limit ws) i w) (le_antisymm a b ∙ e) h

-- every place's weight
pub weights-are : (ws : List ℕ) (w : List ℕ) → Weights (read limit ws) (hyperedge_count ws) w → (k : ℕ) → word_at w k ≡ weight_by (read limit ws) k
weights-are ws w h zero = h.none
weights-are ws w h (suc i) =
    on_below i (hyperedge_count ws)
    (λ l. h.first i l)
    (λ l. h.rest i l ∙ sym (ap (λ (e : Hyperedge). e.weight) (get_or-eq_default (read_hyperedges limit ws) no_hyperedge {n = i} (omega (arith, length-tab (hyperedge_at limit ws) (hyperedge_count ws))))))
