-- Laws of the matrix that holds a relation. Assumes nothing.
use mathlib.Core.Path.{◌≡◌, refl, sym, ap, ◌∙◌}
use mathlib.Core.Bool.{Bool, true, false, ◌||◌}
use mathlib.Core.List.{List}
use Prim.Native.Nat.{ℕ, ◌*◌, ◌≤◌, ◌<◌}
use native.Mathlib.Omega.{arith}
use lib.Dec.{eqb, ltb}
use lib.ListN.{get_or, set, length-set, replicate, length-replicate, get_or-replicate}
use lib.Seq.{get_or-set_same, get_or-set_other}
use borrow.Author.Tests.{eq-eqb, ne_eqb, lt-ltb, ltb-true}
use Rattle.lists.specs.Tests.{◌and◌, bit}
use Rattle.lists.proofs.Cases.{on, on_same, or_right, or-false, and_both, and-false-left, and-false-right}
use Rattle.layout.specs.Layout.{vertex_limit}
use Rattle.graph.specs.Reach.{matrix}
use Rattle.steps.specs.Inner.{cell, Holds}
use Rattle.steps.specs.Drawn.{putting}

-- two places of the matrix that differ are of two pairs
pub cells-apart : (i j a b : ℕ) → (cell i j ≡ cell a b → ⊥) → (eqb i a and eqb j b) ≡ false
cells-apart i j a b ne =
    on_same i a
    (λ p. on_same j b (λ q. absurd (ne (rw (p, q)))) (λ q. and-false-right (eqb i a) (eqb j b) (ne_eqb j b q)))
    (λ p. and-false-left (eqb i a) (eqb j b) (ne_eqb i a p))

-- the entry of a pair depends on the relation below n alone
entry-same : (n i j : ℕ) (a b : Bool) → (i < n → j < n → a ≡ b) → bit (ltb i n and ltb j n and a) ≡ bit (ltb i n and ltb j n and b)
unfolding ◌and◌
entry-same n i j a b h =
    on (ltb i n)
    (λ p. on (ltb j n) (λ q. rw (p, q, h (ltb-true i n p) (ltb-true j n q))) (λ q. rw (p, q)))
    (λ p. rw p)

pub holds-ext : {E F : ℕ → ℕ → Bool} {n : ℕ} {m : List ℕ} → ((i j : ℕ) → i < n → j < n → E i j ≡ F i j) → Holds E n m → Holds F n m
holds-ext {E} {F} {n} {m} h w = record {
  sized = w.sized;
  entry = λ i j li lj. w.entry i j li lj ∙ entry-same n i j (E i j) (F i j) (h i j);
}

-- no mark: no pair
pub holds-none : (E : ℕ → ℕ → Bool) (n : ℕ) → ((i j : ℕ) → E i j ≡ false) → Holds E n (replicate (vertex_limit * vertex_limit) 0)
unfolding ◌and◌
holds-none E n h = record {
  sized = length-replicate {A = ℕ} (vertex_limit * vertex_limit) 0;
  entry = λ i j li lj.
      get_or-replicate {A = ℕ} (vertex_limit * vertex_limit) (cell i j) 0 0 (omega arith)
      ∙ sym (ap bit (and-false-right (ltb i n) (ltb j n and E i j) (and-false-right (ltb j n) (E i j) (h i j))));
}

module _ {E : ℕ → ℕ → Bool} {n : ℕ} {m : List ℕ} (w : Holds E n m) where
  -- below n the matrix is the relation
  pub holds-matrix : n ≤ vertex_limit → (i j : ℕ) → i < n → j < n → matrix m i j ≡ E i j
  unfolding ◌and◌
  holds-matrix le i j li lj =
      rw (w.entry i j (omega arith) (omega arith), lt-ltb i n li, lt-ltb j n lj) (on (E i j) (λ e. rw e) (λ e. rw e))

  -- one mark more: one pair more
  pub holds-set : {F : ℕ → ℕ → Bool} (a b : ℕ) → n ≤ vertex_limit → a < n → b < n
      → ((i j : ℕ) → i < n → j < n → F i j ≡ (E i j || (eqb i a and eqb j b))) → Holds F n (set m (cell a b) 1)
  holds-set {F} a b le la lb h = record {
    sized = length-set m (cell a b) 1 ∙ w.sized;
    entry = λ i j li lj. on_same (cell i j) (cell a b) (λ e. same i j li lj e) (λ e. other i j li lj e);
  }
    where
      same : (i j : ℕ) → i < vertex_limit → j < vertex_limit → cell i j ≡ cell a b → get_or (set m (cell a b) 1) (cell i j) 0 ≡ bit (ltb i n and ltb j n and F i j)
      same i j li lj e =
          let p : i ≡ a = omega arith in
          let q : j ≡ b = omega arith in
          let f : F a b ≡ true = h a b la lb ∙ or_right (E a b) (eqb a a and eqb b b) (and_both _ _ (eq-eqb a a refl) (eq-eqb b b refl)) in
          rw (p, q) (get_or-set_same m (cell a b) 1 0 (omega (arith, w.sized))
          ∙ sym (ap bit (and_both (ltb a n) (ltb b n and F a b) (lt-ltb a n la) (and_both (ltb b n) (F a b) (lt-ltb b n lb) f))))

      other : (i j : ℕ) → i < vertex_limit → j < vertex_limit → (cell i j ≡ cell a b → ⊥) → get_or (set m (cell a b) 1) (cell i j) 0 ≡ bit (ltb i n and ltb j n and F i j)
      other i j li lj ne =
          get_or-set_other m (cell a b) (cell i j) 1 0 ne ∙ w.entry i j li lj
          ∙ entry-same n i j (E i j) (F i j) (λ p q. sym (h i j p q ∙ rw (cells-apart i j a b ne) (or-false (E i j))))

  pub holds-putting : {F : ℕ → ℕ → Bool} (due : Bool) (a b : ℕ) → n ≤ vertex_limit → a < n → b < n
      → ((i j : ℕ) → i < n → j < n → F i j ≡ (E i j || (due and (eqb i a and eqb j b)))) → Holds F n (putting due (cell a b) m)
  unfolding ◌and◌
  holds-putting true a b le la lb h = holds-set a b le la lb h
  holds-putting false a b le la lb h = holds-ext (λ i j p q. sym (h i j p q ∙ or-false (E i j))) w
