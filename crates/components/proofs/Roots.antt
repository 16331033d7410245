-- The roots of an order: each joined with none before it, and every number of the order with one of them. Assumes nothing.
use mathlib.Core.Path.{◌≡◌, refl, ap, ap₂, ◌∙◌}
use mathlib.Core.Bool.{Bool, true, false, ◌||◌}
use mathlib.Core.Logic.{⊎_elim}
use mathlib.Core.List.{List, [], ◌∷◌, ◌++◌, map}
use Prim.Native.Nat.{ℕ, ◌<◌}
use native.Mathlib.Nat.{not-suc-le-zero}
use native.Mathlib.Omega.{arith}
use lib.Dec.{eqb}
use lib.ListN.{length, get_or, length-append, get_or-append}
use lib.Seq.{get_or-append_seam}
use borrow.Author.Tests.{eqb-true}
use Rattle.lists.specs.Lists.{memb, any, turned}
use Rattle.lists.specs.Inner.{Below}
use Rattle.lists.proofs.Cases.{on, on_same, clash, or-true, or_right}
use Rattle.lists.proofs.Chosen.{chosen-ext}
use Rattle.lists.proofs.Memb.{below-snoc}
use Rattle.lists.proofs.Any.{any_snoc, any_of}
use Rattle.components.specs.Classes.{class, rooted, roots_from, roots_of, classes}

-- a relation whose classes part the numbers below n: each is joined with itself, and two that are joined with one with each other
pub record Equivalence (P : ℕ → ℕ → Bool) (n : ℕ) : Type 0 where
  pub alike : (v : ℕ) → v < n → P v v ≡ true
  pub meet : (a b v : ℕ) → a < n → b < n → v < n → P a v ≡ true → P b v ≡ true → P a b ≡ true

module _ (P : ℕ → ℕ → Bool) where
  pub rooted-old : (roots : List ℕ) (r : ℕ) → any (turned P r) roots ≡ true → rooted P roots r ≡ roots
  unfolding rooted
  rooted-old roots r e = rw e

  pub rooted-new : (roots : List ℕ) (r : ℕ) → any (turned P r) roots ≡ false → rooted P roots r ≡ roots ++ (r ∷ [])
  unfolding rooted
  rooted-new roots r e = rw e

  pub roots-more : (roots : List ℕ) (r : ℕ) (rs : List ℕ) → roots_from P roots (r ∷ rs) ≡ roots_from P (rooted P roots r) rs
  unfolding roots_from
  roots-more roots r rs = refl

  pub roots-end : (roots : List ℕ) → roots_from P roots [] ≡ roots
  unfolding roots_from
  roots-end roots = refl

  -- what a new root keeps, all of them keep
  pub roots-keep : (Q : List ℕ → Type 0) (n : ℕ) → ((roots : List ℕ) (r : ℕ) → r < n → any (turned P r) roots ≡ false → Q roots → Q (roots ++ (r ∷ [])))
      → (rs : List ℕ) → Below n rs → (roots : List ℕ) → Q roots → Q (roots_from P roots rs)
  unfolding roots_from
  roots-keep Q n h [] b roots q = q
  roots-keep Q n h (r ∷ rs) b roots q =
      roots-keep Q n h rs b.1 (rooted P roots r)
      (on (any (turned P r) roots) (λ e. rw (rooted-old roots r e) q) (λ e. rw (rooted-new roots r e) (h roots r b.0 e q)))

  pub joined-more : (v : ℕ) (roots : List ℕ) (r : ℕ) → any (turned P v) roots ≡ true → any (turned P v) (roots ++ (r ∷ [])) ≡ true
  joined-more v roots r e = any_snoc (turned P v) roots r ∙ ap (λ (b : Bool). b || P r v) e

  rooted-joined : (roots : List ℕ) (r : ℕ) → P r r ≡ true → any (turned P r) (rooted P roots r) ≡ true
  rooted-joined roots r s =
      on (any (turned P r) roots)
      (λ e. rw (rooted-old roots r e) e)
      (λ e. rw (rooted-new roots r e) (any_snoc (turned P r) roots r ∙ or_right (any (turned P r) roots) (P r r) s))

  -- every number of the order is joined with a root
  pub roots-cover : (n : ℕ) → ((v : ℕ) → v < n → P v v ≡ true) → (rs : List ℕ) → Below n rs → (roots : List ℕ) (v : ℕ) → memb v rs ≡ true → any (turned P v) (roots_from P roots rs) ≡ true
  unfolding roots_from
  roots-cover n h [] b roots v e = clash e refl
  roots-cover n h (r ∷ rs) b roots v e =
      ⊎_elim
      (λ p.
      let s : v ≡ r = eqb-true v r p in
      roots-keep (λ l. any (turned P v) l ≡ true) n (λ l x _ _ q. joined-more v l x q) rs b.1 (rooted P roots r)
      (rw s (rooted-joined roots r (h r b.0))))
      (λ p. roots-cover n h rs b.1 (rooted P roots r) v p)
      (or-true (eqb v r) (memb v rs) e)

  pub roots-below : (n : ℕ) (rs : List ℕ) → Below n rs → Below n (roots_of P rs)
  roots-below n rs b = roots-keep (Below n) n (λ l r h _ q. below-snoc n l r q h) rs b [] tt

-- ---- classes see of a relation what it says of the numbers below n

module _ (P Q : ℕ → ℕ → Bool) (n : ℕ) (h : (i j : ℕ) → i < n → j < n → P i j ≡ Q i j) where
  joined-ext : (r : ℕ) → r < n → (roots : List ℕ) → Below n roots → any (turned P r) roots ≡ any (turned Q r) roots
  unfolding any
  joined-ext r l [] b = refl
  joined-ext r l (x ∷ roots) b = ap₂ (λ (p q : Bool). p || q) (h x r b.0 l) (joined-ext r l roots b.1)

  rooted-ext : (roots : List ℕ) (r : ℕ) → Below n roots → r < n → rooted P roots r ≡ rooted Q roots r
  unfolding rooted
  rooted-ext roots r b l = rw (joined-ext r l roots b)

  roots-ext : (rs : List ℕ) → Below n rs → (roots : List ℕ) → Below n roots → roots_from P roots rs ≡ roots_from Q roots rs
  unfolding roots_from
  roots-ext [] c roots b = refl
  roots-ext (r ∷ rs) c roots b =
      ap (λ (l : List ℕ). roots_from P l rs) (rooted-ext roots r b c.0)
      ∙ roots-ext rs c.1 (rooted Q roots r)
      (on (any (turned Q r) roots) (λ e. rw (rooted-old Q roots r e) b) (λ e. rw (rooted-new Q roots r e) (below-snoc n roots r b c.0)))

  class-list : (rs : List ℕ) → Below n rs → map (class P n) rs ≡ map (class Q n) rs
  class-list [] b = refl
  class-list (r ∷ rs) b = ap₂ (λ (x : List ℕ) (xs : List (List ℕ)). x ∷ xs) (chosen-ext (P r) (Q r) n (λ v l. h r v b.0 l)) (class-list rs b.1)

  pub classes-ext : (order : List ℕ) → Below n order → classes P n order ≡ classes Q n order
  unfolding classes
  classes-ext order b = class-list (roots_of P order) (roots-below P n order b) ∙ ap (map (class Q n)) (roots-ext order b [] tt)

-- ---- each root is in the class of no root before it

abbrev Apart : (ℕ → ℕ → Bool) → List ℕ → Type 0
Apart P roots = (j k : ℕ) → j < k → k < length roots → P (get_or roots j 0) (get_or roots k 0) ≡ false

apart_snoc : (P : ℕ → ℕ → Bool) (roots : List ℕ) (r : ℕ) → any (turned P r) roots ≡ false → Apart P roots → Apart P (roots ++ (r ∷ []))
apart_snoc P roots r e h j k l b =
    let lj : j < length roots = omega (arith, length-append roots (r ∷ [])) in
    on_same k (length roots)
    (λ s. rw (s, get_or-append_seam roots r [] 0, get_or-append roots (r ∷ []) 0 j lj)
    (on (P (get_or roots j 0) r) (λ p. clash (any_of (turned P r) roots 0 j lj p) e) (λ p. p)))
    (λ s.
    let lk : k < length roots = omega (arith, length-append roots (r ∷ [])) in
    rw (get_or-append roots (r ∷ []) 0 k lk, get_or-append roots (r ∷ []) 0 j lj) (h j k l lk))

pub roots-apart : (P : ℕ → ℕ → Bool) (n : ℕ) (order : List ℕ) → Below n order → Apart P (roots_of P order)
roots-apart P n order b = roots-keep P (Apart P) n (λ roots r _ e h. apart_snoc P roots r e h) order b [] (λ j k l z. absurd (not-suc-le-zero z))
