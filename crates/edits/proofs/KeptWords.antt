-- The loop that keeps the words that pass a test, in place or from another list. Assumes nothing.
use mathlib.Core.Path.{◌≡◌, refl, sym, ap, ◌∙◌}
use mathlib.Core.Bool.{Bool, true, false, not}
use mathlib.Core.List.{List, [], ◌∷◌}
use Prim.Native.Nat.{ℕ, suc, ◌+◌, ◌-◌, ◌≤◌, ◌<◌}
use native.Mathlib.Numerals.{add-one}
use native.Mathlib.Omega.{arith}
use lib.ListN.{length, get_or, set, take, drop, length-drop, drop_of_length-le}
use lib.Seq.{drop-cons, paste}
use borrow.Author.Tests.{eq-eqb, ne_eqb}
use Rattle.lists.specs.Lists.{filter, other_than, itself}
use Rattle.lists.proofs.Parts.{part_at}
use Rattle.edits.proofs.Copied.{Copied, copied_none, copied_more, copied-read}

-- the test of `keep_others`
module _ (v x : ℕ) where
  pub other-yes : (x ≡ v → ⊥) → other_than itself v x ≡ true
  unfolding other_than
  other-yes ne = ap not (ne_eqb x v ne)

  pub other-no : x ≡ v → other_than itself v x ≡ false
  unfolding other_than
  other-no e = ap not (eq-eqb x v e)

module _ (p : ℕ → Bool) (x : ℕ) (xs : List ℕ) where
  filter-yes : p x ≡ true → filter p (x ∷ xs) ≡ x ∷ filter p xs
  unfolding filter
  filter-yes e = rw e

  filter-no : p x ≡ false → filter p (x ∷ xs) ≡ filter p xs
  unfolding filter
  filter-no e = rw e

-- of the first i of ms those that p keeps, c of them, stand in d from `to` on, and what is left to do is left of the whole
pub record Kept (p : ℕ → Bool) (ms d : List ℕ) (to i c : ℕ) (s : List ℕ) : Type 0 where
  pub copied : Copied d to (filter p ms) c s
  pub left : drop c (filter p ms) ≡ filter p (drop i ms)
  pub behind : c ≤ i
  pub within : c ≤ length (filter p ms)

pub kept-none : (p : ℕ → Bool) (ms d : List ℕ) (to : ℕ) → Kept p ms d to 0 0 d
kept-none p ms d to = record { copied = copied_none d to (filter p ms); left = refl; behind = omega arith; within = omega arith }

module _ (p : ℕ → Bool) (ms d : List ℕ) (to i c : ℕ) (s : List ℕ) (k : Kept p ms d to i c s) where
  next : i < length ms → drop i ms ≡ get_or ms i 0 ∷ drop (i + 1) ms
  next h = drop-cons ms i 0 h ∙ ap (λ (n : ℕ). get_or ms i 0 ∷ drop n ms) (sym (add-one i))

  -- the next word is kept
  kept_more : (x : ℕ) → i < length ms → to + c < length d → x ≡ get_or ms i 0 → p x ≡ true → Kept p ms d to (i + 1) (c + 1) (set s (to + c) x)
  kept_more x h l e y =
      let q : drop c (filter p ms) ≡ x ∷ filter p (drop (i + 1) ms) =
      k.left ∙ ap (filter p) (next h ∙ ap (λ (y : ℕ). y ∷ drop (i + 1) ms) (sym e)) ∙ filter-yes p x (drop (i + 1) ms) y in
      let m : c < length (filter p ms) = omega (arith, length-drop c (filter p ms), ap length q, k.within) in
      let r : get_or (filter p ms) c 0 ∷ drop (suc c) (filter p ms) ≡ x ∷ filter p (drop (i + 1) ms) = sym (drop-cons (filter p ms) c 0 m) ∙ q in
      let x-is : x ≡ get_or (filter p ms) c 0 = cc in
      let rest : drop (suc c) (filter p ms) ≡ filter p (drop (i + 1) ms) = cc in
      record {
        copied = copied_more x k.copied l m x-is;
        left = ap (λ (n : ℕ). drop n (filter p ms)) (add-one c) ∙ rest;
        behind = omega (arith, k.behind);
        within = omega arith;
      }

  pub kept-yes : (x c' : ℕ) (s' : List ℕ) → i < length ms → to + c < length d → x ≡ get_or ms i 0 → p x ≡ true → c' ≡ c + 1 → s' ≡ set s (to + c) x → Kept p ms d to (i + 1) c' s'
  kept-yes x c' s' h l e y q r = rw (q, r) (kept_more x h l e y)

  -- the next word is not
  pub kept-no : (x c' : ℕ) (s' : List ℕ) → i < length ms → x ≡ get_or ms i 0 → p x ≡ false → c' ≡ c → s' ≡ s → Kept p ms d to (i + 1) c' s'
  kept-no x c' s' h e n q r = rw (q, r) (record {
    copied = k.copied;
    left = k.left ∙ ap (filter p) (next h) ∙ filter-no p (get_or ms i 0) (drop (i + 1) ms) (ap p (sym e) ∙ n);
    behind = omega (arith, k.behind);
    within = k.within;
  })

  pub kept-end : length ms ≤ i → (c ≡ length (filter p ms)) × (s ≡ paste d to (filter p ms) c)
  unfolding filter
  kept-end h =
      let q : drop c (filter p ms) ≡ [] = k.left ∙ ap (filter p) (drop_of_length-le ms {i = i} h) in
      (omega (arith, length-drop c (filter p ms), ap length q, k.within), k.copied.is)

-- a loop in place reads where nothing was stored yet
pub kept_read : (p : ℕ → Bool) (from n : ℕ) (d : List ℕ) (to i c : ℕ) (s : List ℕ) → Kept p (take n (drop from d)) d to i c s → i < n → to ≤ from → from ≤ length d
    → get_or s (from + i) 0 ≡ get_or (take n (drop from d)) i 0
kept_read p from n d to i c s k h l m =
    let e : to + c + (from + i - (to + c)) ≡ from + i = omega (arith, k.behind) in
    ap (λ (q : ℕ). get_or s q 0) (sym e) ∙ copied-read k.copied (omega arith) k.within (from + i - (to + c)) ∙ ap (λ (q : ℕ). get_or d q 0) e ∙ sym (part_at d from n i h)
