-- Digits and their sums, as the code takes them from the text. Assumes nothing.
use mathlib.Core.Path.{◌≡◌, refl, sym, ap, ◌∙◌}
use mathlib.Core.Bool.{Bool, true, cond}
use mathlib.Core.Logic.{⊎_elim}
use mathlib.Core.List.{List, [], ◌∷◌, ◌++◌}
use Prim.Native.Nat.{ℕ, zero, suc, ◌+◌, ◌-◌, ◌*◌, ◌≤◌, ◌<◌}
use native.Mathlib.Nat.{le_antisymm}
use native.Mathlib.Numerals.{add-one}
use native.Mathlib.Omega.{arith}
use lib.Dec.{ltb, eqb}
use lib.Pointwise.{pointwise}
use lib.ListN.{length, get_or, set, take, drop, replicate, length-set, length-replicate}
use lib.Seq.{get_or-set_same, get_or-set_other}
use borrow.Author.Tests.{ltb-true, lt-ltb, le-ltb}
use Rattle.lists.specs.Tests.{◌and◌}
use Rattle.lists.specs.Lists.{all, is_below, same_list, sum_over}
use Rattle.lists.proofs.Cases.{on, on_same, on_below, and_both}
use Rattle.lists.proofs.All.{all-at, all_snoc}
use Rattle.frames.specs.Frames.{byte_values, byte_sum, digit}
use Rattle.frames.specs.Reading.{no_value, value, byte_at, short_at, number_at, stands_at}
use Rattle.frames.specs.Bytes.{bytes_at}
use Rattle.frames.proofs.Lines.{sum-append}
use Rattle.frames.proofs.Parse.{value-digit, value-cases, value-le, bytes-at, bytes-length, bytes-snoc}
use Rattle.reader.specs.Lines.{Valued, frame_sum}

-- ---- the table of values: k digits have theirs

pub record Filled (values : List ℕ) (k : ℕ) : Type 0 where
  pub sized : length values ≡ byte_values
  pub known : (c : ℕ) → c < byte_values → get_or values c 0 ≡ cond (ltb (value c) k) (value c) no_value

blank : (n x c : ℕ) → c < n → get_or (replicate n x) c 0 ≡ x
blank zero x c h = absurd (omega arith)
blank (suc n) x zero h = refl
blank (suc n) x (suc c) h = blank n x c (omega arith)

pub filled_none : Filled (replicate 256 256) 0
filled_none = record {
  sized = length-replicate {A = ℕ} 256 256;
  known = λ c h. blank 256 256 c h ∙ sym (ap (λ (b : Bool). cond b (value c) no_value) (le-ltb (value c) 0 (omega arith)));
}

module _ (values : List ℕ) (k : ℕ) (f : Filled values k) (h : k < 16) (c : ℕ) (low : c < 256) (e : c ≡ digit k) where
  others : (x : ℕ) → (x ≡ c → ⊥) → ltb (value x) k ≡ ltb (value x) (k + 1)
  others x n =
      ⊎_elim
      (λ v. on_below (value x) k
      (λ l. lt-ltb (value x) k l ∙ sym (lt-ltb (value x) (k + 1) (omega arith)))
      (λ l. on_same (value x) k
      (λ s. absurd (n (sym v.1 ∙ ap digit s ∙ sym e)))
      (λ s. le-ltb (value x) k l ∙ sym (le-ltb (value x) (k + 1) (omega arith)))))
      (λ v. le-ltb (value x) k (omega arith) ∙ sym (le-ltb (value x) (k + 1) (omega arith)))
      (value-cases x)

  pub filled_more : Filled (set values c k) (k + 1)
  filled_more = record {
    sized = length-set values c k ∙ f.sized;
    known = λ x l. on_same x c
        (λ s.
        let v : value x ≡ k = ap value (s ∙ e) ∙ value-digit k h in
        rw (s, get_or-set_same values c k 0 (omega (arith, f.sized)), ← s, v, lt-ltb k (k + 1) (omega arith)) refl)
        (λ s. rw (get_or-set_other values c x k 0 s, ← others x s) (f.known x l));
  }

pub filled-end : (values : List ℕ) (k : ℕ) → Filled values k → 16 ≤ k → k ≤ 16 → Valued values
filled-end values k f a b = record {
  sized = f.sized;
  rule = λ c h. f.known c h ∙ ⊎_elim
      (λ v. ap (λ (t : Bool). cond t (value c) no_value) (lt-ltb (value c) k (omega (arith, v.0))))
      (λ v. ap (λ (t : Bool). cond t (value c) no_value) (le-ltb (value c) k (omega arith)) ∙ sym v)
      (value-cases c);
}

pub value_read : (values : List ℕ) (c r : ℕ) → Valued values → c < 256 → r ≡ get_or values c 0 → (r ≡ value c) × (r ≤ no_value)
value_read values c r v h e = let s : r ≡ value c = e ∙ v.rule c h in (s, rw s (value-le c))

-- ---- bytes and numbers

module _ (text : List ℕ) (p : ℕ) where
  pub byte-read : (a b : ℕ) → a ≡ value (get_or text p 0) → a ≤ no_value → b ≡ value (get_or text (p + 1) 0) → b ≤ no_value
      → (a * 16 + b ≡ byte_at text p) × (a * 16 + b ≤ no_value * 17)
  unfolding byte_at
  byte-read a b e f g h = (rw (e, g) refl, omega arith)

  pub short-read : (a b : ℕ) → a ≡ byte_at text p → a ≤ no_value * 17 → b ≡ byte_at text (p + 2) → b ≤ no_value * 17
      → (a * 256 + b ≡ short_at text p) × (a * 256 + b ≤ no_value * 17 * 257)
  unfolding short_at
  short-read a b e f g h = (rw (e, g) refl, omega arith)

  pub number_read : (a b c d : ℕ) → a ≡ byte_at text p → a ≤ no_value * 17 → b ≡ byte_at text (p + 2) → b ≤ no_value * 17
      → c ≡ byte_at text (p + 4) → c ≤ no_value * 17 → d ≡ byte_at text (p + 6) → d ≤ no_value * 17
      → (a * 16777216 + b * 65536 + c * 256 + d ≡ number_at text p) × (a * 16777216 + b * 65536 + c * 256 + d ≤ no_value * 17 * 16843009)
  unfolding number_at
  number_read a b c d e ea f fb g gc h hd = (rw (e, f, g, h) refl, omega arith)

-- ---- the sum: i of k bytes

pub record Summed (text : List ℕ) (p i sum : ℕ) : Type 0 where
  pub low : all (is_below byte_values) (bytes_at text p i) ≡ true
  pub is : sum ≡ byte_sum (bytes_at text p i)
  pub small : sum ≤ i * byte_values

module _ (text : List ℕ) (p : ℕ) where
  pub summed-none : Summed text p 0 0
  unfolding bytes_at all sum_over
  summed-none = record { low = refl; is = refl; small = omega arith }

  pub summed-more : (i sum b : ℕ) → Summed text p i sum → b ≡ byte_at text (p + i * 2) → b < 256 → Summed text p (i + 1) (sum + b)
  unfolding sum_over
  summed-more i sum b s e h =
      let q : bytes_at text p (i + 1) ≡ bytes_at text p i ++ (b ∷ []) = ap (bytes_at text p) (add-one i) ∙ bytes-snoc text p i ∙ ap (λ (x : ℕ). bytes_at text p i ++ (x ∷ [])) (sym e) in
      record {
        low = rw (q, all_snoc) (and_both _ _ s.low (lt-ltb b byte_values h));
        is = rw (q, sum-append, ← s.is) (omega arith);
        small = omega (arith, s.small);
      }

  pub sum-none : (i k b : ℕ) → i < k → b ≡ byte_at text (p + i * 2) → 256 ≤ b → 1 ≡ frame_sum text p k
  unfolding frame_sum
  sum-none i k b h e l = on (all (is_below byte_values) (bytes_at text p k))
      (λ a. let low : byte_at text (p + i * 2) < byte_values = ltb-true _ _ (rw (bytes-at text p k i h) at (all-at (is_below byte_values) (bytes_at text p k) i 0 a (rw bytes-length h))) in absurd (omega arith))
      (λ a. rw a)

  pub sum-end : (i k sum : ℕ) → i ≤ k → k ≤ i → Summed text p i sum → sum ≡ frame_sum text p k
  unfolding frame_sum
  sum-end i k sum a b s = let q : i ≡ k = le_antisymm a b in rw (← q, s.low) s.is

-- ---- bytes compared

-- what `==` answers
compared : (xs ys : List ℕ) → pointwise eqb xs ys ≡ same_list xs ys
unfolding same_list ◌and◌
compared [] [] = refl
compared [] (y ∷ ys) = refl
compared (x ∷ xs) [] = refl
compared (x ∷ xs) (y ∷ ys) = rw (compared xs ys) refl

pub compared-at : (text : List ℕ) (p : ℕ) (xs : List ℕ) → pointwise eqb (take (p + length xs - p) (drop p text)) xs ≡ stands_at text p xs
unfolding stands_at
compared-at text p xs = let e : p + length xs - p ≡ length xs = omega arith in rw e (compared (take (length xs) (drop p text)) xs)
