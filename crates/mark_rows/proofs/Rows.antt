-- Laws of rows of marks: reading one, writing one word by word, counting one word by word. Assumes nothing.
use mathlib.Core.Path.{◌≡◌, refl, sym, ap, ap₂, ◌∙◌, subst}
use mathlib.Core.Bool.{Bool, true, false, ◌||◌}
use mathlib.Core.List.{List}
use Prim.Native.Nat.{ℕ, ◌+◌, ◌-◌, ◌*◌, ◌/◌, ◌%◌, ◌^◌, ◌≤◌, ◌<◌}
use native.Mathlib.Nat.{not-suc-le-zero, lt_irrefl, le_antisymm}
use native.Mathlib.Omega.{arith}
use lib.Dec.{eqb, ltb, lit<}
use lib.ListN.{length, get_or, set, length-set}
use lib.Seq.{get_or-set_same, get_or-set_other}
use lib.Pow.{shl_exact}
use lib.Bits.{bit_and, bit_or, and_mask}
use lib.Count.{ones}
use mir.Val.{bool_byte}
use borrow.Author.Tests.{eq-eqb, ne_eqb, lt-ltb, le-ltb, ltb-true}
use Rattle.lists.specs.Tests.{◌and◌, bit, count}
use Rattle.lists.proofs.Cases.{on_same, on_below, or-false, test-ext}
use Rattle.lists.proofs.Count.{count-ext, count-plus}
use Rattle.graph.specs.Reach.{matrix}
use Rattle.mark_rows.specs.Rows.{word_mark, row_mark, word_count, row_count, mark_below, either, RowIs, WordEnds, Word, RowsOf}
use Rattle.mark_rows.proofs.Words.{mark-or, mark-none, mark-put, ones-count}

-- ---- a mark read

pub mark-read : (rows : List ℕ) (x y : ℕ) → eqb (bit_and (get_or rows (x * 4 + y / 64) 0 / 2 ^ (y % 64)) 1) 1 ≡ row_mark rows x y
unfolding row_mark word_mark
mark-read rows x y = ap (λ (q : ℕ). eqb q 1) (and_mask (get_or rows (x * 4 + y / 64) 0 / 2 ^ (y % 64)) 1)

-- a row's marks are the digits of its words
mark-word : (rows : List ℕ) (x w b : ℕ) → b < 64 → row_mark rows x (w * 64 + b) ≡ word_mark (get_or rows (x * 4 + w) 0) b
unfolding row_mark
mark-word rows x w b l =
    ap₂ (λ (i j : ℕ). word_mark (get_or rows (x * 4 + i) 0) j) (omega arith) (omega arith)

-- ---- where a word's marks end

pub ends-none : (first n : ℕ) → n ≤ first → WordEnds first n first
ends-none first n l = record {
  begins = omega arith;
  within = omega arith;
  is = λ b h. le-ltb (first + b) first (omega arith) ∙ sym (le-ltb (first + b) n (omega arith));
}

pub ends-all : (first n : ℕ) → first + 64 ≤ n → WordEnds first n (first + 64)
ends-all first n l = record {
  begins = omega arith;
  within = omega arith;
  is = λ b h. lt-ltb (first + b) (first + 64) (omega arith) ∙ sym (lt-ltb (first + b) n (omega arith));
}

-- a mark shifted to its place stays within the word
byte-shifted : (t : Bool) (b : ℕ) → b < 64 → bool_byte t * 2 ^ b % 2 ^ 64 ≡ bit t * 2 ^ b
byte-shifted true b l = shl_exact 1 b 64 (lit< tt) (omega arith)
byte-shifted false b l = shl_exact 1 b 64 (lit< tt) (omega arith)

-- ---- a word made mark by mark: b marks so far

abbrev pub WordMade : (ℕ → Bool) → ℕ → ℕ → ℕ → Type 0
WordMade p first b word = (i : ℕ) → i < 64 → word_mark word i ≡ (ltb i b and p (first + i))

pub made_none : (p : ℕ → Bool) (first : ℕ) → WordMade p first 0 0
unfolding ◌and◌
made_none p first i l = mark-none i ∙ sym (ap (λ (t : Bool). t and p (first + i)) (le-ltb i 0 (omega arith)))

pub made_more : (p : ℕ → Bool) (first b word : ℕ) → b < 64 → WordMade p first b word
    → WordMade p first (b + 1) (bit_or word (bool_byte (p (first + b)) * 2 ^ b % 2 ^ 64))
unfolding ◌and◌
made_more p first b word k h i l =
    mark-or word (bool_byte (p (first + b)) * 2 ^ b % 2 ^ 64) i
    ∙ ap₂ ◌||◌ (h i l) (ap (λ (q : ℕ). word_mark q i) (byte-shifted (p (first + b)) b k) ∙ mark-put (p (first + b)) b i)
    ∙ on_same i b
    (λ e. rw (e, le-ltb b b (omega arith), lt-ltb b (b + 1) (omega arith), eq-eqb b b refl))
    (λ ne. on_below i b
    (λ k. rw (lt-ltb i b k, ne_eqb i b ne, lt-ltb i (b + 1) (omega arith)) (or-false (p (first + i))))
    (λ k. rw (le-ltb i b k, ne_eqb i b ne, le-ltb i (b + 1) (omega arith))))

pub made-end : (m : List ℕ) (n x first e b word : ℕ) → WordEnds first n e → WordMade (matrix m x) first b word
    → first + b ≤ e → e ≤ first + b → Word (mark_below m n x) first word
unfolding mark_below
made-end m n x first e b word k h u v i l =
    h i l ∙ ap (λ (t : Bool). t and matrix m x (first + i)) (test-ext (ltb i b) (ltb (first + i) e)
    (λ q. lt-ltb (first + i) e (omega (arith, ltb-true i b q))) (λ q. lt-ltb i b (omega (arith, ltb-true (first + i) e q))) ∙ k.is i l)

-- ---- a row written word by word: w words so far

pub record RowBegun (x w : ℕ) (p : ℕ → Bool) (r₀ r : List ℕ) : Type 0 where
  pub long : length r ≡ 1024
  pub row : (y : ℕ) → y < w * 64 → row_mark r x y ≡ p y
  pub before : (i : ℕ) → i < x * 4 → get_or r i 0 ≡ get_or r₀ i 0
  pub after : (i : ℕ) → x * 4 + w ≤ i → get_or r i 0 ≡ get_or r₀ i 0

pub begun_first : (x : ℕ) (p : ℕ → Bool) (r : List ℕ) → length r ≡ 1024 → RowBegun x 0 p r r
begun_first x p r e = record {
  long = e;
  row = λ y l. absurd (not-suc-le-zero l);
  before = λ i l. refl;
  after = λ i l. refl;
}

module _ {x w : ℕ} {p : ℕ → Bool} {r₀ r : List ℕ} (h : RowBegun x w p r₀ r) where
  pub begun_more : x < 256 → w < 4 → (word : ℕ) → Word p (w * 64) word → RowBegun x (w + 1) p r₀ (set r (x * 4 + w) word)
  unfolding row_mark
  begun_more lx lw word d =
      let s : List ℕ = set r (x * 4 + w) word in
      record {
        long = length-set r (x * 4 + w) word ∙ h.long;
        row = λ y l. on_below y (w * 64)
            (λ k.
            ap (λ (q : ℕ). word_mark q (y % 64)) (get_or-set_other r (x * 4 + w) (x * 4 + y / 64) word 0 (λ e. lt_irrefl y (omega arith)))
            ∙ h.row y k)
            (λ k.
            let b : ℕ = y - w * 64 in
            let e : w * 64 + b ≡ y = omega arith in
            subst (λ (z : ℕ). row_mark s x z ≡ p z) e
            (mark-word s x w b (omega arith)
            ∙ ap (λ (q : ℕ). word_mark q b) (get_or-set_same r (x * 4 + w) word 0 (omega (arith, h.long))) ∙ d b (omega arith)));
        before = λ i l. get_or-set_other r (x * 4 + w) i word 0 (λ e. lt_irrefl i (omega arith)) ∙ h.before i l;
        after = λ i l. get_or-set_other r (x * 4 + w) i word 0 (λ e. lt_irrefl i (omega arith)) ∙ h.after i (omega arith);
      }

  -- the word of two rows
  pub begun-either : w < 4 → (k : ℕ) → Word (either r₀ x k) (w * 64) (bit_or (get_or r (x * 4 + w) 0) (get_or r (k * 4 + w) 0))
  unfolding either
  begun-either lw k b l =
      mark-or (get_or r (x * 4 + w) 0) (get_or r (k * 4 + w) 0) b
      ∙ ap₂ ◌||◌ (ap (λ (q : ℕ). word_mark q b) (h.after (x * 4 + w) (omega arith)) ∙ sym (mark-word r₀ x w b l))
      (ap (λ (q : ℕ). word_mark q b) kept ∙ sym (mark-word r₀ k w b l))
    where
      kept : get_or r (k * 4 + w) 0 ≡ get_or r₀ (k * 4 + w) 0
      kept = on_below (k * 4 + w) (x * 4) (λ q. h.before (k * 4 + w) q) (λ q. h.after (k * 4 + w) (omega arith))

pub begun-end : {x : ℕ} {p : ℕ → Bool} {r₀ r : List ℕ} (w : ℕ) → RowBegun x w p r₀ r → w ≤ 4 → 4 ≤ w → RowIs x p r₀ r
unfolding row_mark
begun-end {x} w h a b = record {
  long = h.long;
  row = λ y l. h.row y (omega arith);
  others = λ u y lu ly ne. on_below u x
      (λ l. ap (λ (q : ℕ). word_mark q (y % 64)) (h.before (u * 4 + y / 64) (omega arith)))
      (λ l. ap (λ (q : ℕ). word_mark q (y % 64)) (h.after (u * 4 + y / 64) (omega arith)));
}

-- ---- rows filled one after the other

pub filled-first : (m : List ℕ) (n : ℕ) (r : List ℕ) → length r ≡ 1024 → RowsOf m n 0 r
filled-first m n r e = record { long = e; is = λ u y l. absurd (not-suc-le-zero l) }

pub filled_more : {m : List ℕ} {n x : ℕ} {r s : List ℕ} → n ≤ 256 → x < n → RowsOf m n x r → RowIs x (mark_below m n x) r s → RowsOf m n (x + 1) s
filled_more {m} {n} {x} {r} {s} ln lx h k = record {
  long = k.long;
  is = λ u y lu ly. on_same u x
      (λ e. rw e (k.row y ly))
      (λ ne. k.others u y (omega arith) ly ne ∙ h.is u y (omega arith) ly);
}

pub filled-end : {m : List ℕ} {n x : ℕ} {r : List ℕ} → RowsOf m n x r → x ≤ n → n ≤ x → RowsOf m n n r
filled-end {m} {n} {x} {r} h a b = subst (λ (z : ℕ). RowsOf m n z r) (le_antisymm a b) h

-- ---- marks counted word by word: w words so far

count-block : (p q : ℕ → Bool) (a b c d : ℕ) → c ≡ count p a → d ≡ count q b
    → ((i : ℕ) → i < b → p (a + i) ≡ q i) → c + d ≡ count p (a + b)
count-block p q a b c d e k h = omega (arith, count-plus p a b, count-ext (λ i. p (a + i)) q b h)

pub word_count_lem : (word : ℕ) → word < 2 ^ 64 → ones word ≡ word_count word
unfolding word_count
word_count_lem word l = ones-count 64 word l

pub row-count-more : (rows : List ℕ) (x w c d : ℕ) → c ≡ count (row_mark rows x) (w * 64)
    → d ≡ word_count (get_or rows (x * 4 + w) 0) → c + d ≡ count (row_mark rows x) ((w + 1) * 64)
unfolding word_count
row-count-more rows x w c d e k =
    count-block (row_mark rows x) (word_mark (get_or rows (x * 4 + w) 0)) (w * 64) 64 c d e k (λ i l. mark-word rows x w i l) ∙ ap (count (row_mark rows x)) (next w)
  where
    next : (v : ℕ) → v * 64 + 64 ≡ (v + 1) * 64
    next v = omega arith

pub row_count_lem : (rows : List ℕ) (x w c : ℕ) → c ≡ count (row_mark rows x) (w * 64) → w ≤ 4 → 4 ≤ w → c ≡ row_count rows x
unfolding row_count
row_count_lem rows x w c e a b = e ∙ ap (λ (v : ℕ). count (row_mark rows x) (v * 64)) (le_antisymm a b)
