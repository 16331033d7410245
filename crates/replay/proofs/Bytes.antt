-- Laws of what stands in the bytes. Assumes nothing.
use Rattle.std.proofs.Common.{◌≡◌, ℕ, ◌+◌, ◌*◌, ◌%◌, ◌<◌, ◌≤◌, List, length, get_or, take, set, sym, refl, ◌∙◌, add-one, arith, length-take-le, le-ltb, lt-ltb, eq-eqb, ne_eqb, le-leb}
use lib.Bits.{bit_or, or_shifted_r}
use borrow.Author.Tests.{lt-leb}
use Rattle.lists.specs.Lists.{over, tab}
use Rattle.lists.proofs.Chosen.{over-more}
use Rattle.lists.proofs.Tab.{length-tab, tab-suc}
use Rattle.replay.specs.declared.Value.{Value}
use Rattle.replay.specs.declared.LongValue.{LongValue}
use Rattle.replay.specs.declared.Extent.{Extent}
use Rattle.replay.specs.Records.{lost, value_of, byte_read, two_read, four_read, eight_read, word_read, after_words, word_number, extent_at, list_at}

module _ (s : List ℕ) (p : ℕ) where
  pub byte-there : (v : ℕ) → v ≡ get_or s p 0 → p < length s → value_of v (p + 1) ≡ byte_read s p
  unfolding byte_read
  byte-there v e h = rw (e, lt-ltb p (length s) h)

  pub byte-lost : length s ≤ p → value_of 0 lost ≡ byte_read s p
  unfolding byte_read
  byte-lost h = rw (le-ltb p (length s) h)

  pub two_bytes : (low high : Value) → low ≡ byte_read s p → high ≡ byte_read s low.at → value_of (low.value + 256 * high.value) high.at ≡ two_read s p
  unfolding two_read
  two_bytes low high e h = rw (h, e)

  pub four_bytes : (low high : Value) → low ≡ two_read s p → high ≡ two_read s low.at → value_of (low.value + 65536 * high.value) high.at ≡ four_read s p
  unfolding four_read
  four_bytes low high e h = rw (h, e)

  pub eight-bytes : (low high : Value) (n : ℕ) → low ≡ four_read s p → high ≡ four_read s low.at → n ≡ low.value + 4294967296 * high.value
      → ◌≡◌ {A = LongValue} (record { value = n; at = high.at }) (eight_read s p)
  unfolding eight_read
  eight-bytes low high n e h j = rw (j, h, e)

  module _ (first : Value) (e : first ≡ byte_read s p) where
    pub word-short : first.value < 254 → first ≡ word_read s p
    unfolding word_read
    word-short h = rw (← e, lt-ltb first.value 254 h)

    pub word-of-two : (w : Value) → w ≡ two_read s first.at → 254 ≤ first.value → first.value ≡ 254 → w ≡ word_read s p
    unfolding word_read
    word-of-two w f h k = f ∙ rw (← e, le-ltb first.value 254 h, eq-eqb first.value 254 k)

    pub word-of-four : (w : Value) → w ≡ four_read s first.at → 254 ≤ first.value → (first.value ≡ 254 → ⊥) → w ≡ word_read s p
    unfolding word_read
    word-of-four w f h k = f ∙ rw (← e, le-ltb first.value 254 h, ne_eqb first.value 254 k)

-- two halves side by side
pub joined : (low high : ℕ) → low < 4294967296 → high < 4294967296 → bit_or low (high * 4294967296 % 18446744073709551616) ≡ low + 4294967296 * high
joined low high l h =
    let fits : high * 4294967296 % 18446744073709551616 ≡ high * 4294967296 = omega arith in
    rw (fits, or_shifted_r high 32 low l) (omega arith)

-- ---- words one after the other

pub after_none : (s : List ℕ) (p : ℕ) → p ≡ after_words s p 0
unfolding after_words
after_none s p = refl

pub filled_none : (s : List ℕ) (p : ℕ) (d : List ℕ) → d ≡ over (tab (word_number s p) 0) d
unfolding tab over
filled_none s p d = refl

module _ (s : List ℕ) (p : ℕ) (here k : ℕ) (e : here ≡ after_words s p k) where
  pub after_more : (w : Value) → w ≡ word_read s here → w.at ≡ after_words s p (k + 1)
  unfolding after_words
  after_more w f = rw (f, e, add-one k)

  pub filled_more : (d list : List ℕ) (n : ℕ) (w : Value) → w ≡ word_read s here → list ≡ over (tab (word_number s p) k) d → k < n → n ≤ length list
      → length list ≡ length d → set list k w.value ≡ over (tab (word_number s p) (k + 1)) d
  unfolding word_number
  filled_more d list n w f g h room kept =
      let x : w.value ≡ word_number s p k = rw (f, e) in
      rw (g, x, over-more (tab (word_number s p) k) d (word_number s p k) k (length-tab (word_number s p) k) (omega arith), add-one k, tab-suc (word_number s p) k)

  pub after-all : (n : ℕ) → k ≤ n → n ≤ k → here ≡ after_words s p n
  after-all n a b = let same : k ≡ n = omega arith in e ∙ rw same

pub filled-all : (s : List ℕ) (p k n : ℕ) (d list : List ℕ) → list ≡ over (tab (word_number s p) k) d → k ≤ n → n ≤ k → list ≡ over (tab (word_number s p) n) d
filled-all s p k n d list e a b = let same : k ≡ n = omega arith in e ∙ rw same

-- ---- a list

pub count_kept : (n : ℕ) (xs ys : List ℕ) → n ≤ length xs → length ys ≡ length xs → n ≡ length (take n ys)
count_kept n xs ys fits same = sym (length-take-le n ys (omega arith))

module _ (s : List ℕ) (p : ℕ) (d : List ℕ) (n : Value) (e : n ≡ byte_read s p) where
  module _ (h : length d < n.value) where
    pub list-too-long : ◌≡◌ {A = Extent} (record { count = 0; at = lost }) (extent_at s p (length d))
    unfolding extent_at
    list-too-long = rw (← e, lt-leb n.value (length d) h)

    pub list-unread : d ≡ over (list_at s p (length d)) d
    unfolding list_at tab over
    list-unread = rw (← list-too-long)

  module _ (h : n.value ≤ length d) where
    pub list-extent : (end : ℕ) → end ≡ after_words s n.at n.value → ◌≡◌ {A = Extent} (record { count = n.value; at = end }) (extent_at s p (length d))
    unfolding extent_at
    list-extent end f = rw (f, ← e, le-leb n.value (length d) h)

    pub list-words : (ws : List ℕ) → ws ≡ over (tab (word_number s n.at) n.value) d → ws ≡ over (list_at s p (length d)) d
    unfolding list_at
    list-words ws f = f ∙ rw (← list-extent _ refl, ← e)
