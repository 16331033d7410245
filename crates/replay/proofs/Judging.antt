-- Laws of answers, sums and listings. Assumes nothing.
use Rattle.std.proofs.Common.{◌≡◌, ℕ, ◌+◌, ◌-◌, ◌<◌, ◌≤◌, min, Bool, true, false, eqb, List, length, get_or, refl, ◌∙◌, add-one, arith, le-ltb, lt-ltb, eq-eqb, ne_eqb}
use Rattle.lists.specs.Tests.{◌and◌, every}
use Rattle.lists.proofs.Cases.{on_below, and-false-right, and-true}
use Rattle.replay.specs.declared.Value.{Value}
use Rattle.replay.specs.declared.LongValue.{LongValue}
use Rattle.replay.specs.declared.Recorded.{Recorded}
use Rattle.replay.specs.declared.Held.{Held}
use Rattle.replay.specs.Records.{byte_read, eight_read, word_read, after_words, word_number}
use Rattle.replay.specs.Judging.{counted_in, recorded, given_at, same_reply, held_as, answer_at, after_count, counted_at, mixed, sum_start, sum_of, summed_at, same_word, words_at, listed_at, with_answer, listing_at, rows_after, lists_read}
use Rattle.replay.proofs.Tallied.{none-there}

module _ (s : List ℕ) (p : ℕ) (first : Value) (e : first ≡ byte_read s p) where
  pub given-short : first.value < 240 → recorded 0 first.value first.at ≡ given_at s p
  unfolding given_at
  given-short h = rw (← e, lt-ltb first.value 240 h)

  pub given-long : (w : Value) → w ≡ word_read s first.at → 240 ≤ first.value → recorded (first.value - 240) w.value w.at ≡ given_at s p
  unfolding given_at
  given-long w f h = rw (← e, le-ltb first.value 240 h, f)

module _ (number detail : ℕ) (g : Recorded) where
  pub same_number : number ≡ g.number → eqb detail g.detail ≡ same_reply number detail g
  unfolding same_reply ◌and◌
  same_number e = rw (eq-eqb number g.number e)

  pub another-number : (number ≡ g.number → ⊥) → eqb number g.number ≡ same_reply number detail g
  unfolding same_reply ◌and◌
  another-number h = rw (ne_eqb number g.number h)

-- both tests, the second where the first passes
pub both-then : (a b : Bool) → a ≡ true → b ≡ (a and b)
unfolding ◌and◌
both-then a b e = rw e

pub both-else : (a b : Bool) → a ≡ false → a ≡ (a and b)
unfolding ◌and◌
both-else a b e = rw e

-- ---- sums

byte-value : (s : List ℕ) (k : ℕ) → (byte_read s k).value ≡ get_or s k 0
unfolding byte_read
byte-value s k =
    on_below k (length s)
    (λ h. rw (lt-ltb k (length s) h))
    (λ h. rw (le-ltb k (length s) h, ← none-there s k h))

pub sum-none : (ws : List ℕ) → sum_start ≡ sum_of ws 0
unfolding sum_of
sum-none ws = refl

module _ (ws : List ℕ) (sum k : ℕ) (e : sum ≡ sum_of ws k) where
  pub sum_more : (x y : ℕ) → x ≡ get_or ws k 0 → y ≡ mixed sum x → y ≡ sum_of ws (k + 1)
  unfolding sum_of
  sum_more x y f g = rw (g, f, e, add-one k)

  pub sum-byte : (b : Value) (y : ℕ) → b ≡ byte_read ws k → y ≡ mixed sum b.value → y ≡ sum_of ws (k + 1)
  sum-byte b y f g = sum_more b.value y (rw f (byte-value ws k)) g

  pub sum-all : (n : ℕ) → k ≤ n → n ≤ k → sum ≡ sum_of ws n
  sum-all n a b = let same : k ≡ n = omega arith in e ∙ rw same

pub summed-there : (s : List ℕ) (p sum : ℕ) (x : LongValue) → x ≡ eight_read s p → held_as (eqb x.value sum) x.at ≡ summed_at s p sum
unfolding summed_at
summed-there s p sum x e = rw e

-- ---- listings

pub same_none : (s : List ℕ) (p : ℕ) (ws : List ℕ) → true ≡ every (same_word s p ws) 0
unfolding every
same_none s p ws = refl

module _ (s : List ℕ) (p : ℕ) (ws : List ℕ) (same : Bool) (k : ℕ) (e : same ≡ every (same_word s p ws) k) where
  module _ (here : ℕ) (w : Value) (x : ℕ) (f : here ≡ after_words s p k) (g : w ≡ word_read s here) (h : x ≡ get_or ws k 0) where
    this-word : same_word s p ws k ≡ eqb w.value x
    unfolding same_word word_number
    this-word = rw (g, f, h)

    pub differs-here : (next : Bool) → (w.value ≡ x → ⊥) → next ≡ false → next ≡ every (same_word s p ws) (k + 1)
    unfolding every
    differs-here next ne q = q ∙ rw (add-one k, this-word, ne_eqb w.value x ne, and-false-right (every (same_word s p ws) k) false refl)

    pub same_here : (next : Bool) → w.value ≡ x → next ≡ same → next ≡ every (same_word s p ws) (k + 1)
    unfolding every
    same_here next eq q = q ∙ e ∙ rw (add-one k, this-word, eq-eqb w.value x eq, and-true (every (same_word s p ws) k))

  pub same-all : (n here : ℕ) → here ≡ after_words s p k → k ≤ n → n ≤ k → held_as same here ≡ words_at s p ws n
  unfolding words_at
  same-all n here f a b = let whole : k ≡ n = omega arith in rw (e, f, whole)

module _ (s : List ℕ) (p : ℕ) (ws : List ℕ) (n : ℕ) (h : Held) where
  pub listed-long : (m sum : ℕ) → 16 < n → m ≡ min n (length ws) → sum ≡ sum_of ws m → h ≡ summed_at s p sum → h ≡ listed_at s p ws n
  unfolding listed_at
  listed-long m sum l e f g = rw (g, f, e, lt-ltb 16 n l)

  pub listed-short : n ≤ 16 → h ≡ words_at s p ws n → h ≡ listed_at s p ws n
  unfolding listed_at
  listed-short l e = rw (e, le-ltb 16 n l)

-- ---- what is counted

-- g is what is recorded, and same says whether its number and detail are the answer's
module _ (s : List ℕ) (p : ℕ) (number detail : ℕ) (f : ℕ) (ws : List ℕ) (g : Recorded) (e : g ≡ given_at s p) where
  module _ (r₀ r₁ : ℕ) (n : r₀ ≡ number) (d : r₁ ≡ detail) (same : Bool) (q : same ≡ same_reply r₀ r₁ g) where
    pub answer-judged : (left : List ℕ) → left ≡ counted_in f same ws → after_count g.at left ≡ counted_at f (answer_at s p number detail) ws
    unfolding counted_at answer_at
    answer-judged left l = rw (l, q, n, d, e)

    module _ (h : Held) (total : Bool) (b : total ≡ (same and h.same)) where
      pub listing-judged : (left : List ℕ) (out : List ℕ) → (g.number ≡ 0) → h ≡ listed_at s g.at out g.detail → left ≡ counted_in f total ws
          → after_count h.at left ≡ counted_at f (listing_at s p number detail out) ws
      unfolding counted_at listing_at with_answer
      listing-judged left out z i l = rw (l, b, q, n, d, ← e, eq-eqb g.number 0 z, i)

      pub lists-judged : (left : List ℕ) (out : List ℕ) (m sum : ℕ) → (g.number ≡ 0) → m ≡ min g.detail (length out) → sum ≡ (rows_after out m).total
          → h ≡ summed_at s g.at sum → left ≡ counted_in f total ws → after_count h.at left ≡ counted_at f (lists_read s p number detail out) ws
      unfolding counted_at lists_read with_answer
      lists-judged left out m sum z j k i l = rw (l, b, q, n, d, ← e, eq-eqb g.number 0 z, i, k, j)

    pub refusal-judged : (left : List ℕ) (h : Held) → (g.number ≡ 0 → ⊥) → left ≡ counted_in f same ws → after_count g.at left ≡ counted_at f (with_answer s p number detail h) ws
    unfolding with_answer
    refusal-judged left h z l = rw (← e, ne_eqb g.number 0 z) (answer-judged left l)
