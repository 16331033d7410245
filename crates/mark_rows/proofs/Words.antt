-- Laws of a word's marks. Assumes nothing.
use mathlib.Core.Path.{◌≡◌, refl, sym, ap, ◌∙◌, subst}
use mathlib.Core.Bool.{Bool, true, false, ◌||◌}
use Prim.Native.Nat.{ℕ, zero, suc, ◌+◌, ◌-◌, ◌*◌, ◌/◌, ◌%◌, ◌^◌, ◌<◌}
use native.Mathlib.Nat.{mod-lt, mul_assoc, lt_irrefl, lt_of_lt_of_le}
use native.Mathlib.Omega.{arith}
use lib.Dec.{eqb, lit<}
use lib.Arith.{lt-one}
use lib.Pow.{pow_pos, pow-add, pow_mono, split, field, mod-mod-pow, shl_lt, shr_lt, shl-shr}
use lib.Bits.{bit_or, or_shr, or_mod, shifted_even}
use lib.Count.{ones, ones-le, ones_cat}
use borrow.Author.Tests.{eq-eqb, ne_eqb}
use Rattle.lists.specs.Tests.{◌and◌, bit, count}
use Rattle.lists.proofs.Cases.{on_same, on_below}
use Rattle.lists.proofs.Count.{bit_le, count-ext}
use Rattle.mark_rows.specs.Rows.{word_mark}

-- ---- digits of 0 and 1

lowest-or : (p q : ℕ) → p < 2 → q < 2 → eqb (bit_or p q) 1 ≡ (eqb p 1 || eqb q 1)
lowest-or zero q lp lq = refl
lowest-or (suc zero) zero lp lq = refl
lowest-or (suc zero) (suc zero) lp lq = refl
lowest-or (suc zero) (suc (suc q)) lp lq = absurd (lt_irrefl 0 (omega arith))
lowest-or (suc (suc p)) q lp lq = absurd (lt_irrefl 0 (omega arith))

low : (p : ℕ) → p < 2 → bit (eqb (p % 2) 1) ≡ p
low zero l = refl
low (suc zero) l = refl
low (suc (suc p)) l = absurd (lt_irrefl 0 (omega arith))

ones_low : (p : ℕ) → p < 2 → ones p ≡ p
unfolding ones
ones_low zero l = refl
ones_low (suc zero) l = refl
ones_low (suc (suc p)) l = absurd (lt_irrefl 0 (omega arith))

-- ---- what `|` does to a digit

pub mark-or : (a b i : ℕ) → word_mark (bit_or a b) i ≡ (word_mark a i || word_mark b i)
unfolding word_mark
mark-or a b i =
    ap (λ (q : ℕ). eqb (q % 2) 1) (or_shr a b i) ∙ ap (λ (q : ℕ). eqb q 1) (or_mod (a / 2 ^ i) (b / 2 ^ i) 1)
    ∙ lowest-or (a / 2 ^ i % 2) (b / 2 ^ i % 2) (mod-lt (a / 2 ^ i) (lit< tt)) (mod-lt (b / 2 ^ i) (lit< tt))

-- ---- a word with one mark, or none

mark-above : (word i : ℕ) → word < 2 ^ i → word_mark word i ≡ false
unfolding word_mark
mark-above word i l = ap (λ (q : ℕ). eqb (q % 2) 1) (lt-one (shr_lt 0 i (subst (λ (k : ℕ). word < 2 ^ k) (omega arith) l)))

pub mark-none : (i : ℕ) → word_mark 0 i ≡ false
mark-none i = mark-above 0 i (pow_pos i)

mark-same : (t : Bool) (b : ℕ) → word_mark (bit t * 2 ^ b) b ≡ t
unfolding word_mark
mark-same true b = ap (λ (q : ℕ). eqb (q % 2) 1) (shl-shr 1 b)
mark-same false b = ap (λ (q : ℕ). eqb (q % 2) 1) (shl-shr 0 b)

mark-under : (a d i : ℕ) → word_mark (a * 2 ^ (suc d + i)) i ≡ false
unfolding word_mark
mark-under a d i =
    let p : a * 2 ^ (suc d + i) ≡ a * 2 ^ suc d * 2 ^ i = ap (λ (q : ℕ). a * q) (pow-add 2 (suc d) i) ∙ sym (mul_assoc a (2 ^ suc d) (2 ^ i)) in
    ap (λ (q : ℕ). eqb (q % 2) 1) (ap (λ (q : ℕ). q / 2 ^ i) p ∙ shl-shr (a * 2 ^ suc d) i) ∙ ap (λ (q : ℕ). eqb q 1) (shifted_even a d)

pub mark-put : (t : Bool) (b i : ℕ) → word_mark (bit t * 2 ^ b) i ≡ (eqb i b and t)
unfolding ◌and◌
mark-put t b i =
    on_same i b
    (λ e. rw (e, eq-eqb b b refl) (mark-same t b))
    (λ ne. rw (ne_eqb i b ne) (on_below i b
    (λ l. ap (λ (k : ℕ). word_mark (bit t * 2 ^ k) i) (omega arith) ∙ mark-under (bit t) (b - suc i) i)
    (λ g. mark-above (bit t * 2 ^ b) i (lt_of_lt_of_le (shl_lt 1 b (omega (arith, bit_le t))) (pow_mono (omega arith))))))

-- ---- how many digits are 1

mark-below : (word k i : ℕ) → i < k → word_mark (word % 2 ^ k) i ≡ word_mark word i
unfolding word_mark
mark-below word k i l =
    let d : ℕ = k - suc i in
    ap (λ (j : ℕ). eqb (word % 2 ^ j / 2 ^ i % 2) 1) (omega arith) ∙ ap (λ (q : ℕ). eqb (q % 2) 1) (field word (d + 1) i)
    ∙ ap (λ (q : ℕ). eqb q 1) (mod-mod-pow (word / 2 ^ i) d 1)

highest : (word k : ℕ) → word / 2 ^ k < 2 → bit (word_mark word k) ≡ word / 2 ^ k
unfolding word_mark
highest word k l = low (word / 2 ^ k) l

pub ones-count : (k word : ℕ) → word < 2 ^ k → ones word ≡ count (word_mark word) k
ones-count zero word l = omega (arith, ones-le 0 word l)
ones-count (suc k) word l =
    let a : ℕ = word / 2 ^ k in
    let r : ℕ = word % 2 ^ k in
    let la : a < 2 = shr_lt 1 k (subst (λ (j : ℕ). word < 2 ^ j) (omega arith) l) in
    let lr : r < 2 ^ k = mod-lt word (pow_pos k) in
    omega (
      arith,
      ap ones (sym (split word k)) ∙ ones_cat k a r lr,
      ones_low a la,
      highest word k la,
      ones-count k r lr,
      count-ext (word_mark r) (word_mark word) k (λ i h. mark-below word k i h),
    )
