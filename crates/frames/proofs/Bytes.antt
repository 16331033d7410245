-- Bytes as digits: where they are put, and their sums. Assumes nothing.
use mathlib.Core.Path.{◌≡◌, refl, ◌∙◌}
use mathlib.Core.Bool.{Bool, true}
use mathlib.Core.Logic.{◌⊎◌, ⊎_elim}
use mathlib.Core.List.{List, [], ◌∷◌, ◌++◌}
use Prim.Native.Nat.{ℕ, ◌+◌, ◌-◌, ◌*◌, ◌/◌, ◌%◌, ◌≤◌, ◌<◌}
use native.Mathlib.Nat.{le_antisymm, not-suc-le-zero, le_of_suc-le-suc, eq-or-lt_of_le}
use native.Mathlib.Numerals.{add-one}
use native.Mathlib.Omega.{arith}
use lib.Dec.{eqb}
use lib.ListN.{length, get_or, set, length-set}
use lib.Seq.{get_or-set_same, get_or-set_other}
use borrow.Author.Tests.{eqb-true}
use Rattle.lists.specs.Tests.{◌and◌, every}
use Rattle.lists.specs.Lists.{over, flat, sum_over}
use Rattle.lists.specs.Inner.{over_at}
use borrow.Rule.Slice.PartMut.{put_mid}
use Rattle.lists.proofs.Every.{every-at}
use Rattle.lists.proofs.OverAt.{over-at-pair}
use Rattle.frames.specs.Frames.{byte_values, byte_of, number_bytes, short_bytes, byte_sum, balance, digit, byte_digits, digits, line_feed}
use Rattle.frames.specs.Put.{number_digits, Put}
use Rattle.frames.specs.Pairs.{Pairs}
use Rattle.frames.proofs.Laws.{put-append, put_as}

-- ---- the table of digits

abbrev pub table : List ℕ
table = 48 ∷ 49 ∷ 50 ∷ 51 ∷ 52 ∷ 53 ∷ 54 ∷ 55 ∷ 56 ∷ 57 ∷ 65 ∷ 66 ∷ 67 ∷ 68 ∷ 69 ∷ 70 ∷ []

right : ℕ → Bool
right k = eqb (get_or table k 0) (digit k)

-- each of its sixteen entries is the digit
rule : every right 16 ≡ true
unfolding every ◌and◌ right digit
rule = refl

pub table-digit : (k : ℕ) → k < 16 → get_or table k 0 ≡ digit k
unfolding right
table-digit k h = eqb-true (get_or table k 0) (digit k) (every-at right 16 k rule h)

-- ---- the digits of every byte: those of the bytes below b

pub pairs-none : (ps : List ℕ) → length ps ≡ byte_values * 2 → Pairs 0 ps
pairs-none ps e = record { sized = e; high = λ c h. absurd (not-suc-le-zero h); low = λ c h. absurd (not-suc-le-zero h) }

module _ (b : ℕ) (ps : List ℕ) (p : Pairs b ps) (h : b < byte_values) where
  abbrev x : ℕ
  x = get_or table (b / 16) 0

  abbrev y : ℕ
  y = get_or table (b % 16) 0

  b-or-below : (c : ℕ) → c < b + 1 → (c ≡ b) ⊎ (c < b)
  b-or-below c l = eq-or-lt_of_le (le_of_suc-le-suc (rw (← add-one b) l))

  high-more : (c : ℕ) → c < b + 1 → get_or (set (set ps (b * 2) x) (b * 2 + 1) y) (c * 2) 0 ≡ digit (c / 16)
  high-more c l =
      get_or-set_other (set ps (b * 2) x) (b * 2 + 1) (c * 2) y 0 (λ e. omega arith)
      ∙ ⊎_elim (λ q. rw q (get_or-set_same ps (b * 2) x 0 (omega (arith, p.sized)) ∙ table-digit (b / 16) (omega arith)))
      (λ k. get_or-set_other ps (b * 2) (c * 2) x 0 (λ e. omega arith) ∙ p.high c k) (b-or-below c l)

  low-more : (c : ℕ) → c < b + 1 → get_or (set (set ps (b * 2) x) (b * 2 + 1) y) (c * 2 + 1) 0 ≡ digit (c % 16)
  low-more c l =
      ⊎_elim (λ q. rw q (get_or-set_same (set ps (b * 2) x) (b * 2 + 1) y 0 (simp length-set (omega (arith, p.sized))) ∙ table-digit (b % 16) (omega arith)))
      (λ k. get_or-set_other (set ps (b * 2) x) (b * 2 + 1) (c * 2 + 1) y 0 (λ e. omega arith) ∙ get_or-set_other ps (b * 2) (c * 2 + 1) x 0 (λ e. omega arith) ∙ p.low c k) (b-or-below c l)

  pub pairs-more : Pairs (b + 1) (set (set ps (b * 2) x) (b * 2 + 1) y)
  pairs-more = record { sized = simp length-set p.sized; high = high-more; low = low-more }

pub pairs_end : (b : ℕ) (ps : List ℕ) → Pairs b ps → b ≤ byte_values → byte_values ≤ b → Pairs byte_values ps
pairs_end b ps p h l = rw (← le_antisymm h l) p

-- ---- a byte's two digits

-- ps holds the digits of every byte
pub byte_put : (at b : ℕ) (ps text : List ℕ) → Pairs byte_values ps → b < byte_values → at + 2 ≤ length text
    → Put at 2 (byte_digits b) text (set (set text at (get_or ps (b * 2) 0)) (at + 1) (get_or ps (b * 2 + 1) 0)) (at + 2)
unfolding byte_digits
byte_put at b ps text p h f = record {
  sized = refl;
  fits = f;
  reached = refl;
  wrote = rw (p.high b h, p.low b h) (over-at-pair text at (digit (b / 16)) (digit (b % 16)) f);
}

-- b is the byte k
pub byte-is : (at b k : ℕ) (before : List ℕ) → b ≡ k → (after : List ℕ) (next : ℕ) → Put at 2 (byte_digits b) before after next → Put at 2 (byte_digits k) before after next
byte-is at b k before e after next p = rw (← e) p

-- ---- bytes copied: part is what stands in the place of s now

pub bytes-copied : (at : ℕ) (s d part : List ℕ) → part ≡ s → at + length s ≤ length d
    → Put at (length s) s d (put_mid at (at + length s - at) d part) (at + length s)
unfolding over over_at
bytes-copied at s d part q f =
    let e : at + length s - at ≡ length s = omega arith in
    record { sized = refl; fits = f; reached = refl; wrote = rw (e, q) refl }

-- ---- numbers; w is what `wide` made of x

pub short-put : (x : ℕ) {at p q : ℕ} {a b c : List ℕ} → Put at 2 (byte_digits (byte_of x byte_values)) a b p → Put p 2 (byte_digits (byte_of x 1)) b c q
    → Put at 4 (digits (short_bytes x)) a c q
unfolding digits flat short_bytes byte_digits
short-put x f g = put_as refl refl (put-append f g)

pub number_put : (x w : ℕ) {at p q r s : ℕ} {a b c d e : List ℕ} → w ≡ x → Put at 2 (byte_digits (byte_of w 16777216)) a b p → Put p 2 (byte_digits (byte_of w 65536)) b c q
    → Put q 2 (byte_digits (byte_of w byte_values)) c d r → Put r 2 (byte_digits (byte_of w 1)) d e s → Put at 8 (number_digits x) a e s
unfolding number_digits digits flat number_bytes byte_digits
number_put x w i f g h k = put_as refl (rw i) (put-append f (put-append g (put-append h k)))

pub short-sum-is : (x a b : ℕ) → a ≡ byte_of x byte_values → b ≡ byte_of x 1 → (a + b ≡ byte_sum (short_bytes x)) × (a + b ≤ 510)
unfolding sum_over short_bytes
short-sum-is x a b p q = (omega arith, omega arith)

pub number-sum-is : (x w a b c d : ℕ) → w ≡ x → a ≡ byte_of w 16777216 → b ≡ byte_of w 65536 → c ≡ byte_of w byte_values → d ≡ byte_of w 1
    → (a + b + c + d ≡ byte_sum (number_bytes x)) × (a + b + c + d ≤ 1020)
unfolding sum_over number_bytes
number-sum-is x w a b c d e p q r s = (rw (p, q, r, s, e) (omega arith), omega arith)

-- ---- the last byte of a frame, and the line feed; b is what `balance` made of the sum

pub balance-low : (sum b : ℕ) → b ≡ balance sum → b < byte_values
unfolding balance
balance-low sum b e = omega arith

pub end-put : (sum k : ℕ) {at p q : ℕ} {a b c : List ℕ} → k ≡ balance sum → Put at 2 (byte_digits k) a b p → Put p 1 line_feed b c q → Put at 3 (byte_digits (balance sum) ++ line_feed) a c q
end-put sum k e f g = put_as refl (rw e) (put-append f g)
