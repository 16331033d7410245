-- Lines: what their parts, put one after the other, make up, and their sums. Assumes nothing.
use mathlib.Core.Path.{◌≡◌, refl, sym, ap, ◌∙◌}
use mathlib.Core.List.{List, [], ◌∷◌, ◌++◌, append_assoc}
use Prim.Native.Nat.{ℕ, ◌+◌, ◌-◌, ◌*◌, ◌%◌, ◌≤◌, ◌<◌}
use native.Mathlib.Numerals.{add-one}
use native.Mathlib.Omega.{arith}
use lib.ListN.{length, get_or, take}
use lib.Seq.{take-suc, take_all}
use Rattle.lists.specs.Lists.{flat, sum_over}
use Rattle.lists.proofs.Flat.{flat_append, flat-snoc}
use Rattle.lists.proofs.OverAt.{over-at-none}
use Rattle.layout.specs.Content.{vertex_of, hyperedge_of}
use Rattle.frames.specs.Frames.{byte_values, number_bytes, short_bytes, head_frame, vertex_frame, hyperedge_frame, byte_sum, balance, check, sealed, digit, byte_digits, digits, line_feed, line, vertex_line, hyperedge_line, head_length, vertex_length, member_length, hyperedge_length}
use Rattle.frames.specs.Put.{number_digits, Put}
use Rattle.frames.proofs.Laws.{put-append, put_as}

pub sum-append : (xs ys : List ℕ) → byte_sum (xs ++ ys) ≡ byte_sum xs + byte_sum ys
unfolding sum_over
sum-append [] ys = omega arith
sum-append (x ∷ xs) ys = omega (arith, sum-append xs ys)

-- the last byte of a frame makes its byte sum 0 modulo 256
pub sealed-sum : (frame : List ℕ) → byte_sum (sealed frame) % byte_values ≡ 0
unfolding sealed check balance sum_over
sealed-sum frame = rw sum-append (one (byte_sum frame))
  where
    one : (s : ℕ) → (s + byte_sum ((byte_values - s % byte_values) % byte_values ∷ [])) % byte_values ≡ 0
    one s = omega arith

-- the digits of a frame, then its last byte and the line feed
line-put : (frame : List ℕ) (sum : ℕ) {at n p q : ℕ} {a b c : List ℕ} → sum ≡ byte_sum frame → Put at n (digits frame) a b p → Put p 3 (byte_digits (balance sum) ++ line_feed) b c q
    → Put at (n + 3) (line frame) a c q
unfolding line sealed check digits
line-put frame sum e f g = put_as refl line-is (put-append f g)
  where
    line-is : flat byte_digits frame ++ (byte_digits (balance sum) ++ line_feed) ≡ flat byte_digits (frame ++ (balance (byte_sum frame) ∷ [])) ++ line_feed
    line-is = rw (e, flat-snoc) (sym (append_assoc (flat byte_digits frame) (byte_digits (balance (byte_sum frame))) line_feed))

-- ---- the head line

-- 484731
abbrev pub opening : List ℕ
opening = 52 ∷ 56 ∷ 52 ∷ 55 ∷ 51 ∷ 49 ∷ []

head-is : (x y n m : ℕ) → opening ++ (number_digits x ++ (number_digits y ++ (digits (short_bytes n) ++ digits (short_bytes m)))) ≡ digits (head_frame x y n m)
unfolding head_frame number_digits digits flat number_bytes short_bytes byte_digits digit
head-is x y n m = refl

head-sum : (x y n m : ℕ) {a b c d : ℕ} → a ≡ byte_sum (number_bytes x) → b ≡ byte_sum (number_bytes y) → c ≡ byte_sum (short_bytes n) → d ≡ byte_sum (short_bytes m)
    → 72 + 71 + 49 + (a + b) + (c + d) ≡ byte_sum (head_frame x y n m)
unfolding head_frame sum_over
head-sum x y n m e f g h = simp sum-append (omega arith)

pub head-put : (x y n m : ℕ) {p q r s u v i j k l : ℕ} {a b c d e f g : List ℕ}
    → Put 0 6 opening a b p → Put p 8 (number_digits x) b c q → Put q 8 (number_digits y) c d r → Put r 4 (digits (short_bytes n)) d e s → Put s 4 (digits (short_bytes m)) e f u
    → i ≡ byte_sum (number_bytes x) → j ≡ byte_sum (number_bytes y) → k ≡ byte_sum (short_bytes n) → l ≡ byte_sum (short_bytes m)
    → Put u 3 (byte_digits (balance (72 + 71 + 49 + (i + j) + (k + l))) ++ line_feed) f g v → Put 0 head_length (line (head_frame x y n m)) a g v
head-put x y n m o p q r s ei ej ek el z =
    line-put (head_frame x y n m) _ (head-sum x y n m ei ej ek el) (put_as refl (head-is x y n m) (put-append o (put-append p (put-append q (put-append r s))))) z

-- ---- what the line of a record begins with: its kind, number and weight

abbrev record_digits : ℕ → ℕ → ℕ → List ℕ
record_digits kind x w = byte_digits kind ++ (number_digits x ++ number_digits w)

pub record-put : (kind x w : ℕ) {at p q r : ℕ} {a b c d : List ℕ} → Put at 2 (byte_digits kind) a b p → Put p 8 (number_digits x) b c q → Put q 8 (number_digits w) c d r
    → Put at 18 (record_digits kind x w) a d r
record-put kind x w o p q = put-append o (put-append p q)

-- ---- a vertex line

vertex-is : (x w : ℕ) → record_digits 1 x w ≡ digits (vertex_frame (vertex_of x w))
unfolding vertex_frame number_digits digits flat number_bytes byte_digits
vertex-is x w = refl

vertex-sum : (x w : ℕ) {a b : ℕ} → a ≡ byte_sum (number_bytes x) → b ≡ byte_sum (number_bytes w) → 1 + a + b ≡ byte_sum (vertex_frame (vertex_of x w))
unfolding vertex_frame sum_over
vertex-sum x w e f = simp sum-append (omega arith)

pub vertex-put : (x w : ℕ) {at p q i j : ℕ} {a b c : List ℕ}
    → Put at 18 (record_digits 1 x w) a b p → i ≡ byte_sum (number_bytes x) → j ≡ byte_sum (number_bytes w)
    → Put p 3 (byte_digits (balance (1 + i + j)) ++ line_feed) b c q → Put at vertex_length (vertex_line (vertex_of x w)) a c q
unfolding vertex_line
vertex-put x w o ei ej z = line-put (vertex_frame (vertex_of x w)) _ (vertex-sum x w ei ej) (put_as refl (vertex-is x w) o) z

-- ---- the members of a hyperedge line: i of them

pub put-none : (at : ℕ) (text : List ℕ) → at ≤ length text → Put at 0 [] text text at
put-none at text h = record { sized = refl; fits = omega arith; reached = omega arith; wrote = sym (over-at-none at text) }

flat-more : (f : ℕ → List ℕ) (ms : List ℕ) (i : ℕ) → i < length ms → flat f (take i ms) ++ f (get_or ms i 0) ≡ flat f (take (i + 1) ms)
flat-more f ms i h = sym (rw (add-one i, take-suc ms i 0 h) (flat-snoc f (take i ms) (get_or ms i 0)))

module _ (ms : List ℕ) where
  pub members-none : (at : ℕ) (text : List ℕ) → at ≤ length text → Put at (0 * member_length) (flat number_digits (take 0 ms)) text text at
  unfolding flat
  members-none at text h = put-none at text h

  pub members-more : {at i p q : ℕ} {a b c : List ℕ} → i < length ms → Put at (i * member_length) (flat number_digits (take i ms)) a b p → Put p 8 (number_digits (get_or ms i 0)) b c q
      → Put at ((i + 1) * member_length) (flat number_digits (take (i + 1) ms)) a c q
  members-more {i = i} h f g = put_as (omega arith) (flat-more number_digits ms i h) (put-append f g)

  pub members-end : {at i p : ℕ} {a b : List ℕ} → i ≤ length ms → length ms ≤ i → Put at (i * member_length) (flat number_digits (take i ms)) a b p
      → Put at (length ms * member_length) (flat number_digits ms) a b p
  members-end {i = i} h l f = put_as (omega arith) (ap (flat number_digits) (take_all i ms l)) f

  pub sum-none : 0 ≡ byte_sum (flat number_bytes (take 0 ms))
  unfolding sum_over flat
  sum-none = refl

  pub sum_more : {i sum x : ℕ} → i < length ms → sum ≡ byte_sum (flat number_bytes (take i ms)) → x ≡ byte_sum (number_bytes (get_or ms i 0))
      → sum + x ≡ byte_sum (flat number_bytes (take (i + 1) ms))
  sum_more {i} h e f = rw (e, f, ← sum-append) (ap byte_sum (flat-more number_bytes ms i h))

  pub sum-end : {i sum : ℕ} → length ms ≤ i → sum ≡ byte_sum (flat number_bytes (take i ms)) → sum ≡ byte_sum (flat number_bytes ms)
  sum-end {i} l e = e ∙ ap (λ (xs : List ℕ). byte_sum (flat number_bytes xs)) (take_all i ms l)

-- ---- a hyperedge line

members-are : (ms : List ℕ) → flat number_digits ms ≡ flat byte_digits (flat number_bytes ms)
unfolding flat number_digits digits
members-are [] = refl
members-are (x ∷ ms) = ap (λ (r : List ℕ). flat byte_digits (number_bytes x) ++ r) (members-are ms) ∙ sym (flat_append byte_digits (number_bytes x) (flat number_bytes ms))

module _ (x w : ℕ) (ms : List ℕ) where
  hyperedge-is : record_digits 2 x w ++ (byte_digits (length ms) ++ flat number_digits ms) ≡ digits (hyperedge_frame (hyperedge_of x w ms))
  unfolding hyperedge_frame number_digits digits flat number_bytes byte_digits
  hyperedge-is = ap (λ (r : List ℕ). record_digits 2 x w ++ (byte_digits (length ms) ++ r)) (members-are ms) ∙ computed (flat number_bytes ms)
    where
      computed : (rest : List ℕ) → record_digits 2 x w ++ (byte_digits (length ms) ++ flat byte_digits rest) ≡ flat byte_digits (2 ∷ (number_bytes x ++ (number_bytes w ++ (length ms ∷ rest))))
      computed rest = refl

  pub hyperedge-sum : {a b c : ℕ} → a ≡ byte_sum (number_bytes x) → b ≡ byte_sum (number_bytes w) → c ≡ byte_sum (flat number_bytes ms)
      → 2 + (a + b) + length ms + c ≡ byte_sum (hyperedge_frame (hyperedge_of x w ms))
  unfolding hyperedge_frame sum_over
  hyperedge-sum e f g = simp sum-append (omega arith)

  pub hyperedge-put : {at p q r s sum : ℕ} {a b c d e : List ℕ}
      → Put at 18 (record_digits 2 x w) a b p → Put p 2 (byte_digits (length ms)) b c q → Put q (length ms * member_length) (flat number_digits ms) c d r
      → sum ≡ byte_sum (hyperedge_frame (hyperedge_of x w ms)) → Put r 3 (byte_digits (balance sum) ++ line_feed) d e s
      → Put at (hyperedge_length (length ms)) (hyperedge_line (hyperedge_of x w ms)) a e s
  unfolding hyperedge_line
  hyperedge-put o p q es z =
      put_as (omega arith) refl (line-put (hyperedge_frame (hyperedge_of x w ms)) _ es (put_as refl hyperedge-is (put-append o (put-append p q))) z)
