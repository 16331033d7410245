-- Digits read back: the bytes of a text, and the lines that they make up. Assumes nothing.
use mathlib.Core.Path.{◌≡◌, refl, sym, ap, ap₂, ◌∙◌}
use mathlib.Core.Bool.{Bool, true}
use mathlib.Core.Logic.{◌⊎◌, inl, inr, ⊎_elim}
use mathlib.Core.List.{List, [], ◌∷◌, ◌++◌, append_assoc}
use Prim.Native.Nat.{ℕ, zero, suc, ◌+◌, ◌-◌, ◌*◌, ◌/◌, ◌%◌, ◌≤◌, ◌<◌}
use native.Mathlib.Nat.{add-zero, zero-add}
use native.Mathlib.Numerals.{add-one}
use native.Mathlib.Omega.{arith}
use lib.Dec.{eqb}
use lib.ListN.{length, get_or, take, drop, length-append, length-drop, take-append-drop}
use lib.Seq.{drop-cons, drop-drop, take_at, get_or-drop}
use borrow.Author.Tests.{ltb-true, lt-ltb, le-ltb, eqb-true, eq-eqb}
use Rattle.lists.proofs.All.{all_append}
use Rattle.lists.specs.Tests.{◌and◌, every}
use Rattle.lists.specs.Lists.{all, is_below, same_list, tab, flat, sum_over}
use Rattle.lists.proofs.Cases.{on_below, clash, and_left, and_right, and_both}
use Rattle.lists.proofs.Every.{every-at}
use Rattle.lists.proofs.Tab.{tab-ext}
use Rattle.frames.specs.Frames.{byte_values, byte_of, number_bytes, short_bytes, byte_sum, balance, check, sealed, digit, byte_digits, digits, line_feed, line}
use Rattle.frames.specs.Reading.{no_value, value, byte_at, short_at, number_at, stands_at}
use Rattle.frames.specs.Bytes.{bytes_at}
use Rattle.frames.proofs.Lines.{sum-append}

pub number-low : (x : ℕ) → all (is_below byte_values) (number_bytes x) ≡ true
unfolding all number_bytes
number-low x =
    and_both _ _ (lt-ltb (byte_of x 16777216) byte_values (omega arith)) (and_both _ _ (lt-ltb (byte_of x 65536) byte_values (omega arith))
    (and_both _ _ (lt-ltb (byte_of x byte_values) byte_values (omega arith)) (and_both _ _ (lt-ltb (byte_of x 1) byte_values (omega arith)) refl)))

pub short-low : (x : ℕ) → all (is_below byte_values) (short_bytes x) ≡ true
unfolding all short_bytes
short-low x = and_both _ _ (lt-ltb (byte_of x byte_values) byte_values (omega arith)) (and_both _ _ (lt-ltb (byte_of x 1) byte_values (omega arith)) refl)

-- ---- digits and their values

back : ℕ → Bool
back k = eqb (value (digit k)) k

back-rule : every back 16 ≡ true
unfolding every ◌and◌ back digit value
back-rule = refl

pub value-digit : (k : ℕ) → k < 16 → value (digit k) ≡ k
unfolding back
value-digit k h = eqb-true (value (digit k)) k (every-at back 16 k back-rule h)

-- a value is that of the digit, or of none
pub value-cases : (c : ℕ) → ((value c < 16) × (digit (value c) ≡ c)) ⊎ (value c ≡ no_value)
unfolding value digit
value-cases c =
    on_below c 48 (λ a. inr (rw (lt-ltb c 48 a))) (λ a.
    on_below c 58
    (λ b. inl (rw (le-ltb c 48 a, lt-ltb c 58 b, lt-ltb (c - 48) 10 (omega arith)) (omega arith, omega arith)))
    (λ b. on_below c 65 (λ d. inr (rw (le-ltb c 48 a, le-ltb c 58 b, lt-ltb c 65 d))) (λ d.
    on_below c 71
    (λ e. inl (rw (le-ltb c 48 a, le-ltb c 58 b, le-ltb c 65 d, lt-ltb c 71 e, le-ltb (c - 55) 10 (omega arith)) (omega arith, omega arith)))
    (λ e. inr (rw (le-ltb c 48 a, le-ltb c 58 b, le-ltb c 65 d, le-ltb c 71 e))))))

pub value-le : (c : ℕ) → value c ≤ no_value
value-le c = ⊎_elim (λ p. omega (arith, p.0)) (λ e. omega arith) (value-cases c)

-- ---- a byte and its two digits

pub byte-of-digits : (text : List ℕ) (p b : ℕ) → b < byte_values → get_or text p 0 ≡ digit (b / 16) → get_or text (p + 1) 0 ≡ digit (b % 16) → byte_at text p ≡ b
unfolding byte_at
byte-of-digits text p b h e f =
    rw (e, f, value-digit (b / 16) (omega arith), value-digit (b % 16) (omega arith)) (omega arith)

pub digits-of-byte : (text : List ℕ) (p : ℕ) → byte_at text p < byte_values → byte_digits (byte_at text p) ≡ get_or text p 0 ∷ get_or text (p + 1) 0 ∷ []
unfolding byte_at byte_digits
digits-of-byte text p h =
    ⊎_elim
    (λ u. ⊎_elim
    (λ v. ap₂ (λ (x y : ℕ). x ∷ y ∷ [])
    (ap digit (high u.0 v.0) ∙ u.1)
    (ap digit (low u.0 v.0) ∙ v.1))
    (λ e. absurd (omega arith))
    (value-cases (get_or text (p + 1) 0)))
    (λ e. absurd (omega arith))
    (value-cases (get_or text p 0))
  where
    high : value (get_or text p 0) < 16 → value (get_or text (p + 1) 0) < 16
        → (value (get_or text p 0) * 16 + value (get_or text (p + 1) 0)) / 16 ≡ value (get_or text p 0)
    high a b = omega arith

    low : value (get_or text p 0) < 16 → value (get_or text (p + 1) 0) < 16
        → (value (get_or text p 0) * 16 + value (get_or text (p + 1) 0)) % 16 ≡ value (get_or text (p + 1) 0)
    low a b = omega arith

-- ---- bytes and their digits

module _ (text : List ℕ) where
  pub bytes-length : (p k : ℕ) → length (bytes_at text p k) ≡ k
  unfolding bytes_at
  bytes-length p zero = refl
  bytes-length p (suc k) = ap suc (bytes-length (p + 2) k)

  pub bytes-append : (p a b : ℕ) → bytes_at text p (a + b) ≡ bytes_at text p a ++ bytes_at text (p + a * 2) b
  unfolding bytes_at
  bytes-append p zero b = rw (zero-add b, add-zero p)
  bytes-append p (suc a) b =
      let n : suc a + b ≡ suc (a + b) = omega arith in
      let q : p + suc a * 2 ≡ p + 2 + a * 2 = omega arith in
      rw (n, q) (ap (λ (l : List ℕ). byte_at text p ∷ l) (bytes-append (p + 2) a b))

  pub bytes-at : (p k i : ℕ) → i < k → get_or (bytes_at text p k) i 0 ≡ byte_at text (p + i * 2)
  unfolding bytes_at
  bytes-at p zero i h = absurd (omega arith)
  bytes-at p (suc k) zero h = rw add-zero
  bytes-at p (suc k) (suc i) h =
      let q : p + suc i * 2 ≡ p + 2 + i * 2 = omega arith in
      rw q (bytes-at (p + 2) k i (omega arith))

  -- bytes that are digits are written as they stand
  pub bytes-digits : (p k : ℕ) → p + k * 2 ≤ length text → all (is_below byte_values) (bytes_at text p k) ≡ true
      → drop p text ≡ digits (bytes_at text p k) ++ drop (p + k * 2) text
  unfolding bytes_at digits flat all
  bytes-digits p zero h a = rw add-zero
  bytes-digits p (suc k) h a =
      let b : byte_at text p < byte_values = ltb-true (byte_at text p) byte_values (and_left _ _ a) in
      let q : p + suc k * 2 ≡ p + 2 + k * 2 = omega arith in
      let two : suc (suc p) ≡ p + 2 = omega arith in
      rw (q, digits-of-byte text p b) (
      drop-cons text p 0 (omega arith)
      ∙ ap (λ (l : List ℕ). get_or text p 0 ∷ l) (drop-cons text (suc p) 0 (omega arith)
      ∙ ap₂ (λ (x : ℕ) (l : List ℕ). x ∷ l) (ap (λ (n : ℕ). get_or text n 0) (sym (add-one p)))
      (ap (λ (n : ℕ). drop n text) two ∙ bytes-digits (p + 2) k (omega arith) (and_right _ _ a))))

  front : (p : ℕ) (x : ℕ) (rest : List ℕ) → drop p text ≡ x ∷ rest → (get_or text p 0 ≡ x) × (drop (p + 1) text ≡ rest)
  front p x rest e = (
    ap (λ (n : ℕ). get_or text n 0) (sym (add-zero p)) ∙ sym (get_or-drop p text 0 0) ∙ ap (λ (l : List ℕ). get_or l 0 0) e,
    sym (drop-drop 1 p text) ∙ ap (drop 1) e,
  )

  -- bytes that are written are read back
  pub digits-bytes : (bs : List ℕ) (p : ℕ) (rest : List ℕ) → all (is_below byte_values) bs ≡ true → drop p text ≡ digits bs ++ rest
      → (bytes_at text p (length bs) ≡ bs) × (drop (p + length bs * 2) text ≡ rest)
  unfolding bytes_at digits flat all byte_digits
  digits-bytes [] p rest a e = (refl, rw add-zero e)
  digits-bytes (b ∷ bs) p rest a e =
      let one = front p _ _ e in
      let two = front (p + 1) _ _ one.1 in
      let s : p + 1 + 1 ≡ p + 2 = omega arith in
      let q : p + suc (length bs) * 2 ≡ p + 2 + length bs * 2 = omega arith in
      let more = digits-bytes bs (p + 2) rest (and_right _ _ a) (ap (λ (n : ℕ). drop n text) (sym s) ∙ two.1) in
      let h : b < byte_values = ltb-true b byte_values (and_left _ _ a) in
      (ap₂ (λ (x : ℕ) (l : List ℕ). x ∷ l) (byte-of-digits text p b h one.0 two.0) more.0, rw q more.1)

-- ---- numbers and their bytes

module _ (text : List ℕ) (p : ℕ) where
  pub short-bytes : all (is_below byte_values) (bytes_at text p 2) ≡ true → short_bytes (short_at text p) ≡ bytes_at text p 2
  unfolding bytes_at short_bytes short_at all
  short-bytes a =
      let h : byte_at text p < byte_values = ltb-true _ _ (and_left _ _ a) in
      let l : byte_at text (p + 2) < byte_values = ltb-true _ _ (and_left _ _ (and_right _ _ a)) in
      ap₂ (λ (x y : ℕ). x ∷ y ∷ []) (omega arith) (omega arith)

  pub number-bytes : all (is_below byte_values) (bytes_at text p 4) ≡ true → number_bytes (number_at text p) ≡ bytes_at text p 4
  unfolding bytes_at number_bytes number_at all
  number-bytes a =
      let e : p + 2 + 2 ≡ p + 4 = omega arith in
      let f : p + 4 + 2 ≡ p + 6 = omega arith in
      rw (e, f) (four (byte_at text p) (byte_at text (p + 2)) (byte_at text (p + 4)) (byte_at text (p + 6)) (rw (e, f) at a))
    where
      four : (w x y z : ℕ) → all (is_below byte_values) (w ∷ x ∷ y ∷ z ∷ []) ≡ true
          → number_bytes (w * 16777216 + x * 65536 + y * byte_values + z) ≡ w ∷ x ∷ y ∷ z ∷ []
      four w x y z a =
          let hw : w < byte_values = ltb-true _ _ (and_left _ _ a) in
          let hx : x < byte_values = ltb-true _ _ (and_left _ _ (and_right _ _ a)) in
          let hy : y < byte_values = ltb-true _ _ (and_left _ _ (and_right _ _ (and_right _ _ a))) in
          let hz : z < byte_values = ltb-true _ _ (and_left _ _ (and_right _ _ (and_right _ _ (and_right _ _ a)))) in
          let n : ℕ = w * 16777216 + x * 65536 + y * byte_values + z in
          let b3 : byte_of n 16777216 ≡ w = omega arith in
          let b2 : byte_of n 65536 ≡ x = omega arith in
          let b1 : byte_of n byte_values ≡ y = omega arith in
          let b0 : byte_of n 1 ≡ z = omega arith in
          rw (b3, b2, b1, b0)

  pub number_word : all (is_below byte_values) (bytes_at text p 4) ≡ true → number_at text p < 4294967296
  unfolding bytes_at number_at all
  number_word a =
      let e : p + 2 + 2 ≡ p + 4 = omega arith in
      let f : p + 4 + 2 ≡ p + 6 = omega arith in
      four (byte_at text p) (byte_at text (p + 2)) (byte_at text (p + 4)) (byte_at text (p + 6)) (rw (e, f) at a)
    where
      four : (w x y z : ℕ) → all (is_below byte_values) (w ∷ x ∷ y ∷ z ∷ []) ≡ true
          → w * 16777216 + x * 65536 + y * byte_values + z < 4294967296
      four w x y z a =
          let hw : w < byte_values = ltb-true _ _ (and_left _ _ a) in
          let hx : x < byte_values = ltb-true _ _ (and_left _ _ (and_right _ _ a)) in
          let hy : y < byte_values = ltb-true _ _ (and_left _ _ (and_right _ _ (and_right _ _ a))) in
          let hz : z < byte_values = ltb-true _ _ (and_left _ _ (and_right _ _ (and_right _ _ (and_right _ _ a)))) in
          omega arith

module _ (text : List ℕ) where
  -- a part of bytes
  pub bytes-front : (p a b : ℕ) → all (is_below byte_values) (bytes_at text p (a + b)) ≡ true
      → (all (is_below byte_values) (bytes_at text p a) ≡ true) × (all (is_below byte_values) (bytes_at text (p + a * 2) b) ≡ true)
  bytes-front p a b h = all_append (is_below byte_values) (bytes_at text p a) (bytes_at text (p + a * 2) b) (rw bytes-append at h)

  bytes-none : (p : ℕ) → [] ≡ bytes_at text p 0
  unfolding bytes_at
  bytes-none p = refl

  pub members-bytes : (c p : ℕ) → all (is_below byte_values) (bytes_at text p (c * 4)) ≡ true
      → flat number_bytes (tab (λ k. number_at text (p + k * 8)) c) ≡ bytes_at text p (c * 4)
  unfolding tab flat
  members-bytes zero p h = bytes-none p
  members-bytes (suc c) p h =
      let n : suc c * 4 ≡ 4 + c * 4 = omega arith in
      let g = bytes-front p 4 (c * 4) (rw n at h) in
      let z : p + 0 * 8 ≡ p = omega arith in
      rw n (
      ap₂ (λ (x y : List ℕ). x ++ y)
      (ap (λ (q : ℕ). number_bytes (number_at text q)) z ∙ number-bytes text p g.0)
      (ap (flat number_bytes) (tab-ext (λ k. number_at text (p + suc k * 8)) (λ k. number_at text (p + 8 + k * 8)) c (λ k l. ap (number_at text) (omega arith)))
      ∙ members-bytes c (p + 8) g.1)
      ∙ sym (bytes-append text p 4 (c * 4)))

-- ---- what stands at a place

same-eq : (xs ys : List ℕ) → same_list xs ys ≡ true → xs ≡ ys
unfolding same_list
same-eq [] [] e = refl
same-eq [] (y ∷ ys) e = clash e refl
same-eq (x ∷ xs) [] e = clash e refl
same-eq (x ∷ xs) (y ∷ ys) e = ap₂ (λ (a : ℕ) (l : List ℕ). a ∷ l) (eqb-true x y (and_left _ _ e)) (same-eq xs ys (and_right _ _ e))

pub same_refl : (xs : List ℕ) → same_list xs xs ≡ true
unfolding same_list
same_refl [] = refl
same_refl (x ∷ xs) = and_both _ _ (eq-eqb x x refl) (same_refl xs)

module _ (text : List ℕ) (p : ℕ) (xs : List ℕ) where
  pub stands-eq : stands_at text p xs ≡ true → drop p text ≡ xs ++ drop (p + length xs) text
  unfolding stands_at
  stands-eq e =
      sym (take-append-drop (length xs) (drop p text))
      ∙ ap₂ (λ (a b : List ℕ). a ++ b) (same-eq (take (length xs) (drop p text)) xs e) (drop-drop (length xs) p text)

  pub stands_by : (rest : List ℕ) → drop p text ≡ xs ++ rest → stands_at text p xs ≡ true
  unfolding stands_at
  stands_by rest e = rw (e, take_at xs rest (length xs) refl) (same_refl xs)

-- ---- frames

-- the last byte is the one that makes the sum 0
check-is : (fr : List ℕ) (c : ℕ) → c < byte_values → byte_sum (fr ++ (c ∷ [])) % byte_values ≡ 0 → c ≡ check fr
unfolding check balance sum_over
check-is fr c h e = one (byte_sum fr) (rw sum-append at e)
  where
    one : (s : ℕ) → (s + (c + 0)) % byte_values ≡ 0 → c ≡ (byte_values - s % byte_values) % byte_values
    one s z = omega arith

check-low : (fr : List ℕ) → check fr < byte_values
unfolding check balance
check-low fr = omega arith

all-snoc-of : (f : ℕ → Bool) (xs : List ℕ) (x : ℕ) → all f xs ≡ true → f x ≡ true → all f (xs ++ (x ∷ [])) ≡ true
unfolding all
all-snoc-of f [] x a b = and_both _ _ b refl
all-snoc-of f (y ∷ xs) x a b = and_both _ _ (and_left _ _ a) (all-snoc-of f xs x (and_right _ _ a) b)

pub sealed-low : (fr : List ℕ) → all (is_below byte_values) fr ≡ true → all (is_below byte_values) (sealed fr) ≡ true
unfolding sealed
sealed-low fr low = all-snoc-of (is_below byte_values) fr (check fr) low (lt-ltb (check fr) byte_values (check-low fr))

pub bytes-snoc : (text : List ℕ) (p k : ℕ) → bytes_at text p (suc k) ≡ bytes_at text p k ++ (byte_at text (p + k * 2) ∷ [])
unfolding bytes_at
bytes-snoc text p k = ap (bytes_at text p) (sym (add-one k)) ∙ bytes-append text p k 1

module _ (text : List ℕ) (p : ℕ) (fr : List ℕ) where
  -- a frame whose bytes, with a last one that makes the sum 0, stand at p before a line feed: its line stands there
  pub line-stands : p + (suc (length fr) * 2 + 1) ≤ length text → get_or text (p + suc (length fr) * 2) 0 ≡ 10
      → all (is_below byte_values) (bytes_at text p (suc (length fr))) ≡ true → byte_sum (bytes_at text p (suc (length fr))) % byte_values ≡ 0
      → fr ≡ bytes_at text p (length fr) → stands_at text p (line fr) ≡ true
  unfolding line sealed all
  line-stands room end low sum e =
      let k : ℕ = length fr in
      let is : bytes_at text p (suc k) ≡ fr ++ (byte_at text (p + k * 2) ∷ []) = bytes-snoc text p k ∙ ap (λ (l : List ℕ). l ++ (byte_at text (p + k * 2) ∷ [])) (sym e) in
      let c : byte_at text (p + k * 2) < byte_values = ltb-true _ _ (and_left _ _ (all_append (is_below byte_values) fr (byte_at text (p + k * 2) ∷ []) (rw is at low)).1) in
      let seal : bytes_at text p (suc k) ≡ sealed fr = is ∙ ap (λ (x : ℕ). fr ++ (x ∷ [])) (check-is fr (byte_at text (p + k * 2)) c (rw is at sum)) in
      stands_by text p (digits (sealed fr) ++ line_feed) (drop (suc (p + suc k * 2)) text) (
      bytes-digits text p (suc k) (omega arith) low
      ∙ ap₂ (λ (a b : List ℕ). a ++ b) (ap digits seal) (drop-cons text (p + suc k * 2) 0 (omega arith) ∙ ap (λ (x : ℕ). x ∷ drop (suc (p + suc k * 2)) text) end)
      ∙ sym (append_assoc (digits (sealed fr)) line_feed (drop (suc (p + suc k * 2)) text)))

  -- and the other way round
  pub line-parts : p ≤ length text → all (is_below byte_values) fr ≡ true → stands_at text p (line fr) ≡ true
      → (bytes_at text p (suc (length fr)) ≡ sealed fr) × (get_or text (p + suc (length fr) * 2) 0 ≡ 10) × (p + (suc (length fr) * 2 + 1) ≤ length text)
  unfolding line sealed
  line-parts h low st =
      let rest : List ℕ = drop (p + length (digits (sealed fr) ++ line_feed)) text in
      let e : drop p text ≡ digits (sealed fr) ++ (line_feed ++ rest) = stands-eq text p (digits (sealed fr) ++ line_feed) st ∙ append_assoc (digits (sealed fr)) line_feed rest in
      let len : length (sealed fr) ≡ suc (length fr) = length-append fr (check fr ∷ []) ∙ add-one (length fr) in
      let r = digits-bytes text (sealed fr) p (line_feed ++ rest) (all-snoc-of (is_below byte_values) fr (check fr) low (lt-ltb (check fr) byte_values (check-low fr))) e in
      let b : drop (p + suc (length fr) * 2) text ≡ 10 ∷ rest = ap (λ (n : ℕ). drop (p + n * 2) text) (sym len) ∙ r.1 in (
        ap (bytes_at text p) (sym len) ∙ r.0,
        (front text (p + suc (length fr) * 2) 10 rest b).0,
        omega (arith, ap length b, length-drop (p + suc (length fr) * 2) text),
      )
