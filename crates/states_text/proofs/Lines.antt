-- Laws of lines, of the value of digits, and of what a written line says. Assumes nothing.
use mathlib.Core.Path.{◌≡◌, refl, sym, ap, ap₂, ◌∙◌}
use mathlib.Core.Bool.{true, false}
use mathlib.Core.List.{List, [], ◌∷◌, ◌++◌, append_assoc}
use Prim.Native.Nat.{ℕ, zero, suc, ◌+◌, ◌*◌, ◌-◌, ◌/◌, ◌%◌, ◌≤◌, ◌<◌}
use native.Mathlib.Nat.{not-suc-le-zero, lt_irrefl, le_of_suc-le-suc}
use native.Mathlib.Omega.{arith}
use lib.Dec.{eqb, ltb}
use lib.ListN.{length, take, drop, length-append}
use lib.Seq.{take_at, drop_at}
use borrow.Author.Tests.{ne_eqb, eqb-true, lt-ltb}
use Rattle.lists.specs.Tests.{◌and◌}
use Rattle.lists.specs.Lists.{memb, same_list}
use Rattle.lists.proofs.Cases.{on, clash, eqb_comm, or-false-left, or-false-right, and_left, and_right, and_both, and-false-right}
use Rattle.lists.proofs.Memb.{memb-append}
use Rattle.frames.specs.Faulty.{is_word}
use Rattle.frames.proofs.Parse.{same_refl}
use Rattle.wording.specs.Texts.{text, digit, spelled, decimal}
use Rattle.desk.specs.States.{reviewed, released}
use Rattle.states_text.specs.StatesText.{state_word, state_line}
use Rattle.states_text.specs.Reading.{feed, joined, lines, value_from, number_place, line_number, is_line_of, line_state}

-- ---- lines

not-feed : (c : ℕ) (l : List ℕ) → memb feed (c ∷ l) ≡ false → eqb c feed ≡ false
not-feed c l e = eqb_comm c feed ∙ or-false-left (eqb feed c) (memb feed l) e

-- a line, and those behind its line feed
pub lines_more : (l rest : List ℕ) → memb feed l ≡ false → lines (l ++ (feed ∷ rest)) ≡ (l ++ (feed ∷ [])) ∷ lines rest
unfolding lines
lines_more [] rest e = refl
lines_more (c ∷ l) rest e = rw (not-feed c l e, lines_more l rest (or-false-right (eqb feed c) (memb feed l) e))

-- a line without a line feed is the last
pub lines-last : (l : List ℕ) → 0 < length l → memb feed l ≡ false → lines l ≡ l ∷ []
unfolding lines
lines-last [] h e = absurd (not-suc-le-zero h)
lines-last (c ∷ []) h e = rw (not-feed c [] e)
lines-last (c ∷ d ∷ l) h e =
    rw (not-feed c (d ∷ l) e) (ap (joined c) (lines-last (d ∷ l) (omega arith) (or-false-right (eqb feed c) (memb feed (d ∷ l)) e)))

-- ---- digits

pub value-snoc : (v : ℕ) (cs : List ℕ) (c : ℕ) → value_from v (cs ++ (c ∷ [])) ≡ value_from v cs * 10 + (c - 48)
unfolding value_from
value-snoc v [] c = refl
value-snoc v (d ∷ cs) c = value-snoc (v * 10 + (d - 48)) cs c

-- more digits make no smaller value
value_grows : (v : ℕ) (cs : List ℕ) → v ≤ value_from v cs
unfolding value_from
value_grows v [] = omega arith
value_grows v (c ∷ cs) = omega (arith, value_grows (v * 10 + (c - 48)) cs)

pub value-part : (v : ℕ) (cs : List ℕ) (a b : ℕ) → a ≤ b → value_from v (take a cs) ≤ value_from v (take b cs)
unfolding value_from
value-part v cs zero b h = value_grows v (take b cs)
value-part v cs (suc a) zero h = absurd (not-suc-le-zero h)
value-part v [] (suc a) (suc b) h = omega arith
value-part v (c ∷ cs) (suc a) (suc b) h = value-part (v * 10 + (c - 48)) cs a b (le_of_suc-le-suc h)

-- the numbers of at most k digits are those below it
tens : ℕ → ℕ
tens zero = 1
tens (suc k) = 10 * tens k

spelled-value : (k n : ℕ) → n < tens k → value_from 0 (spelled k n) ≡ n
unfolding spelled tens value_from
spelled-value zero n h = omega arith
spelled-value (suc k) n h =
    on (ltb n 10)
    (λ e. rw e (omega arith))
    (λ e.
    rw e (value-snoc 0 (spelled k (n / 10)) (48 + n % 10)
    ∙ ap (λ (m : ℕ). m * 10 + (48 + n % 10 - 48)) (spelled-value k (n / 10) (omega arith)) ∙ omega arith))

pub decimal-value : (n : ℕ) → n < 4294967296 → value_from 0 (decimal n) ≡ n
unfolding decimal tens
decimal-value n h = spelled-value 20 n (omega arith)

spelled-short : (k n : ℕ) → length (spelled k n) ≤ k
unfolding spelled
spelled-short zero n = omega arith
spelled-short (suc k) n =
    on (ltb n 10) (λ e. rw e (omega arith))
    (λ e. rw (e, length-append (spelled k (n / 10)) (digit (n % 10) ∷ [])) (omega (arith, spelled-short k (n / 10))))

pub decimal-short : (n : ℕ) → length (decimal n) ≤ 20
unfolding decimal
decimal-short n = spelled-short 20 n

no_digit : (d : ℕ) → eqb feed (48 + d) ≡ false
no_digit d = ne_eqb feed (48 + d) (λ q. lt_irrefl 10 (omega (arith, q)))

spelled-plain : (k n : ℕ) → memb feed (spelled k n) ≡ false
unfolding spelled
spelled-plain zero n = refl
spelled-plain (suc k) n =
    on (ltb n 10)
    (λ e. rw (e, no_digit n))
    (λ e. rw (e, memb-append feed (spelled k (n / 10)) (digit (n % 10) ∷ []), spelled-plain k (n / 10), no_digit (n % 10)))

-- ---- a line as it is written

word-length : (x : ℕ) → length (state_word x) ≡ number_place
unfolding state_word
word-length x = on (eqb x released) (λ e. rw e) (λ e. rw e)

word-plain : (x : ℕ) → memb feed (state_word x) ≡ false
unfolding state_word
word-plain x = on (eqb x released) (λ e. rw e) (λ e. rw e)

module _ (x v : ℕ) where
  -- the bytes before the line feed
  front : List ℕ
  front = state_word x ++ decimal v

  line-front : state_line x v ≡ front ++ (feed ∷ [])
  unfolding state_line front
  line-front = sym (append_assoc (state_word x) (decimal v) (feed ∷ []))

  front-plain : memb feed front ≡ false
  unfolding front decimal
  front-plain = memb-append feed (state_word x) (decimal v) ∙ rw (word-plain x) (spelled-plain 20 v)

  pub line-short : length (state_line x v) ≤ 30
  unfolding state_line
  line-short = omega (arith, length-append (state_word x) (decimal v ++ text "\n"), length-append (decimal v) (text "\n"), word-length x, decimal-short v)

  -- it is the first of the lines
  pub written-first : (rest : List ℕ) → lines (state_line x v ++ rest) ≡ state_line x v ∷ lines rest
  written-first rest =
      ap (λ (l : List ℕ). lines (l ++ rest)) line-front ∙ ap lines (append_assoc front (feed ∷ []) rest)
      ∙ lines_more front rest front-plain ∙ ap (λ (l : List ℕ). l ∷ lines rest) (sym line-front)

  -- its number is v
  pub written-number : v < 4294967296 → line_number (state_line x v) ≡ v
  unfolding line_number state_line
  written-number h =
      let word : List ℕ = state_word x in
      let d : drop number_place (word ++ (decimal v ++ text "\n")) ≡ decimal v ++ text "\n" = drop_at word (decimal v ++ text "\n") number_place (word-length x) in
      let n : length (word ++ (decimal v ++ text "\n")) - suc number_place ≡ length (decimal v) =
      omega (arith, length-append word (decimal v ++ text "\n"), length-append (decimal v) (text "\n"), word-length x) in
      rw (d, n, take_at (decimal v) (text "\n") (length (decimal v)) refl) (decimal-value v h)

  pub written-line : v < 4294967296 → is_line_of x (state_line x v) ≡ true
  unfolding is_line_of is_word
  written-line h = rw (written-number h) (and_both _ _ (lt-ltb v 4294967296 h) (same_refl (state_line x v)))

-- the two words differ
words-differ : (v w : ℕ) → same_list (state_line released v) (state_line reviewed w) ≡ false
unfolding state_line state_word same_list ◌and◌
words-differ v w = refl

not-reviewed : (v : ℕ) → is_line_of reviewed (state_line released v) ≡ false
unfolding is_line_of
not-reviewed v = and-false-right _ _ (words-differ v (line_number (state_line released v)))

-- a line says the state that it is written for
pub written-reviewed : (v : ℕ) → v < 4294967296 → line_state (state_line reviewed v) ≡ reviewed
unfolding line_state
written-reviewed v h = rw (written-line reviewed v h)

pub written-released : (v : ℕ) → v < 4294967296 → line_state (state_line released v) ≡ released
unfolding line_state
written-released v h = rw (not-reviewed v, written-line released v h)

-- ---- what a line says is a state, and only a line that is written for it says it

pub says-state : (l : List ℕ) → line_state l < suc released
unfolding line_state
says-state l =
    on (is_line_of reviewed l) (λ e. rw e (omega arith)) (λ e. rw e (on (is_line_of released l) (λ q. rw q (omega arith)) (λ q. rw q (omega arith))))

same-eq : (xs ys : List ℕ) → same_list xs ys ≡ true → xs ≡ ys
unfolding same_list
same-eq [] [] e = refl
same-eq [] (y ∷ ys) e = clash e refl
same-eq (x ∷ xs) [] e = clash e refl
same-eq (x ∷ xs) (y ∷ ys) e = ap₂ (λ (a : ℕ) (l : List ℕ). a ∷ l) (eqb-true x y (and_left _ _ e)) (same-eq xs ys (and_right _ _ e))

pub says-released : (l : List ℕ) → line_state l ≡ released → l ≡ state_line released (line_number l)
unfolding line_state is_line_of
says-released l e =
    on (is_line_of reviewed l)
    (λ q. absurd (let z : ◌≡◌ {A = ℕ} 1 2 = rw q at e in omega arith))
    (λ q. on (is_line_of released l)
    (λ r. same-eq _ _ (and_right _ _ r))
    (λ r. absurd (let z : ◌≡◌ {A = ℕ} 0 2 = rw (q, r) at e in omega arith)))
