-- The end of a word, and its value, digit by digit. Assumes nothing.
use mathlib.Core.Path.{◌≡◌, ◌∙◌}
use mathlib.Core.Bool.{false, cond}
use mathlib.Core.List.{List, [], ◌∷◌}
use Prim.Native.Nat.{ℕ, suc, ◌+◌, ◌-◌, ◌*◌, ◌≤◌, ◌<◌}
use native.Mathlib.Numerals.{add-one}
use native.Mathlib.Omega.{arith}
use lib.Dec.{leb}
use lib.ListN.{length, get_or, drop, drop_of_length-le}
use lib.Seq.{drop-cons}
use borrow.Author.Tests.{lt-ltb, le-ltb, le-leb, lt-leb, eq-eqb, ne_eqb}
use Rattle.lists.specs.Tests.{◌and◌}
use Rattle.lists.specs.Lists.{all}
use Rattle.lists.proofs.Cases.{not_none, and-false-left, and-false-right}
use Rattle.commands.specs.Words.{blank, largest, is_digit, value_from, value_of, is_number}
use Rattle.command_words.specs.Scans.{first_word, worth}

-- ---- a loop over i, with the word that begins at i left

module _ (line : List ℕ) (i whole : ℕ) (inv : i + length (first_word (drop i line)) ≡ whole) where
  pub word-here : i < length line → get_or line i 0 ≡ blank → i ≡ whole
  unfolding first_word
  word-here h b =
      let e : i + 0 ≡ whole = rw (drop-cons line i 0 h, eq-eqb (get_or line i 0) blank b) at inv in
      omega arith

  pub word_on_lem : i < length line → (get_or line i 0 ≡ blank → ⊥) → i + 1 + length (first_word (drop (i + 1) line)) ≡ whole
  unfolding first_word
  word_on_lem h nb =
      let e : i + suc (length (first_word (drop (suc i) line))) ≡ whole = rw (drop-cons line i 0 h, ne_eqb (get_or line i 0) blank nb) at inv in
      rw (add-one i) (omega arith)

  pub word-last : length line ≤ i → i ≤ length line → length line ≡ whole
  unfolding first_word
  word-last h m =
      let e : i + 0 ≡ whole = rw (drop_of_length-le line {i = i} h) at inv in
      omega arith

-- ---- a loop over i, with the digits from i on left; n is the value of those before

-- the value of digits that follow those of n, where they are digits and it is not too large
unfoldable pub worth_from : ℕ → List ℕ → ℕ
worth_from n cs = cond (all is_digit cs and leb (value_from n cs) largest) (value_from n cs) (suc largest)

value_grows : (n : ℕ) (cs : List ℕ) → n ≤ value_from n cs
unfolding value_from
value_grows n [] = omega arith
value_grows n (c ∷ cs) = omega (arith, value_grows (n * 10 + (c - 48)) cs)

worth-large : (n : ℕ) (cs : List ℕ) → largest < n → suc largest ≡ worth_from n cs
unfolding worth_from
worth-large n cs h =
    rw (and-false-right (all is_digit cs) _ (lt-leb (value_from n cs) largest (omega (arith, value_grows n cs))))

pub value_none : (word : List ℕ) → length word ≡ 0 → suc largest ≡ worth word
unfolding worth is_number
value_none word e = rw (and-false-left _ (all is_digit word and leb (value_of word) largest) (le-ltb 0 (length word) (omega arith)))

pub value-first : (word : List ℕ) → (length word ≡ 0 → ⊥) → worth_from 0 word ≡ worth word
unfolding worth_from worth is_number value_of ◌and◌
value-first word ne = rw (lt-ltb 0 (length word) (not_none (length word) ne))

module _ (word : List ℕ) (i n c whole : ℕ) (inv : worth_from n (drop i word) ≡ whole) (h : i < length word) (e : c ≡ get_or word i 0) where
  begun : worth_from n (c ∷ drop (suc i) word) ≡ whole
  begun = rw (drop-cons word i 0 h, ← e) at inv

  not_digit : is_digit c ≡ false → suc largest ≡ whole
  unfolding worth_from all ◌and◌
  not_digit q = rw q at begun

  pub value_low : c < 48 → suc largest ≡ whole
  unfolding is_digit
  value_low l = not_digit (and-false-left _ _ (lt-leb 48 c l))

  pub value-high : 57 < c → suc largest ≡ whole
  unfolding is_digit
  value-high l = not_digit (and-false-right _ _ (lt-leb c 57 l))

  next : 48 ≤ c → c ≤ 57 → worth_from (n * 10 + (c - 48)) (drop (suc i) word) ≡ whole
  unfolding worth_from all is_digit value_from ◌and◌
  next l m = rw (le-leb 48 c l, le-leb c 57 m) at begun

  pub value-over : 48 ≤ c → c ≤ 57 → largest < n * 10 + (c - 48) → suc largest ≡ whole
  value-over l m o = worth-large _ _ o ∙ next l m

  pub value-more : 48 ≤ c → c ≤ 57 → worth_from (n * 10 + (c - 48)) (drop (i + 1) word) ≡ whole
  value-more l m = rw (add-one i) (next l m)

pub value-end : (word : List ℕ) (i n whole : ℕ) → worth_from n (drop i word) ≡ whole → length word ≤ i → n ≤ largest → n ≡ whole
unfolding worth_from all value_from ◌and◌
value-end word i n whole inv h l = rw (drop_of_length-le word {i = i} h, le-leb n largest l) at inv
