-- What the code finds of a line is what the line says. Assumes nothing.
use mathlib.Core.Path.{◌≡◌, refl, sym, ap, ◌∙◌}
use mathlib.Core.Bool.{Bool, true, false, cond}
use mathlib.Core.List.{List, ◌++◌}
use Prim.Native.Nat.{ℕ, suc, ◌+◌, ◌*◌, ◌-◌, ◌≤◌, ◌<◌}
use native.Mathlib.Nat.{lt_irrefl}
use native.Mathlib.Omega.{arith}
use lib.ListN.{length, get_or, take, drop, replicate, length-replicate, length-drop, length-append}
use lib.Seq.{take-suc, get_or-drop, take-append_seam}
use borrow.Author.Tests.{lt-ltb, le-ltb, ltb-true}
use Rattle.lists.specs.Tests.{◌and◌}
use Rattle.lists.specs.Lists.{same_list}
use Rattle.lists.proofs.Cases.{on, on_same, clash}
use Rattle.frames.specs.Faulty.{is_word}
use Rattle.wording.specs.Pages.{Page, page, write}
use Rattle.wording.proofs.Writing.{write-within}
use Rattle.desk.specs.States.{waiting, reviewed, released}
use Rattle.states_text.specs.StatesText.{state_line}
use Rattle.states_text.specs.Reading.{value_from, line_number, is_line_of, line_state, line_good}
use Rattle.states_text.proofs.Lines.{value-snoc, value-part, line-short}
use Rattle.states_text.proofs.Said.{good_of, good-number}
use Rattle.state_lines.specs.Judged.{Numbered, Judged}

word_of : (v : ℕ) → v < 4294967296 → is_word v ≡ true
unfolding is_word
word_of v h = lt-ltb v 4294967296 h

-- ---- the number: v is the value of the digits before place i

pub number-first : (l : List ℕ) → 0 ≡ value_from 0 (take (9 - 9) (drop 9 l))
unfolding value_from
number-first l = refl

module _ (l : List ℕ) (i v : ℕ) (low : 9 ≤ i) (high : i ≤ 9 + (length l - 10)) (e : v ≡ value_from 0 (take (i - 9) (drop 9 l))) (small : v ≤ 42949673205) where
  -- d is the value of the next one
  pub number_more : (d : ℕ) → i + 1 < length l → d ≡ get_or l i 0 - 48 → v * 10 + d ≡ value_from 0 (take (i + 1 - 9) (drop 9 l))
  number_more d h ed =
      let s : i + 1 - 9 ≡ suc (i - 9) = omega arith in
      let j : 9 + (i - 9) ≡ i = omega arith in
      let at : get_or (drop 9 l) (i - 9) 0 ≡ get_or l i 0 = get_or-drop 9 l (i - 9) 0 ∙ ap (λ (k : ℕ). get_or l k 0) j in
      rw (s, take-suc (drop 9 l) (i - 9) 0 (omega (arith, length-drop 9 l)), value-snoc 0 (take (i - 9) (drop 9 l)) (get_or (drop 9 l) (i - 9) 0), at, ed, ← e)

  -- it is no word, and so the whole is none
  pub number-over : 4294967295 < v → Numbered l v
  unfolding line_number is_word
  number-over h =
      let more : v ≤ value_from 0 (take (length l - 10) (drop 9 l)) = omega (arith, value-part 0 (drop 9 l) (i - 9) (length l - 10) (omega arith)) in
      record {
        word = le-ltb v 4294967296 (omega arith) ∙ sym (le-ltb (value_from 0 (take (length l - 10) (drop 9 l))) 4294967296 (omega (arith, more)));
        same = λ b. absurd (lt_irrefl v (omega arith));
        small = small;
      }

  pub number-end : length l ≤ i + 1 → Numbered l v
  unfolding line_number
  number-end h =
      let s : i - 9 ≡ length l - 10 = omega arith in
      let is : v ≡ value_from 0 (take (length l - 10) (drop 9 l)) = e ∙ ap (λ (k : ℕ). value_from 0 (take k (drop 9 l))) s in
      record { word = ap is_word is; same = λ _. is; small = small }

-- ---- the line that is written for v in state x: w is the page, n the place behind it

module _ (x v : ℕ) (w : List ℕ) (n : ℕ) (e : page w n ≡ write (state_line x v) (page (replicate 32 0) 0)) where
  whole : page w n ≡ page (state_line x v ++ drop (length (state_line x v)) (replicate 32 0)) (length (state_line x v))
  whole = e ∙ write-within (state_line x v) (replicate 32 0) (omega (arith, length-replicate {A = ℕ} 32 0, line-short x v))

  pub written-within : n ≤ length w
  written-within =
      omega (arith, ap (λ (p : Page). p.next) whole, ap (λ (p : Page). length p.bytes) whole, length-append (state_line x v) (drop (length (state_line x v)) (replicate 32 0)))

  pub written_same : (l : List ℕ) (r : Bool) → r ≡ same_list l (take n w) → r ≡ same_list l (state_line x v)
  written_same l r q =
      q ∙ ap (same_list l) (ap (λ (p : Page). take p.next p.bytes) whole ∙ take-append_seam (state_line x v) (drop (length (state_line x v)) (replicate 32 0)))

-- ---- the state: v is the number that was found

module _ (l : List ℕ) (v : ℕ) (n : Numbered l v) where
  pub state-over : 4294967295 < v → waiting ≡ line_state l
  unfolding line_state is_line_of is_word ◌and◌
  state-over h = rw (sym n.word ∙ le-ltb v 4294967296 (omega arith))

  module _ (h : v ≤ 4294967295) where
    line_of : (x : ℕ) → is_line_of x l ≡ same_list l (state_line x v)
    unfolding is_line_of ◌and◌
    line_of x = rw (← n.word, ← n.same (omega arith), is_word_lem)
      where
        is_word_lem : is_word v ≡ true
        is_word_lem = word_of v (omega arith)

    -- r is what `is_line` found of reviewed, q of released
    module _ (r : Bool) (er : r ≡ same_list l (state_line reviewed v)) where
      pub state-reviewed : r ≡ true → reviewed ≡ line_state l
      unfolding line_state
      state-reviewed t = rw (line_of reviewed, ← er, t)

      module _ (f : r ≡ false) (q : Bool) (eq : q ≡ same_list l (state_line released v)) where
        pub state-released : q ≡ true → released ≡ line_state l
        unfolding line_state
        state-released t = rw (line_of reviewed, ← er, f, line_of released, ← eq, t)

        pub state-none : q ≡ false → waiting ≡ line_state l
        unfolding line_state
        state-none t = rw (line_of reviewed, ← er, f, line_of released, ← eq, t)

-- ---- the verdict: x is what `state_of` found

-- a line that says a state has a word for its number
says-word : (l : List ℕ) → (line_state l ≡ waiting → ⊥) → is_word (line_number l) ≡ true
unfolding line_state is_line_of ◌and◌
says-word l ne = on (is_word (line_number l)) (λ e. e) (λ e. absurd (ne (rw e)))

waits-bad : (low : ℕ) (l : List ℕ) → line_state l ≡ waiting → line_good low l ≡ false
unfolding line_good ◌and◌
waits-bad low l e = rw e

module _ (l : List ℕ) (low v : ℕ) (n : Numbered l v) where
  number-found : (line_state l ≡ waiting → ⊥) → (v ≡ line_number l) × (v < 4294967296)
  unfolding is_word
  number-found ne =
      let b : v < 4294967296 = ltb-true v 4294967296 (n.word ∙ says-word l ne) in
      (n.same b, b)

  pub judged-low : v < low → Judged l low waiting v
  judged-low h = record {
    is = ap (λ (b : Bool). cond b (line_state l) waiting) (sym (bad h));
    number = λ ne. absurd (ne refl);
    word = λ ne. absurd (ne refl);
    small = n.small;
  }
    where
      bad : v < low → line_good low l ≡ false
      bad h = on (line_good low l) (λ g. absurd (lt_irrefl v (omega (arith, good-number low l g, h, (number-found (λ w. clash g (waits-bad low l w))).0)))) (λ g. g)

  pub judged : (x : ℕ) → x ≡ line_state l → low ≤ v → Judged l low x v
  judged x e h = record {
    is = on_same (line_state l) waiting
        (λ w. e ∙ w ∙ ap (λ (b : Bool). cond b (line_state l) waiting) (sym (waits-bad low l w)))
        (λ ne. e ∙ ap (λ (b : Bool). cond b (line_state l) waiting) (sym (good_of low l ne (omega (arith, (number-found ne).0)))));
    number = λ ne. (number-found (λ w. ne (e ∙ w))).0;
    word = λ ne. (number-found (λ w. ne (e ∙ w))).1;
    small = n.small;
  }

-- what the verdict says of the line
module _ {l : List ℕ} {low x v : ℕ} (j : Judged l low x v) where
  pub judged-bad : x ≡ waiting → line_good low l ≡ false
  judged-bad e =
      on (line_good low l)
      (λ g. clash g (waits-bad low l (ap (λ (b : Bool). cond b (line_state l) waiting) (sym g) ∙ sym j.is ∙ e)))
      (λ g. g)

  pub judged-good : (x ≡ waiting → ⊥) → line_good low l ≡ true
  judged-good ne = on (line_good low l) (λ g. g) (λ g. absurd (ne (j.is ∙ ap (λ (b : Bool). cond b (line_state l) waiting) g)))

  pub judged-state : (x ≡ waiting → ⊥) → x ≡ line_state l
  judged-state ne = j.is ∙ ap (λ (b : Bool). cond b (line_state l) waiting) (judged-good ne)

  pub judged-word : (x ≡ waiting → ⊥) → v < 4294967296
  judged-word ne = j.word ne
