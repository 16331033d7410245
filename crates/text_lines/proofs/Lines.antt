-- Laws of lines: where a line ends, where the next one begins, and where line k does. Assumes nothing.
use mathlib.Core.Path.{◌≡◌, refl, sym, ap, ◌∙◌}
use mathlib.Core.Bool.{false}
use mathlib.Core.List.{List, [], ◌∷◌, ◌++◌, append-nil}
use Prim.Native.Nat.{ℕ, zero, suc, ◌+◌, ◌-◌, ◌≤◌, ◌<◌}
use native.Mathlib.Numerals.{add-one}
use native.Mathlib.Omega.{arith}
use lib.Dec.{eqb, ltb}
use lib.ListN.{length, get_or, take, drop, length-drop, drop_of_length-le}
use lib.Seq.{take-suc, drop-cons, drop-drop, get_or-drop, get_or-take, append_snoc, length-take-le}
use borrow.Author.Tests.{eq-eqb, ne_eqb, lt-ltb, le-ltb}
use Rattle.lists.specs.Tests.{◌and◌}
use Rattle.lists.specs.Lists.{word_at}
use Rattle.lists.proofs.Cases.{on, and-false-left, and-false-right}
use Rattle.text_lines.specs.Lines.{first_line, other_lines, line_at, behind, cr_lf, ends_in_cr_lf, Ends, Begins, Stands}

-- ---- the end of a line

-- the bytes from `from` to i are of its line
pub record Runs (text : List ℕ) (from i : ℕ) : Type 0 where
  pub low : from ≤ i
  pub high : i ≤ length text
  pub line : take (i - from) (drop from text) ++ first_line (drop i text) ≡ first_line (drop from text)

pub runs-first : (text : List ℕ) (from : ℕ) → from ≤ length text → Runs text from from
runs-first text from h =
    let n : from - from ≡ 0 = omega arith in
    record { low = omega arith; high = h; line = rw n }

module _ (text : List ℕ) (from i : ℕ) (r : Runs text from i) where
  pub runs-byte : i < length text → (get_or text i 0 ≡ 10 → ⊥) → Runs text from (i + 1)
  unfolding first_line
  runs-byte h ne =
      let l : i - from < length (drop from text) = rw length-drop (omega (arith, r.low)) in
      let p : from + (i - from) ≡ i = omega (arith, r.low) in
      let n : i + 1 - from ≡ suc (i - from) = omega (arith, r.low) in
      let x : get_or (drop from text) (i - from) 0 ≡ get_or text i 0 = get_or-drop from text (i - from) 0 ∙ rw p in
      let t : take (i + 1 - from) (drop from text) ≡ take (i - from) (drop from text) ++ (get_or text i 0 ∷ []) =
      rw n (take-suc (drop from text) (i - from) 0 l ∙ rw x) in
      let d : first_line (drop i text) ≡ get_or text i 0 ∷ first_line (drop (i + 1) text) =
      rw (drop-cons text i 0 h, ne_eqb (get_or text i 0) 10 ne, add-one i) in
      record {
        low = omega (arith, r.low);
        high = omega arith;
        line = rw (t, append_snoc, ← d) r.line;
      }

  pub runs-feed : i < length text → get_or text i 0 ≡ 10 → Ends text from i
  unfolding first_line
  runs-feed h e =
      let d : first_line (drop i text) ≡ [] = rw (drop-cons text i 0 h, eq-eqb (get_or text i 0) 10 e) in
      record { low = r.low; high = r.high; line = rw (d, append-nil) at r.line }

  pub runs-end : length text ≤ i → Ends text from (length text)
  unfolding first_line
  runs-end h =
      let n : i ≡ length text = omega (arith, r.high) in
      let d : first_line (drop i text) ≡ [] = rw (drop_of_length-le text {i = i} h) in
      let s : Ends text from i = record { low = r.low; high = r.high; line = rw (d, append-nil) at r.line } in
      rw n at s

-- ---- the next line

-- what stands behind a line is what stands behind its bytes and one byte more
others-are : (cs : List ℕ) → other_lines cs ≡ drop (suc (length (first_line cs))) cs
unfolding first_line other_lines
others-are [] = refl
others-are (c ∷ cs) = on (eqb c 10) (λ e. rw e) (λ e. rw e (others-are cs))

module _ (text : List ℕ) (from end : ℕ) (e : Ends text from end) where
  line-length : length (first_line (drop from text)) ≡ end - from
  line-length =
      sym (ap length e.line) ∙ length-take-le (end - from) (drop from text) (rw length-drop (omega (arith, e.low, e.high)))

  others-from : other_lines (drop from text) ≡ drop (end + 1) text
  others-from =
      let p : from + suc (end - from) ≡ end + 1 = omega (arith, e.low) in
      others-are (drop from text) ∙ rw line-length (drop-drop (suc (end - from)) from text ∙ rw p)

  pub begins-behind : end < length text → Begins text from (end + 1)
  begins-behind h = record { low = omega (arith, e.low); high = omega arith; rest = sym others-from }

  pub begins-none : length text ≤ end → Begins text from end
  begins-none h =
      record {
        low = e.low;
        high = e.high;
        rest = drop_of_length-le text {i = end} h ∙ sym (others-from ∙ drop_of_length-le text {i = end + 1} (omega arith));
      }

-- before the end of the text the next line begins behind this one's beginning
others-shorter : (c : ℕ) (cs : List ℕ) → length (other_lines (c ∷ cs)) ≤ length cs
unfolding other_lines
others-shorter c [] = on (eqb c 10) (λ e. rw e (omega arith)) (λ e. rw e (omega arith))
others-shorter c (d ∷ cs) = on (eqb c 10) (λ e. rw e (omega arith)) (λ e. rw e (omega (arith, others-shorter d cs)))

pub begins-later : (text : List ℕ) (from next : ℕ) → Begins text from next → from < length text → from < next
begins-later text from next b h =
    let d : length (other_lines (drop from text)) ≤ length (drop (suc from) text) =
    rw (drop-cons text from 0 h) (others-shorter (get_or text from 0) (drop (suc from) text)) in
    omega (arith, simp length-drop at (ap length b.rest), simp length-drop at d, length-drop next text, length-drop (suc from) text)

-- ---- line k

-- i lines are passed, and the next begins at `from`
pub record Passed (text : List ℕ) (k i from : ℕ) : Type 0 where
  pub count : i ≤ k
  pub high : from ≤ length text
  pub rest : behind (k - i) (drop from text) ≡ behind k text

pub passed_first : (text : List ℕ) (k : ℕ) → Passed text k 0 0
passed_first text k =
    let n : k - 0 ≡ k = omega arith in
    record { count = omega arith; high = omega arith; rest = rw n }

pub passed-line : (text : List ℕ) (k i from next : ℕ) → Passed text k i from → i < k → Begins text from next → Passed text k (i + 1) next
unfolding behind
passed-line text k i from next p h b =
    let n : k - i ≡ suc (k - (i + 1)) = omega arith in
    record { count = omega arith; high = b.high; rest = rw b.rest (rw n at p.rest) }

pub passed-all : (text : List ℕ) (k i from : ℕ) → Passed text k i from → k ≤ i → Stands text k from
unfolding behind
passed-all text k i from p h =
    let n : k - i ≡ 0 = omega arith in
    record { high = p.high; rest = rw n at p.rest }

-- the first of the lines behind k lines
behind-line : (k : ℕ) (cs : List ℕ) → first_line (behind k cs) ≡ line_at k cs
unfolding behind line_at
behind-line zero cs = refl
behind-line (suc k) cs = behind-line k (other_lines cs)

pub line-part : (text : List ℕ) (k from end : ℕ) → Stands text k from → Ends text from end → take (end - from) (drop from text) ≡ line_at k text
line-part text k from end s e = e.line ∙ ap first_line s.rest ∙ behind-line k text

-- ---- a line that ends in CR LF

none_left : (cs : List ℕ) → length cs ≡ 0 → cs ≡ []
none_left [] h = refl
none_left (c ∷ cs) h = absurd (omega arith)

pub no-line-zero : (text : List ℕ) (line : ℕ) → line ≡ 0 → false ≡ ends_in_cr_lf line text
unfolding ends_in_cr_lf
no-line-zero text line h = rw h

-- the line is the first of what stands from its beginning on
cr-lf-from : (text : List ℕ) (line from : ℕ) → (line ≡ 0 → ⊥) → Stands text (line - 1) from → ends_in_cr_lf line text ≡ cr_lf (drop from text)
unfolding ends_in_cr_lf
cr-lf-from text zero from ne s = absurd (ne refl)
cr-lf-from text (suc i) from ne s =
    let n : suc i - 1 ≡ i = omega arith in
    ap cr_lf (sym (rw n at s.rest))

module _ (text : List ℕ) (line from end : ℕ) (ne : line ≡ 0 → ⊥) (s : Stands text (line - 1) from) (e : Ends text from end) where
  cr-lf-here : ends_in_cr_lf line text ≡ ltb (end - from) (length text - from) and eqb (word_at (first_line (drop from text)) (end - from - 1)) 13
  unfolding cr_lf
  cr-lf-here = cr-lf-from text line from ne s ∙ rw (line-length text from end e, length-drop)

  pub no-feed : end ≡ length text → false ≡ ends_in_cr_lf line text
  no-feed h = rw cr-lf-here (sym (and-false-left _ _ (le-ltb (end - from) (length text - from) (omega arith))))

  pub no_byte : end ≡ from → false ≡ ends_in_cr_lf line text
  no_byte h =
      let l : first_line (drop from text) ≡ [] = none_left (first_line (drop from text)) (line-length text from end e ∙ omega arith) in
      rw (cr-lf-here, l) (sym (and-false-right _ _ refl))

  pub last_byte : (end ≡ length text → ⊥) → (end ≡ from → ⊥) → eqb (get_or text (end - 1) 0) 13 ≡ ends_in_cr_lf line text
  unfolding ◌and◌
  last_byte nf nb =
      let l : end - from < length text - from = omega (arith, e.low, e.high) in
      let i : end - from - 1 < end - from = omega (arith, e.low) in
      let p : from + (end - from - 1) ≡ end - 1 = omega (arith, e.low) in
      let b : word_at (first_line (drop from text)) (end - from - 1) ≡ get_or text (end - 1) 0 =
      rw (← e.line) (get_or-take (end - from) (drop from text) (end - from - 1) 0 i ∙ get_or-drop from text (end - from - 1) 0 ∙ rw p) in
      rw (cr-lf-here, b, lt-ltb (end - from) (length text - from) l)
