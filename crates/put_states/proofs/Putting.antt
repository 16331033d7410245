-- What the code writes of the states, and what is left of them. Assumes nothing.
use mathlib.Core.Path.{◌≡◌, sym, ap, ◌∙◌}
use mathlib.Core.List.{List, ◌++◌}
use Prim.Native.Nat.{ℕ, ◌+◌, ◌≤◌, ◌<◌}
use native.Mathlib.Numerals.{add-one}
use native.Mathlib.Omega.{arith}
use lib.ListN.{length, get_or, drop, drop_of_length-le}
use lib.Seq.{drop-cons}
use borrow.Author.Tests.{eq-eqb, ne_eqb}
use Rattle.lists.specs.Lists.{word_at}
use Rattle.layout.specs.Content.{live_vertices}
use Rattle.layout.specs.Layout.{limit, vertex_limit, vertex_count, vertex_at, read}
use Rattle.layout.specs.Inner.{Formed}
use Rattle.layout.proofs.Read.{live_at, live-length}
use Rattle.wording.specs.Texts.{text, decimal}
use Rattle.wording.specs.Pages.{Page, page, write_byte, write}
use Rattle.wording.proofs.Writing.{one_byte, then, nothing_written, left-more}
use Rattle.desk.specs.States.{waiting, released}
use Rattle.states_text.specs.StatesText.{state_word, state_line, line_for, states_text}

module _ (x : ℕ) (p : Page) (e : List ℕ) (r : ℕ) where
  pub word-released : x ≡ released → page e r ≡ write (text "released ") p → page e r ≡ write (state_word x) p
  unfolding state_word
  word-released h w = rw (eq-eqb x released h) w

  pub word-reviewed : (x ≡ released → ⊥) → page e r ≡ write (text "reviewed ") p → page e r ≡ write (state_word x) p
  unfolding state_word
  word-reviewed h w = rw (ne_eqb x released h) w

  -- a is the page behind the word, b the one behind the number
  pub line-put : (v : ℕ) (a b : List ℕ) (q s : ℕ) → page a q ≡ write (state_word x) p → page b s ≡ write (decimal v) (page a q) → page e r ≡ write_byte 10 (page b s)
      → page e r ≡ write (state_line x v) p
  unfolding state_line
  line-put v a b q s ew en ef =
      then p a e (state_word x) (decimal v ++ text "\n") q r ew (then (page a q) b e (decimal v) (text "\n") s r en (ef ∙ sym (one_byte 10 (page b s))))

  pub put-line : (v : ℕ) → (x ≡ waiting → ⊥) → page e r ≡ write (state_line x v) p → page e r ≡ write (line_for x v) p
  unfolding line_for
  put-line v h w = rw (ne_eqb x waiting h) w

pub put-none : (x v : ℕ) (e : List ℕ) (r : ℕ) → x ≡ waiting → page e r ≡ write (line_for x v) (page e r)
unfolding line_for
put-none x v e r h = rw (eq-eqb x waiting h) (nothing_written e r)

pub record-put : (x n v : ℕ) (p : Page) (e : List ℕ) (r : ℕ) → n ≡ v → page e r ≡ write (line_for x n) p → page e r ≡ write (line_for x v) p
record-put x n v p e r h w = rw (← h) w

-- ---- the loop: the first i vertices are written; n is what `vertex_count` found

module _ (ws ss : List ℕ) (f : Formed limit ws) (sized : length ss ≡ vertex_limit) (n : ℕ) (en : n ≡ vertex_count ws) (w : Page) (b : List ℕ) (r i : ℕ)
    (left : write (states_text (drop i (live_vertices (read limit ws))) (drop i ss)) (page b r) ≡ w) where
  pub states-more : (c : List ℕ) (q : ℕ) → i < n → page c q ≡ write (line_for (word_at ss i) (vertex_at ws i).number) (page b r)
      → write (states_text (drop (i + 1) (live_vertices (read limit ws))) (drop (i + 1) ss)) (page c q) ≡ w
  unfolding states_text
  states-more c q h ep =
      let v : ℕ = (vertex_at ws i).number in
      let live : List ℕ = live_vertices (read limit ws) in
      let number : v ≡ get_or live i 0 = sym (live_at limit ws i (omega arith)) in
      let l : i < length live = omega (arith, live-length limit ws) in
      let s : i < length ss = omega (arith, f.shape.vertices-le) in
      let first : states_text (drop i live) (drop i ss) ≡ line_for (get_or ss i 0) v ++ states_text (drop (i + 1) live) (drop (i + 1) ss) =
      rw (drop-cons live i 0 l, drop-cons ss i 0 s, number, add-one i) in
      left-more w b c (line_for (get_or ss i 0) v) _ r q (ap (λ (t : List ℕ). write t (page b r)) (sym first) ∙ left) ep

  pub states-end : n ≤ i → page b r ≡ w
  unfolding states_text write
  states-end h = rw (drop_of_length-le (live_vertices (read limit ws)) {i = i} (omega (arith, live-length limit ws))) at left
