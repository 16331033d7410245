-- Laws of lines carried out one after the other. Assumes nothing.
use mathlib.Core.Path.{◌≡◌, refl, sym, ap, ◌∙◌}
use mathlib.Core.Bool.{Bool, true, false, not}
use mathlib.Core.List.{List, [], ◌∷◌}
use Prim.Native.Nat.{ℕ, suc, ◌+◌, ◌-◌, ◌≤◌, ◌<◌}
use native.Mathlib.Numerals.{add-one}
use native.Mathlib.Omega.{arith}
use lib.Dec.{eqb, ltb}
use lib.ListN.{length, get_or, take, drop, drop_of_length-le}
use lib.Seq.{drop-cons}
use denote.Enum.Bare.{sameb, differs_true, differs_false}
use borrow.Author.Rules.{rules}
use borrow.Author.Tests.{eq-eqb, ne_eqb, eqb-true, ltb-true, not-true, not-false}
use Rattle.lists.specs.Tests.{◌and◌}
use Rattle.lists.proofs.Cases.{on, and_left, and_right}
use Rattle.layout.specs.Layout.{limit, size, vertex_limit}
use Rattle.desk.specs.Desk.{Desk, desk_of}
use Rattle.wording.specs.Pages.{Page, page}
use Rattle.text_lines.proofs.Lines.{begins-later}
use Rattle.text_lines.specs.Lines.{line_feed, first_line, other_lines, Ends, Begins}
use Rattle.command_sheets.specs.declared.Manner.{Manner}
use Rattle.batches.specs.contracts.Ending.{the_type}
use Rattle.batches.specs.declared.Ending.{Ending}
use Rattle.batches.specs.declared.Ending.TheVariants.{Done, Refused, Misused}
use Rattle.batches.specs.declared.Ran.{Ran}
use Rattle.batches.specs.Batches.{is_done, Said, said, Ended, ended, line_end, before, lines_of, carried, kept, all_or_none, has_lengths, run_of}
use Rattle.batches.specs.Runs.{said_by, ended_by}

-- ---- the lines of a text

-- the first line, and the lines behind it
pub lines_cons : (b : ℕ) (bs : List ℕ) → lines_of (b ∷ bs) ≡ first_line (b ∷ bs) ∷ lines_of (other_lines (b ∷ bs))
unfolding lines_of first_line other_lines before
lines_cons b [] = on (eqb b line_feed) (λ q. rw q) (λ q. rw q)
lines_cons b (c ∷ cs) = on (eqb b line_feed) (λ q. rw q) (λ q. rw (q, lines_cons c cs))

-- from a place on
pub lines_from : (text : List ℕ) (from : ℕ) → from < length text → lines_of (drop from text) ≡ first_line (drop from text) ∷ lines_of (other_lines (drop from text))
lines_from text from h = rw (drop-cons text from 0 h) (lines_cons (get_or text from 0) (drop (suc from) text))

-- ---- what a line ends with

pub not-done : (e : Ending) → (e ≡ Done → ⊥) → is_done e ≡ false
not-done Done ne = absurd (ne refl)
not-done Refused ne = refl
not-done Misused ne = refl

-- what a test tells
pub done-not : (f : Bool) (e : Ending) → f ≡ not (sameb the_type e Done) → f ≡ true → e ≡ Done → ⊥
done-not f e p q = differs_true the_type e Done (sym p ∙ q)

pub done-is : (f : Bool) (e : Ending) → f ≡ not (sameb the_type e Done) → f ≡ false → e ≡ Done
done-is f e p q = differs_false the_type (search rules) e Done (sym p ∙ q)

-- ---- the loop: what is left, carried out on the desk and the page as they are, gives the end w

module _ (how : Manner) (name : List ℕ) (w : Ended) (text : List ℕ) where
  -- a line that is not done ends it
  pub carried-stop : (i from end : ℕ) (d g : Desk) (p : Page) (line : List ℕ) (r : Ran) (bytes : List ℕ)
      → carried how name i (lines_of (drop from text)) (ended d (said Done p)) ≡ w → from < length text → Ends text from end
      → line ≡ take (end - from) (drop from text) → ended_by r g bytes ≡ line_end how name i line d p → (r.status ≡ Done → ⊥) → ended_by r g bytes ≡ w
  unfolding carried
  carried-stop i from end d g p line r bytes inv h e l q ne =
      let first : line ≡ first_line (drop from text) = l ∙ e.line in
      sym (sym inv ∙ rw (lines_from text from h, ← first, ← q) (stopped (lines_of (other_lines (drop from text)))))
    where
      stopped : (ls : List (List ℕ)) → carried how name (suc i) ls (ended_by r g bytes) ≡ ended_by r g bytes
      stopped [] = refl
      stopped (x ∷ xs) = rw (not-done r.status ne)

  -- a line that is done
  pub carried-more : (i from end next : ℕ) (d g : Desk) (p : Page) (line : List ℕ) (r : Ran) (bytes : List ℕ)
      → carried how name i (lines_of (drop from text)) (ended d (said Done p)) ≡ w → from < length text → Ends text from end → Begins text from next
      → line ≡ take (end - from) (drop from text) → ended_by r g bytes ≡ line_end how name i line d p → r.status ≡ Done
      → carried how name (i + 1) (lines_of (drop next text)) (ended g (said Done (page bytes r.length))) ≡ w
  unfolding carried
  carried-more i from end next d g p line r bytes inv h e n l q z =
      let first : line ≡ first_line (drop from text) = l ∙ e.line in
      let here : ended_by r g bytes ≡ ended g (said Done (page bytes r.length)) = ap (λ (k : Ending). ended g (said k (page bytes r.length))) z in
      sym (sym inv ∙ rw (lines_from text from h, ← first, ← q, here, ← n.rest, add-one i))

  pub carried-end : (i from : ℕ) (e : Ended) → length text ≤ from → carried how name i (lines_of (drop from text)) e ≡ w → e ≡ w
  unfolding carried lines_of
  carried-end i from e h inv = rw (drop_of_length-le text {i = from} h) at inv

-- each line has a byte at the least
module _ (text : List ℕ) (from next : ℕ) (b : Begins text from next) (h : from < length text) where
  pub left-falls : length text - next < length text - from
  left-falls = omega (arith, h, begins-later text from next b h, b.high)

  pub counted-more : (i : ℕ) → i ≤ from + 1 → i + 1 ≤ next + 1
  counted-more i l = omega (arith, l, begins-later text from next b h)

-- ---- lengths

module _ (ts ss text : List ℕ) where
  pub another-table : (length ts ≡ size limit → ⊥) → false ≡ has_lengths text (desk_of ts ss)
  unfolding has_lengths ◌and◌
  another-table ne = rw (ne_eqb (length ts) (size limit) ne)

  pub other-states : length ts ≡ size limit → (length ss ≡ vertex_limit → ⊥) → false ≡ has_lengths text (desk_of ts ss)
  unfolding has_lengths ◌and◌
  other-states h ne = rw (eq-eqb (length ts) (size limit) h, ne_eqb (length ss) vertex_limit ne)

  pub batch-length : (b : Bool) → length ts ≡ size limit → length ss ≡ vertex_limit → b ≡ ltb (length text) 4294967295 → b ≡ has_lengths text (desk_of ts ss)
  unfolding has_lengths ◌and◌
  batch-length b h g e = e ∙ rw (eq-eqb (length ts) (size limit) h, eq-eqb (length ss) vertex_limit g)

-- ---- the whole

pub not-kept : (status : Ending) (new old : Desk) → (status ≡ Done → ⊥) → old ≡ kept status new old
unfolding kept
not-kept status new old ne = rw (not-done status ne)

pub new-kept : (status : Ending) (old : Desk) (table states ts ss : List ℕ) → status ≡ Done → ts ≡ table → ss ≡ states
    → desk_of ts ss ≡ kept status (desk_of table states) old
unfolding kept
new-kept status old table states ts ss z e f = rw (z, e, f)

-- a copy keeps its length
pub copy-length : (ts table xs : List ℕ) → table ≡ ts → length xs ≡ length table → length ts ≡ length xs
copy-length ts table xs e f = ap length (sym e) ∙ sym f

-- the lines were carried out on the copies table and states, which have become xs and ys
pub copies_kept : (how : Manner) (name text ts ss table states xs ys us vs bytes exit : List ℕ) (r : Ran) → table ≡ ts → states ≡ ss
    → ended_by r (desk_of xs ys) exit ≡ carried how name 1 (lines_of text) (ended (desk_of table states) (said Done (page bytes 0)))
    → desk_of us vs ≡ kept r.status (desk_of xs ys) (desk_of ts ss)
    → ended_by r (desk_of us vs) exit ≡ all_or_none (desk_of ts ss) (carried how name 1 (lines_of text) (ended (desk_of ts ss) (said Done (page bytes 0))))
unfolding all_or_none
copies_kept how name text ts ss table states xs ys us vs bytes exit r c d e k =
    ap (λ (g : Desk). ended_by r g exit) k
    ∙ ap (λ (x : Ended). ended (kept x.status x.desk (desk_of ts ss)) (said x.status x.page)) (e ∙ rw (c, d))

module _ (how : Manner) (name text ts ss bytes : List ℕ) (m : Bool) (f : m ≡ has_lengths text (desk_of ts ss)) where
  pub run-misused : not m ≡ true → ended (desk_of ts ss) (said Misused (page bytes 0)) ≡ run_of how name text (desk_of ts ss) bytes
  unfolding run_of
  run-misused h = rw (← f, not-true m h)

  pub run-carried : (x : Ended) → not m ≡ false
      → x ≡ all_or_none (desk_of ts ss) (carried how name 1 (lines_of text) (ended (desk_of ts ss) (said Done (page bytes 0))))
      → x ≡ run_of how name text (desk_of ts ss) bytes
  unfolding run_of
  run-carried x h e = e ∙ rw (← f, not-false m h)

  yes : not m ≡ false → has_lengths text (desk_of ts ss) ≡ true
  yes h = sym f ∙ not-false m h

  pub table-length : not m ≡ false → length ts ≡ size limit
  unfolding has_lengths
  table-length h = eqb-true (length ts) (size limit) (and_left _ _ (yes h))

  pub states-length : not m ≡ false → length ss ≡ vertex_limit
  unfolding has_lengths
  states-length h = eqb-true (length ss) vertex_limit (and_left _ _ (and_right (eqb (length ts) (size limit)) _ (yes h)))

  pub batch-short : not m ≡ false → length text < 4294967295
  unfolding has_lengths
  batch-short h =
      ltb-true (length text) 4294967295
      (and_right (eqb (length ss) vertex_limit) _ (and_right (eqb (length ts) (size limit)) _ (yes h)))
