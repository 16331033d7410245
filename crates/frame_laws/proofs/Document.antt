-- The document's words on what is read and on which line is faulty. Assumes nothing.
use Rattle.std.specs.Prelude.{Ok, Err}
use mathlib.Core.Path.{◌≡◌, refl, sym, ap, ◌∙◌}
use mathlib.Core.Bool.{true, false}
use mathlib.Core.Logic.{◌⊎◌, inl, inr}
use mathlib.Core.List.{List, [], ◌∷◌, ◌++◌}
use Prim.Native.Nat.{ℕ, suc, ◌+◌, ◌-◌, ◌≤◌, ◌<◌}
use native.Mathlib.Nat.{le_antisymm}
use native.Mathlib.Omega.{arith}
use lib.Dec.{eqb}
use lib.ListN.{length, get_or, take, drop, length-append}
use lib.Seq.{drop_at, get_or-take, get_or-append-add}
use borrow.Author.Tests.{eqb-true, eq-eqb, ne_eqb}
use Rattle.lists.specs.Tests.{◌and◌}
use Rattle.lists.specs.Lists.{memb, tab, flat}
use Rattle.lists.proofs.Cases.{on, on_below, clash, and_left, and_right, or-false-left, or-false-right}
use Rattle.lists.proofs.Tab.{length-tab, getD-tab}
use Rattle.layout.specs.declared.Refusal.TheVariants.{BadText}
use Rattle.layout.specs.Content.{Table}
use Rattle.layout.specs.Layout.{limit, size, read}
use Rattle.layout.specs.WellFormed.{well_formed}
use Rattle.layout.specs.Answers.{Result, result_of}
use Rattle.layout.proofs.Shape.{shaped_of}
use Rattle.layout.proofs.Back.{read-holdable}
use Rattle.layout.proofs.Holdable.{Holdable, holdable-of}
use Rattle.frames.specs.Frames.{frame_text}
use Rattle.frames.specs.Reading.{hyperedges_due, hyperedge_place, line_good, lines_due, good_lines, accepted, faulty_line, read_result}
use Rattle.frames.specs.Faulty.{Written, onto, lines_of, Faulty}
use Rattle.frame_laws.proofs.Lines.{joined}
use Rattle.frame_laws.proofs.Rows.{row_at, rows, place_at, Agrees, agrees-less, agrees-front, agrees-lines, agrees-of, place_is, row-ended, text-agrees, text-lines, text-rows, text-length}
use Rattle.frame_laws.proofs.Held.{Worded, read-worded}
use Rattle.frame_laws.proofs.First.{first-le, first-before, first-from, first-none}
use Rattle.frame_laws.proofs.Good.{hyperedges-due, lines-due, hyperedge-place, line-good}
use Rattle.frame_laws.proofs.Begun.{completed, completed-agrees}
use Rattle.frame_laws.proofs.Written.{written-accepted, round_trip}
use Rattle.frame_laws.proofs.Accepted.{accepted-written}
use Rattle.frame_laws.proofs.Faulty.{empty, empty-written, faulty-line, faulty-only, accepted-faultless}

-- every text is written or has a faulty line, and none both
pub written-or-faulty : (text : List ℕ) → Written text ⊎ Faulty text (faulty_line text)
written-or-faulty text = on (accepted text) (λ e. inl (accepted-written text e)) (λ e. inr (faulty-line text e))

pub written-faultless : (text : List ℕ) → Written text → (k : ℕ) → Faulty text k → ⊥
written-faultless text w k f = accepted-faultless text (written-accepted text w) k f

-- a written text is read as the table that it was written from
pub read-written : (text lent : List ℕ) (w : Written text) → length lent ≡ size limit → read_result text lent ≡ result_of (Ok 0) w.table
read-written text lent w len = ap (λ (x : List ℕ). read_result x lent) (sym w.gives) ∙ round_trip w.table lent w.fits w.formed len

-- so there is only one such table
pub written_once : (text : List ℕ) (w v : Written text) → w.table ≡ v.table
unfolding well_formed
written_once text w v =
    let len : length w.table ≡ size limit = (shaped_of limit w.table (and_left _ _ w.formed)).sized in
    ap (λ (r : Result). r.lent) (sym (read-written text w.table w len) ∙ read-written text w.table v len)

-- 12 names the faulty line, and changes no word
pub read-faulty : (text lent : List ℕ) (k : ℕ) → length lent ≡ size limit → Faulty text k → read_result text lent ≡ result_of (Err (BadText k)) lent
unfolding read_result
read-faulty text lent k len f =
    on (accepted text) (λ e. absurd (accepted-faultless text e k f)) (λ e. rw (eq-eqb (length lent) (size limit) len, e, faulty-only text e k f))

-- ---- texts that stop early

-- a good line ends with a line feed
good-ended : (text : List ℕ) (k : ℕ) → k < good_lines text → memb 10 (get_or (lines_of text) k []) ≡ true
unfolding good_lines
good-ended text k h =
    let l : suc k ≤ lines_due text = omega (arith, first-le (line_good text) (lines_due text)) in
    let t : Table = completed text k in
    let a : Agrees (suc k) text t = completed-agrees text k l (λ i q. first-before (line_good text) (lines_due text) i (omega arith)) in
    let e : get_or (lines_of text) k [] ≡ row_at t k =
    sym (get_or-take (suc k) (lines_of text) k [] (omega arith)) ∙ ap (λ (ls : List (List ℕ)). get_or ls k []) (agrees-front t (suc k) text a) ∙ getD-tab (row_at t) (suc k) k [] (omega arith) in
    rw e (row-ended t k)

onto-free : (b : ℕ) (ls : List (List ℕ)) → eqb 10 b ≡ false → memb 10 (get_or ls 0 []) ≡ false → memb 10 (get_or (onto b ls) 0 []) ≡ false
unfolding onto
onto-free b [] p q = rw p
onto-free b (l ∷ ls) p q = rw p q

-- what has no line feed is at most one line, and that has none
unended : (l : List ℕ) → memb 10 l ≡ false → memb 10 (get_or (lines_of l) 0 []) ≡ false
unfolding lines_of
unended [] h = refl
unended (b ∷ l) h =
    let e : eqb b 10 ≡ false = ne_eqb b 10 (λ q. clash (eq-eqb 10 b (sym q)) (or-false-left (eqb 10 b) (memb 10 l) h)) in
    rw e (onto-free b (lines_of l) (or-false-left (eqb 10 b) (memb 10 l) h) (unended l (or-false-right (eqb 10 b) (memb 10 l) h)))

module _ (whole : List ℕ) (w : Written whole) where
  abbrev t : Table
  t = read limit w.table

  d : Holdable limit t
  d = holdable-of (read-holdable limit w.table w.formed)

  f : Worded t
  f = read-worded w.table w.fits

  lines_are : lines_of whole ≡ tab (row_at t) (rows t)
  lines_are = ap lines_of (sym w.gives) ∙ text-lines t

  lines-count : length (lines_of whole) ≡ rows t
  lines-count = ap length lines_are ∙ length-tab (row_at t) (rows t)

  -- the first k lines of a written text, and what is no whole line: the next line is faulty
  pub stops-early : (k : ℕ) (l : List ℕ) → k < length (lines_of whole) → memb 10 l ≡ false → Faulty (joined (take k (lines_of whole)) ++ l) (suc k)
  unfolding accepted faulty_line good_lines
  stops-early k l h free =
      let text : List ℕ = joined (take k (lines_of whole)) ++ l in
      let front : take k (lines_of whole) ≡ tab (row_at t) k =
      ap (λ (x : List ℕ). take k (lines_of x)) (sym w.gives) ∙ agrees-front t k (frame_text t) (agrees-less (rows t) k (frame_text t) t (omega (arith, lines-count)) (text-agrees t)) in
      let is : text ≡ joined (tab (row_at t) k) ++ l = ap (λ (ls : List (List ℕ)). joined ls ++ l) front in
      let a : Agrees k text t = agrees-of t k text l is in
      let rest : drop (place_at t k) text ≡ l = ap (drop (place_at t k)) is ∙ drop_at (joined (tab (row_at t) k)) l (place_at t k) (place_is t k) in
      let len : length (tab (row_at t) k) ≡ k = length-tab (row_at t) k in
      let at-end : k ≡ length (tab (row_at t) k) + 0 = omega arith in
      let last : get_or (lines_of text) k [] ≡ get_or (lines_of l) 0 [] =
      ap (λ (ls : List (List ℕ)). get_or ls k []) (agrees-lines t k text a ∙ ap (λ (x : List ℕ). tab (row_at t) k ++ lines_of x) rest)
      ∙ ap (λ (i : ℕ). get_or (tab (row_at t) k ++ lines_of l) i []) at-end
      ∙ get_or-append-add (tab (row_at t) k) (lines_of l) 0 [] in
      let due : k < lines_due text = on_below 0 k (λ q. omega (arith, lines-due text t d f k a q, lines-count)) (λ q. omega arith) in
      let low : k ≤ good_lines text = first-from (line_good text) (lines_due text) k (omega arith) (line-good text t d f k a (omega (arith, lines-count))) in
      let high : good_lines text ≤ k = on_below k (good_lines text) (λ q. clash (good-ended text k q) (ap (memb 10) last ∙ unended l free)) (λ q. q) in
      let no_more : accepted text ≡ false = on (accepted text) (λ e. absurd (omega (arith, eqb-true (good_lines text) (lines_due text) (and_left _ _ e)))) (λ e. e) in
      let n : faulty_line text ≡ suc k = ap suc (le_antisymm high low) in
      rw n at (faulty-line text no_more)

  -- a written text that runs on: the line behind its last is faulty
  pub runs_on : (b : ℕ) (more : List ℕ) → Faulty (whole ++ (b ∷ more)) (suc (length (lines_of whole)))
  unfolding accepted faulty_line good_lines
  runs_on b more =
      let text : List ℕ = whole ++ (b ∷ more) in
      let a : Agrees (rows t) text t = agrees-of t (rows t) text (b ∷ more) (ap (λ (x : List ℕ). x ++ (b ∷ more)) (sym w.gives ∙ text-rows t)) in
      let due : lines_due text ≡ rows t = lines-due text t d f (rows t) a (omega arith) in
      let good : good_lines text ≡ lines_due text = first-none (line_good text) (lines_due text) (λ k h. line-good text t d f (rows t) a (omega arith) k (omega arith)) in
      let place : hyperedge_place text (hyperedges_due text) ≡ length whole =
      ap (hyperedge_place text) (hyperedges-due text t d f (rows t) a (omega arith)) ∙ hyperedge-place text t d f (rows t) a (omega arith) (length t.hyperedges) (omega arith)
      ∙ sym (text-length t) ∙ ap length w.gives in
      let no_more : accepted text ≡ false =
      on (accepted text) (λ e. absurd (omega (arith, eqb-true (length text) (hyperedge_place text (hyperedges_due text)) (and_right _ _ e), length-append whole (b ∷ more)))) (λ e. e) in
      let n : faulty_line text ≡ suc (length (lines_of whole)) = ap suc (good ∙ due ∙ sym lines-count) in
      rw n at (faulty-line text no_more)

-- line 1 for empty text
pub empty-faulty : Faulty [] 1
unfolding flat
empty-faulty = stops-early (frame_text empty) empty-written 0 [] some refl
  where
    some : 0 < length (lines_of (frame_text empty))
    some = omega (arith, lines-count (frame_text empty) empty-written)
