-- The faulty line: a text that is not accepted has exactly one, the line behind the good ones; an accepted text has none. Assumes nothing.
use mathlib.Core.Path.{◌≡◌, refl, sym, ap, ◌∙◌}
use mathlib.Core.Bool.{true, false}
use mathlib.Core.List.{List, [], ◌++◌}
use Prim.Native.Nat.{ℕ, zero, suc, ◌+◌, ◌-◌, ◌≤◌, ◌<◌}
use native.Mathlib.Nat.{le_antisymm}
use native.Mathlib.Omega.{arith}
use lib.ListN.{length, take, drop, take-append-drop}
use lib.Seq.{take-take, take_all, length-take-le}
use Rattle.lists.specs.Tests.{◌and◌}
use Rattle.lists.specs.Lists.{all, tab, ascending}
use Rattle.lists.proofs.Cases.{on_below, clash}
use Rattle.lists.proofs.Tab.{length-tab}
use Rattle.lists.proofs.Flat.{flat_append}
use Rattle.layout.specs.Content.{Table, numbered}
use Rattle.layout.specs.Layout.{limit, read}
use Rattle.layout.proofs.Back.{read-holdable}
use Rattle.layout.proofs.Holdable.{Holdable, holdable-of}
use Rattle.frames.specs.Frames.{frame_text}
use Rattle.frames.specs.Reading.{line_good, lines_due, good_lines, accepted, faulty_line}
use Rattle.frames.specs.Faulty.{Written, lines_of, Begins, Faulty}
use Rattle.frame_laws.proofs.Lines.{joined, lines-joined}
use Rattle.frame_laws.proofs.Rows.{row_at, rows, Agrees, agrees-less, agrees-front, agrees-of, text-agrees, text-lines}
use Rattle.frame_laws.proofs.Held.{Worded, read-worded}
use Rattle.frame_laws.proofs.First.{first-le, first-before, first-from}
use Rattle.frame_laws.proofs.Good.{lines-due, line-good}
use Rattle.frame_laws.proofs.Begun.{completed, completed-rows, completed-held, completed-worded, completed-agrees}
use Rattle.frame_laws.proofs.Written.{written-accepted}
use Rattle.frame_laws.proofs.Accepted.{text-written, accepted-written}

-- ---- texts that have the first lines of a written one

-- some written text has the first k lines of the text: its content, and that they stand in the text
pub record Shares (k : ℕ) (text : List ℕ) : Type 0 where
  pub content : Table
  pub held : Holdable limit content
  pub worded : Worded content
  pub enough : k ≤ rows content
  pub agrees : Agrees k text content

pub shares-begins : (k : ℕ) (text : List ℕ) → Shares k text → Begins k text
shares-begins k text s =
    let t : Table = s.content in
    record {
      other = frame_text t;
      written = text-written t s.held s.worded;
      same = agrees-front t k text s.agrees ∙ sym (agrees-front t k (frame_text t) (agrees-less (rows t) k (frame_text t) t s.enough (text-agrees t)));
    }

-- a list of which fewer than k are taken is taken whole
taken-whole : {A : Type 0} (k : ℕ) (xs : List A) → length (take k xs) < k → take k xs ≡ xs
taken-whole k xs h = on_below k (length xs) (λ l. absurd (omega (arith, length-take-le k xs (omega arith)))) (λ l. take_all k xs l)

pub begins-shares : (k : ℕ) (text : List ℕ) → accepted text ≡ false → Begins k text → Shares k text
begins-shares k text refused b =
    let w : Written b.other = b.written in
    let t : Table = read limit w.table in
    let same : take k (lines_of text) ≡ take k (lines_of (frame_text t)) = b.same ∙ ap (λ (l : List ℕ). take k (lines_of l)) (sym w.gives) in
    let len : length (lines_of (frame_text t)) ≡ rows t = ap length (text-lines t) ∙ length-tab (row_at t) (rows t) in
    on_below (rows t) k
    (λ h.
    let whole : take k (lines_of (frame_text t)) ≡ lines_of (frame_text t) = take_all k (lines_of (frame_text t)) (omega arith) in
    let all_lines : lines_of text ≡ lines_of (frame_text t) = sym (taken-whole k (lines_of text) (omega (arith, ap length same, ap length whole))) ∙ same ∙ whole in
    let is : frame_text t ≡ text = sym (lines-joined (frame_text t)) ∙ ap joined (sym all_lines) ∙ lines-joined text in
    clash (written-accepted text (record { table = w.table; fits = w.fits; formed = w.formed; gives = is })) refused)
    (λ h.
    let front : take k (lines_of text) ≡ tab (row_at t) k = same ∙ agrees-front t k (frame_text t) (agrees-less (rows t) k (frame_text t) t h (text-agrees t)) in
    record {
      content = t;
      held = holdable-of (read-holdable limit w.table w.formed);
      worded = read-worded w.table w.fits;
      enough = h;
      agrees = agrees-of t k text (joined (drop k (lines_of text))) (
          sym (lines-joined text) ∙ ap joined (sym (take-append-drop k (lines_of text)))
          ∙ flat_append (λ l. l) (take k (lines_of text)) (drop k (lines_of text)) ∙ ap (λ (l : List (List ℕ)). joined l ++ joined (drop k (lines_of text))) front);
    })

-- fewer lines
begins-less : (k h : ℕ) (text : List ℕ) → h ≤ k → Begins k text → Begins h text
begins-less k h text l b = record {
  other = b.other;
  written = b.written;
  same = sym (take-take h k (lines_of text) l) ∙ ap (take h) b.same ∙ take-take h k (lines_of b.other) l;
}

-- ---- the good lines

abbrev pub empty : Table
empty = record { next_vertex = 0; next_hyperedge = 0; vertices = []; hyperedges = [] }

empty-held : Holdable limit empty
unfolding numbered ascending all ◌and◌
empty-held = record {
  vertices-le = omega arith;
  hyperedges-le = omega arith;
  vertices-numbered = refl;
  hyperedges-numbered = refl;
  counts = refl;
  members-live = refl;
}

empty-worded : Worded empty
empty-worded = record {
  next-vertex = omega arith;
  next-hyperedge = omega arith;
  vertex-number = λ i h. absurd (omega arith);
  vertex-weight = λ i h. absurd (omega arith);
  hyperedge-number = λ j h. absurd (omega arith);
  hyperedge-weight = λ j h. absurd (omega arith);
  members = λ j h. absurd (omega arith);
}

pub empty-written : Written (frame_text empty)
empty-written = text-written empty empty-held empty-worded

-- some written text has g lines that are good
good-begins : (text : List ℕ) (g : ℕ) → g ≤ lines_due text → ((k : ℕ) → k < g → line_good text k ≡ true) → Begins g text
good-begins text zero l good = record { other = frame_text empty; written = empty-written; same = refl }
good-begins text (suc g) l good =
    shares-begins (suc g) text (record {
      content = completed text g;
      held = completed-held text g l good;
      worded = completed-worded text g l good;
      enough = rw (completed-rows text g) l;
      agrees = completed-agrees text g l good;
    })

-- none has one more
good-never : (text : List ℕ) → accepted text ≡ false → Begins (suc (good_lines text)) text → ⊥
unfolding good_lines
good-never text refused b =
    let g : ℕ = good_lines text in
    let s : Shares (suc g) text = begins-shares (suc g) text refused b in
    let t : Table = s.content in
    let due : lines_due text ≡ rows t = lines-due text t s.held s.worded (suc g) s.agrees (omega arith) in
    let more : suc g ≤ good_lines text = first-from (line_good text) (lines_due text) (suc g) (omega (arith, s.enough)) (line-good text t s.held s.worded (suc g) s.agrees s.enough) in
    absurd (omega arith)

-- ---- the faulty line

-- a text that is not accepted: the line behind the good ones is faulty
pub faulty-line : (text : List ℕ) → accepted text ≡ false → Faulty text (faulty_line text)
unfolding faulty_line good_lines
faulty-line text refused =
    let g : ℕ = good_lines text in
    let e : suc g - 1 ≡ g = omega arith in
    record {
      before = rw e (good-begins text (good_lines text) (first-le (line_good text) (lines_due text)) (first-before (line_good text) (lines_due text)));
      never = good-never text refused;
    }

-- and no other is; there is no line 0
pub faulty-only : (text : List ℕ) → accepted text ≡ false → (k : ℕ) → Faulty text k → k ≡ faulty_line text
faulty-only text refused k f =
    let one : Faulty text (faulty_line text) = faulty-line text refused in
    on_below k (faulty_line text)
    (λ h. absurd (f.never (begins-less (faulty_line text - 1) k text (omega arith) one.before)))
    (λ h. on_below (faulty_line text) k
    (λ l. absurd (one.never (begins-less (k - 1) (faulty_line text) text (omega arith) f.before)))
    (λ l. le_antisymm l h))

-- an accepted text has no faulty line
pub accepted-faultless : (text : List ℕ) → accepted text ≡ true → (k : ℕ) → Faulty text k → ⊥
accepted-faultless text taken k f = f.never (record { other = text; written = accepted-written text taken; same = refl })
