-- Long texts: a reader that sees one byte more than the longest written text has sees enough. Assumes nothing.
use mathlib.Core.Path.{◌≡◌, sym, ap, ◌∙◌}
use mathlib.Core.Bool.{false}
use mathlib.Core.List.{List}
use Prim.Native.Nat.{ℕ, suc, ◌+◌, ◌-◌, ◌≤◌, ◌<◌}
use native.Mathlib.Omega.{arith}
use lib.ListN.{length, take, drop, length-drop, take-append-drop}
use lib.Seq.{take_all, length-take-le, drop-append-le, take-append-le}
use Rattle.lists.proofs.Cases.{on, on_below}
use Rattle.layout.specs.Content.{Table}
use Rattle.layout.specs.Layout.{limit}
use Rattle.layout.proofs.Holdable.{Holdable}
use Rattle.frames.specs.Reading.{stands_at, accepted, faulty_line, read_result}
use Rattle.frames.specs.Faulty.{Faulty}
use Rattle.frame_laws.specs.Longest.{longest}
use Rattle.frame_laws.proofs.Rows.{row_at, rows, place_at}
use Rattle.frame_laws.proofs.Longest.{place-le, accepted-short}
use Rattle.frame_laws.proofs.Faulty.{Shares, shares-begins, begins-shares, faulty-line, faulty-only}

long-refused : (text : List ℕ) → longest < length text → accepted text ≡ false
long-refused text h = on (accepted text) (λ e. absurd (omega (arith, accepted-short text e))) (λ e. e)

-- ---- a text cut behind place k

cut-part : (text : List ℕ) (p l k : ℕ) → p + l ≤ k → k ≤ length text → take l (drop p (take k text)) ≡ take l (drop p text)
cut-part text p l k h m =
    let len : length (take k text) ≡ k = length-take-le k text m in
    sym (
    ap (λ (x : List ℕ). take l (drop p x)) (sym (take-append-drop k text))
    ∙ ap (take l) (drop-append-le p (take k text) (drop k text) (omega arith))
    ∙ take-append-le l (drop p (take k text)) (drop k text) (omega (arith, length-drop p (take k text))))

cut_stands : (text : List ℕ) (p : ℕ) (xs : List ℕ) (k : ℕ) → p + length xs ≤ k → k ≤ length text → stands_at (take k text) p xs ≡ stands_at text p xs
unfolding stands_at
cut_stands text p xs k h m = rw (cut-part text p (length xs) k h m)

module _ (text : List ℕ) (k : ℕ) (h : longest < k) (m : k ≤ length text) where
  row_in : (t : Table) → Holdable limit t → (g : ℕ) → g ≤ rows t → (i : ℕ) → i < g → place_at t i + length (row_at t i) ≤ k
  unfolding place_at
  row_in t d g l i q = let b : place_at t (suc i) ≤ longest = place-le t d (suc i) (omega arith) in omega arith

  cut-shares : (g : ℕ) → Shares g text → Shares g (take k text)
  cut-shares g s = record {
    content = s.content;
    held = s.held;
    worded = s.worded;
    enough = s.enough;
    agrees = λ i q. cut_stands text (place_at s.content i) (row_at s.content i) k (row_in s.content s.held g s.enough i q) m ∙ s.agrees i q;
  }

  shares_cut : (g : ℕ) → Shares g (take k text) → Shares g text
  shares_cut g s = record {
    content = s.content;
    held = s.held;
    worded = s.worded;
    enough = s.enough;
    agrees = λ i q. sym (cut_stands text (place_at s.content i) (row_at s.content i) k (row_in s.content s.held g s.enough i q) m) ∙ s.agrees i q;
  }

  refused : accepted text ≡ false
  refused = long-refused text (omega arith)

  cut-refused : accepted (take k text) ≡ false
  cut-refused = long-refused (take k text) (omega (arith, length-take-le k text m))

  cut-faulty : faulty_line text ≡ faulty_line (take k text)
  cut-faulty =
      let f : Faulty text (faulty_line text) = faulty-line text refused in
      faulty-only (take k text) cut-refused (faulty_line text) (record {
        before = shares-begins (faulty_line text - 1) (take k text) (cut-shares (faulty_line text - 1) (begins-shares (faulty_line text - 1) text refused f.before));
        never = λ b. f.never (shares-begins (faulty_line text) text (shares_cut (faulty_line text) (begins-shares (faulty_line text) (take k text) cut-refused b)));
      })

-- what a read answers and leaves is decided by the first 58,978 bytes
pub long-text : (text lent : List ℕ) (k : ℕ) → longest < k → read_result text lent ≡ read_result (take k text) lent
unfolding read_result
long-text text lent k h =
    on_below k (length text)
    (λ l. rw (refused text k h (omega arith), cut-refused text k h (omega arith), cut-faulty text k h (omega arith)))
    (λ l. ap (λ (x : List ℕ). read_result x lent) (sym (take_all k text l)))
