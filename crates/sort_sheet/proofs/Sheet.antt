-- From what the reader and the sort promise to what a sheet shows. Assumes nothing.
use Rattle.std.specs.Prelude.{Ok, Err}
use mathlib.Core.Path.{◌≡◌, refl, sym, ap, ◌∙◌}
use mathlib.Core.Bool.{Bool, true, false, not}
use mathlib.Core.List.{List}
use Prim.Native.Nat.{ℕ}
use native.Mathlib.Omega.{arith}
use lib.Dec.{eqb}
use lib.ListN.{length}
use borrow.Author.Tests.{eq-eqb, eqb-true, eqb-false, not-true, not-false}
use Rattle.lists.proofs.Cases.{on}
use Rattle.layout.specs.Answers.{Answer}
use Rattle.layout.specs.declared.Refusal.TheVariants.{BadText}
use Rattle.layout.specs.declared.Reply.{Reply}
use Rattle.layout.specs.Layout.{limit, size, words}
use Rattle.layout.specs.Answers.{number, detail, Result, result_of, on_formed}
use Rattle.layout.proofs.Answers.{agree}
use Rattle.structural.specs.Sort.{sort_result}
use Rattle.frames.specs.Reading.{content_of, accepted, faulty_line, read_result}
use Rattle.frames.specs.Faulty.{Written}
use Rattle.frame_laws.proofs.Accepted.{accepted-written}
use Rattle.frame_laws.proofs.Written.{written-content}
use Rattle.frame_laws.proofs.Document.{read-written}
use Rattle.sort_sheet.specs.Sheet.{sheet_result}

-- a reply tells the answer's number
pub number-told : (a : Answer) (r : Reply) → (r.number ≡ number a) × (r.detail ≡ detail a) → eqb r.number 0 ≡ eqb (number a) 0
number-told a r e = ap (λ (n : ℕ). eqb n 0) e.0

-- a and t are what a read of the text into a table of the right length answered and left
module _ (text lent order : List ℕ) (len : length lent ≡ size limit) (a : Answer) (t : List ℕ) (e : result_of a t ≡ read_result text lent) where
  good : accepted text ≡ true → result_of a t ≡ result_of (Ok 0) (words limit (content_of text))
  unfolding read_result
  good q = e ∙ rw (eq-eqb (length lent) (size limit) len, q)

  bad : accepted text ≡ false → result_of a t ≡ result_of (Err (BadText (faulty_line text))) lent
  unfolding read_result
  bad q = e ∙ rw (eq-eqb (length lent) (size limit) len, q)

  -- d says whether a is done, and the code tested `!d`
  module _ (d : Bool) (is : d ≡ eqb (number a) 0) where
    pub refused : not d ≡ true → result_of a order ≡ sheet_result text order
    unfolding sheet_result
    refused h =
        let no : number a ≡ 0 → ⊥ = eqb-false (number a) 0 (sym is ∙ not-true d h) in
        on (accepted text)
        (λ q. absurd (no (ap (λ (r : Result). r.number) (good q))))
        (λ q.
        let same : a ≡ Err (BadText (faulty_line text)) = (agree (result_of (Err (BadText (faulty_line text))) lent) {a = a} {b = Err (BadText (faulty_line text))} {x = t} {y = lent} (bad q) refl).0 in
        rw q (ap (λ (x : Answer). result_of x order) same))

    pub sorted : not d ≡ false → (r : Answer) (exit : List ℕ) → result_of r exit ≡ on_formed t order (sort_result order) → result_of r exit ≡ sheet_result text order
    unfolding sheet_result on_formed
    sorted h r exit p =
        let yes : number a ≡ 0 = eqb-true (number a) 0 (sym is ∙ not-false d h) in
        on (accepted text)
        (λ q.
        let w : Written text = accepted-written text q in
        let same : t ≡ w.table = ap (λ (x : Result). x.lent) (e ∙ read-written text lent w len) in
        rw (q, written-content text w) (p ∙ rw (same, w.formed)))
        (λ q. absurd (let z : ◌≡◌ {A = ℕ} 0 12 = sym yes ∙ ap (λ (x : Result). x.number) (bad q) in omega arith))
