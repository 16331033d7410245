-- What is accepted is what the writer gives for some well-formed table. Assumes nothing.
use mathlib.Core.Path.{◌≡◌, refl, sym, ap, ◌∙◌}
use mathlib.Core.Bool.{true}
use mathlib.Core.List.{List}
use Prim.Native.Nat.{ℕ, suc, ◌+◌, ◌<◌}
use native.Mathlib.Omega.{arith}
use lib.ListN.{length}
use borrow.Author.Tests.{eqb-true}
use Rattle.lists.specs.Tests.{◌and◌}
use Rattle.lists.proofs.Cases.{and_left, and_right}
use Rattle.layout.specs.Content.{Table}
use Rattle.layout.specs.Layout.{limit, words}
use Rattle.layout.proofs.Back.{read-words, words-formed}
use Rattle.layout.proofs.Holdable.{Holdable, holdable-by}
use Rattle.frames.specs.Frames.{frame_text}
use Rattle.frames.specs.Reading.{vertices_due, hyperedges_due, hyperedge_place, line_good, lines_due, good_lines, accepted}
use Rattle.frames.specs.Faulty.{Written}
use Rattle.frame_laws.proofs.Rows.{rows, place_at, Agrees, agrees-less, agrees-whole}
use Rattle.frame_laws.proofs.Held.{Worded, words-fit}
use Rattle.frame_laws.proofs.First.{first-before}
use Rattle.frame_laws.proofs.Begun.{completed, completed-rows, completed-held, completed-worded, completed-agrees, completed-place}

-- the text of a content that a table can hold and that fits in words is written
pub text-written : (t : Table) → Holdable limit t → Worded t → Written (frame_text t)
text-written t d w = record {
  table = words limit t;
  fits = words-fit t d w;
  formed = words-formed limit t (holdable-by d);
  gives = ap frame_text (read-words limit t (holdable-by d));
}

-- what is accepted is written
pub accepted-written : (text : List ℕ) → accepted text ≡ true → Written text
unfolding accepted good_lines
accepted-written text e =
    let g : ℕ = vertices_due text + hyperedges_due text in
    let all-good : good_lines text ≡ lines_due text = eqb-true (good_lines text) (lines_due text) (and_left _ _ e) in
    let good : (k : ℕ) → k < suc g → line_good text k ≡ true = λ k h. first-before (line_good text) (lines_due text) k (rw all-good h) in
    let ends : length text ≡ hyperedge_place text (hyperedges_due text) = eqb-true (length text) (hyperedge_place text (hyperedges_due text)) (and_right _ _ e) in
    let t : Table = completed text g in
    let r : rows t ≡ suc g = completed-rows text g in
    let a : Agrees (rows t) text t = agrees-less (suc g) (rows t) text t (omega arith) (completed-agrees text g (omega arith) good) in
    let w : Written (frame_text t) = text-written t (completed-held text g (omega arith) good) (completed-worded text g (omega arith) good) in
    let is : frame_text t ≡ text = agrees-whole t text a (ends ∙ sym (ap (place_at t) r ∙ completed-place text g (omega arith) good refl)) in
    rw is at w
