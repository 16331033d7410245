-- What the writer gives is accepted, and read back as the table that it was written from. Assumes nothing.
use Rattle.std.specs.Prelude.{Ok}
use mathlib.Core.Path.{◌≡◌, refl, sym, ap, ◌∙◌}
use mathlib.Core.Bool.{true}
use mathlib.Core.List.{List}
use Prim.Native.Nat.{ℕ}
use native.Mathlib.Omega.{arith}
use lib.ListN.{length}
use borrow.Author.Tests.{eq-eqb}
use Rattle.lists.specs.Tests.{◌and◌}
use Rattle.lists.specs.Lists.{all}
use Rattle.lists.proofs.Cases.{and_left, and_both}
use Rattle.layout.specs.Content.{Table}
use Rattle.layout.specs.Layout.{limit, size, read}
use Rattle.layout.specs.WellFormed.{well_formed}
use Rattle.layout.specs.Answers.{result_of}
use Rattle.layout.proofs.Shape.{shaped_of}
use Rattle.layout.proofs.Words.{words-read}
use Rattle.layout.proofs.Back.{read-holdable}
use Rattle.layout.proofs.Holdable.{Holdable, holdable-of}
use Rattle.frames.specs.Frames.{frame_text}
use Rattle.frames.specs.Reading.{hyperedges_due, hyperedge_place, content_of, line_good, lines_due, good_lines, accepted, read_result}
use Rattle.frames.specs.Faulty.{is_word, Written}
use Rattle.frame_laws.proofs.Rows.{rows, text-agrees, text-length}
use Rattle.frame_laws.proofs.Held.{Worded, read-worded}
use Rattle.frame_laws.proofs.First.{first-none}
use Rattle.frame_laws.proofs.Good.{hyperedges-due, lines-due, hyperedge-place, line-good, content-is}

module _ (t : Table) (d : Holdable limit t) (w : Worded t) where
  text-good : good_lines (frame_text t) ≡ lines_due (frame_text t)
  unfolding good_lines
  text-good =
      let due : lines_due (frame_text t) ≡ rows t = lines-due (frame_text t) t d w (rows t) (text-agrees t) (omega arith) in
      first-none (line_good (frame_text t)) (lines_due (frame_text t)) (λ k h. line-good (frame_text t) t d w (rows t) (text-agrees t) (omega arith) k (omega arith))

  text-ends : length (frame_text t) ≡ hyperedge_place (frame_text t) (hyperedges_due (frame_text t))
  text-ends =
      text-length t ∙ sym (
      ap (hyperedge_place (frame_text t)) (hyperedges-due (frame_text t) t d w (rows t) (text-agrees t) (omega arith))
      ∙ hyperedge-place (frame_text t) t d w (rows t) (text-agrees t) (omega arith) (length t.hyperedges) (omega arith))

  pub text-accepted : accepted (frame_text t) ≡ true
  unfolding accepted
  text-accepted = and_both _ _ (eq-eqb _ _ text-good) (eq-eqb _ _ text-ends)

  pub text-content : content_of (frame_text t) ≡ t
  text-content = content-is (frame_text t) t d w (rows t) (text-agrees t) (omega arith) refl

-- what the writer gives for a well-formed table is accepted
pub written-accepted : (text : List ℕ) → Written text → accepted text ≡ true
written-accepted text w =
    let t : Table = read limit w.table in
    ap accepted (sym w.gives) ∙ text-accepted t (holdable-of (read-holdable limit w.table w.formed)) (read-worded w.table w.fits)

-- and reading it into a table of the right length gives the words that it was written from
pub round_trip : (ws lent : List ℕ) → all is_word ws ≡ true → well_formed limit ws ≡ true → length lent ≡ size limit
    → read_result (frame_text (read limit ws)) lent ≡ result_of (Ok 0) ws
unfolding read_result well_formed
round_trip ws lent f e len =
    let t : Table = read limit ws in
    let d : Holdable limit t = holdable-of (read-holdable limit ws e) in
    let w : Worded t = read-worded ws f in
    rw (eq-eqb (length lent) (size limit) len, text-accepted t d w, text-content t d w, words-read limit ws (shaped_of limit ws (and_left _ _ e)))

-- the content that stands in it is that of the table that it was written from
pub written-content : (text : List ℕ) (w : Written text) → content_of text ≡ read limit w.table
written-content text w =
    let t : Table = read limit w.table in
    ap content_of (sym w.gives) ∙ text-content t (holdable-of (read-holdable limit w.table w.formed)) (read-worded w.table w.fits)
