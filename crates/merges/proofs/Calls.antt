-- Which merges of a well-formed table are not refused, and the words and the content that they leave. Assumes nothing.
use Rattle.std.specs.Prelude.{Ok}
use mathlib.Core.Path.{◌≡◌, refl, ap, ◌∙◌}
use mathlib.Core.Bool.{Bool, true, false}
use mathlib.Core.List.{List, [], ◌∷◌}
use Prim.Native.Nat.{ℕ}
use borrow.Author.Tests.{eqb-false, ne_eqb}
use Rattle.lists.specs.Lists.{any}
use Rattle.lists.proofs.Cases.{or-false-left, or-false-right}
use Rattle.layout.specs.Answers.{Answer}
use Rattle.layout.specs.Content.{Hyperedge, Table}
use Rattle.layout.specs.Layout.{limit, read, words}
use Rattle.layout.specs.WellFormed.{well_formed}
use Rattle.layout.specs.Answers.{number, Result, result_of, on_live}
use Rattle.layout.proofs.Answers.{formed-result}
use Rattle.layout.proofs.Back.{read-words, read-holdable}
use Rattle.edits.specs.Edits.{merge_vertices}
use Rattle.edits.specs.Results.{on_first, by_number, on_other, side_by_side, side_by_side_in, merge_result}
use Rattle.edits.proofs.Merged.{Mergeable, merge-holdable}
use Rattle.edits.proofs.Outcomes.{merge-goes}
use Rattle.merges.specs.Merges.{merged, Accepted}

-- no hyperedge passes the test
first-none : (p : Hyperedge → Bool) (answer : Hyperedge → Answer) (es : List Hyperedge) (lent : List ℕ) (r : Result)
    → any p es ≡ false → on_first p answer es lent r ≡ r
unfolding on_first any
first-none p answer [] lent r q = refl
first-none p answer (e ∷ es) lent r q = rw (or-false-left (p e) (any p es) q) (first-none p answer es lent r (or-false-right (p e) (any p es) q))

-- a merge that meets no refusal is done
merge-done : (v w : ℕ) (ws : List ℕ) (t : Table) → Mergeable v w t → merge_result v w ws t ≡ result_of (Ok 0) (words limit (merge_vertices v w t))
unfolding merge_result on_live on_other
merge-done v w ws t m =
    rw (m.kept-live, m.gone-live, ne_eqb v w m.two) (first-none (side_by_side v w) (by_number side_by_side_in) t.hyperedges ws _ m.apart)

-- what a result that is no refusal says
Meets : ℕ → ℕ → Table → Result → Type 0
Meets v w t r = r.number ≡ 0 → Mergeable v w t × (r.lent ≡ words limit (merge_vertices v w t))

module _ (v w : ℕ) (ws : List ℕ) (formed : well_formed limit ws ≡ true) where
  pub mergeable-accepted : Mergeable v w (read limit ws) → Accepted v w ws
  mergeable-accepted m = ap (λ (r : Result). r.number) (formed-result ws ws (merge_result v w ws) formed ∙ merge-done v w ws (read limit ws) m)

  accepted-meets : Accepted v w ws → Mergeable v w (read limit ws) × (merged v w ws ≡ words limit (merge_vertices v w (read limit ws)))
  unfolding Meets
  accepted-meets a = merge-goes (Meets v w (read limit ws)) ws formed (λ b n z. absurd (eqb-false (number b) 0 n z)) v w (λ m z. (m, refl)) a

  module _ (a : Accepted v w ws) where
    pub accepted-mergeable : Mergeable v w (read limit ws)
    accepted-mergeable = (accepted-meets a).0

    pub merged-words : merged v w ws ≡ words limit (merge_vertices v w (read limit ws))
    merged-words = (accepted-meets a).1

    pub merged-read : read limit (merged v w ws) ≡ merge_vertices v w (read limit ws)
    merged-read = ap (read limit) merged-words
        ∙ read-words limit _ (merge-holdable limit v w (read limit ws) (read-holdable limit ws formed) accepted-mergeable.kept-live)
