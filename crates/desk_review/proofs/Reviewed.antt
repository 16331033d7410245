-- What a review answers and leaves. Assumes nothing.
use Rattle.std.specs.Prelude.{Option, Some, Ok}
use mathlib.Core.Path.{◌≡◌, sym, ◌∙◌}
use mathlib.Core.List.{List}
use Prim.Native.Nat.{ℕ}
use lib.ListN.{get_or, set}
use borrow.Author.Tests.{eq-eqb, ne_eqb}
use Rattle.layout.specs.Content.{live_vertices, position}
use Rattle.layout.specs.Layout.{limit, read}
use Rattle.layout.specs.Answers.{result_of, vertex_missing}
use Rattle.layout.proofs.Answers.{on-found}
use Rattle.desk.specs.States.{waiting, reviewed}
use Rattle.desk.specs.Releases.{once_reviewed, review_result}
use Rattle.desk_fits.proofs.Looked.{state-found, with-state-found}

-- ---- the state x

pub waits-no-more : (x : ℕ) → x ≡ waiting → reviewed ≡ once_reviewed x
unfolding once_reviewed
waits-no-more x e = rw (eq-eqb x waiting e)

pub stays : (x : ℕ) → (x ≡ waiting → ⊥) → x ≡ once_reviewed x
unfolding once_reviewed
stays x ne = rw (ne_eqb x waiting ne)

-- ---- p is what `find_vertex` returned

module _ (ws ss : List ℕ) (v i : ℕ) (p : Option ℕ) (e : p ≡ position v (live_vertices (read limit ws))) (h : p ≡ Some i) where
  -- exit is what `review_record` left
  pub review-done : (exit : List ℕ) → exit ≡ set ss i (once_reviewed (get_or ss i 0)) → result_of (Ok 0) exit ≡ review_result v ss (read limit ws)
  unfolding review_result
  review-done exit q =
      rw (q, with-state-found (read limit ws) ss v i (sym e ∙ h), state-found (read limit ws) ss v i (sym e ∙ h))
      (on-found (live_vertices (read limit ws)) vertex_missing v ss _ p e i h)

-- x is what `once_reviewed` returned for the word at i
pub word-reviewed : (ss : List ℕ) (i x : ℕ) → x ≡ once_reviewed (get_or ss i 0) → set ss i x ≡ set ss i (once_reviewed (get_or ss i 0))
word-reviewed ss i x e = rw e
