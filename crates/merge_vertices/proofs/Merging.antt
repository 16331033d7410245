-- What a merge answers and leaves, from what the code found. Assumes nothing.
use Rattle.std.specs.Prelude.{Option, Some, None, Ok, Err}
use mathlib.Core.Path.{◌≡◌, sym, ap, ◌∙◌}
use mathlib.Core.List.{List, map}
use Prim.Native.Nat.{ℕ, ◌<◌}
use lib.ListN.{get_or}
use borrow.Author.Tests.{eq-eqb, ne_eqb}
use Rattle.layout.specs.declared.Refusal.TheVariants.{SameVertex, SideBySide}
use Rattle.layout.specs.Content.{live_vertices, position}
use Rattle.layout.specs.Layout.{limit, hyperedge_limit, hyperedge_word, vertex_count, read_hyperedges, read, words}
use Rattle.layout.specs.Inner.{Formed}
use Rattle.layout.specs.Answers.{Result, result_of, on_live, vertex_missing}
use Rattle.layout.proofs.Position.{found-live, missing-dead}
use Rattle.layout.proofs.Read.{vertex-found}
use Rattle.layout.proofs.Back.{formed-holdable}
use Rattle.layout.proofs.Answers.{on-found}
use Rattle.edits.specs.Edits.{renamed, rename_vertex}
use Rattle.edits.specs.Removing.{vertex_taken_out}
use Rattle.edits.specs.Results.{on_other, side_by_side, side_by_side_in, merge_result, first_passing}
use Rattle.edits.specs.Stages.{merge_live_result, merge_into_result}
use Rattle.edits.proofs.Passing.{passing-within, on-passing, on-none-passing}
use Rattle.edits.proofs.Merged.{merge-is}
use Rattle.edits.proofs.Dropped.{vertex-dropped}

-- ---- both are live: 13 and 14, and the merge

pub merge-same : (v w : ℕ) (ws : List ℕ) → v ≡ w → result_of (Err (SameVertex (record { 0 = v }))) ws ≡ merge_live_result v w ws (read limit ws)
unfolding merge_live_result on_other
merge-same v w ws e = rw (eq-eqb v w e)

-- s is what `find_side_by_side` found
module _ (v w : ℕ) (ws : List ℕ) (s : Option ℕ) (e : s ≡ first_passing (side_by_side v w) (read_hyperedges limit ws)) where
  pub beside-within : (j : ℕ) → s ≡ Some j → Formed limit ws → j < hyperedge_limit
  beside-within j h f = passing-within (side_by_side v w) ws s e j h f

  module _ (two : v ≡ w → ⊥) where
    pub merge-beside : (j : ℕ) → s ≡ Some j → (x : ℕ) → x ≡ get_or ws (hyperedge_word limit j) 0 → result_of (Err (SideBySide (record { 0 = x }))) ws ≡ merge_live_result v w ws (read limit ws)
    unfolding merge_live_result on_other
    merge-beside j h x q = rw (ne_eqb v w two) (on-passing (side_by_side v w) ws s e j h side_by_side_in ws _ x q)

    -- i is the place of w, n what `vertex_count` found, ws₁ the words after `rename_vertex`, ws₂ those after `drop_vertex`
    pub merge-done : (i n : ℕ) (ws₁ ws₂ : List ℕ) → Formed limit ws → position w (live_vertices (read limit ws)) ≡ Some i → s ≡ None → n ≡ vertex_count ws
        → ws₁ ≡ words limit (rename_vertex v w (read limit ws)) → ws₂ ≡ vertex_taken_out i n ws₁ → result_of (Ok 0) ws₂ ≡ merge_live_result v w ws (read limit ws)
    unfolding merge_live_result on_other rename_vertex
    merge-done i n ws₁ ws₂ f p h en e₁ e₂ =
        rw (ne_eqb v w two)
        (ap (result_of (Ok 0))
        (e₂ ∙ vertex-dropped limit ws f w i n (map (renamed v w) (read_hyperedges limit ws)) ws₁ p en e₁ ∙ sym (ap (words limit) (merge-is limit v w (read limit ws) (formed-holdable limit ws f) two)))
        ∙ on-none-passing (side_by_side v w) ws s e side_by_side_in ws _ h)

pub gone-below : (w : ℕ) (ws : List ℕ) (i n : ℕ) → position w (live_vertices (read limit ws)) ≡ Some i → n ≡ vertex_count ws → i < n
gone-below w ws i n p e = rw e (vertex-found limit ws w i p).0

-- ---- 3: p is what `find_vertex` found of w, and of v

module _ (v w : ℕ) (ws : List ℕ) (p : Option ℕ) (e : p ≡ position w (live_vertices (read limit ws))) where
  module _ (i : ℕ) (h : p ≡ Some i) where
    pub gone-here : position w (live_vertices (read limit ws)) ≡ Some i
    gone-here = sym e ∙ h

    pub gone-live : (y : Result) → y ≡ merge_live_result v w ws (read limit ws) → y ≡ merge_into_result v w ws (read limit ws)
    unfolding merge_into_result
    gone-live y q = q ∙ on-found (live_vertices (read limit ws)) vertex_missing w ws _ p e i h

module _ (v w : ℕ) (ws : List ℕ) (p : Option ℕ) (e : p ≡ position v (live_vertices (read limit ws))) where
  pub kept-missing : p ≡ None → result_of (vertex_missing v) ws ≡ merge_result v w ws (read limit ws)
  unfolding merge_result on_live
  kept-missing h = rw (missing-dead v (live_vertices (read limit ws)) (sym e ∙ h))

  pub kept-live : (i : ℕ) (y : Result) → p ≡ Some i → y ≡ merge_into_result v w ws (read limit ws) → y ≡ merge_result v w ws (read limit ws)
  unfolding merge_result merge_into_result merge_live_result on_live
  kept-live i y h q = rw (found-live v (live_vertices (read limit ws)) i (sym e ∙ h)) q
