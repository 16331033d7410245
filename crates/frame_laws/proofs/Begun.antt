-- The good lines of a text, and a content whose text has them. Assumes nothing.
use mathlib.Core.Path.{◌≡◌}
use mathlib.Core.Bool.{true}
use mathlib.Core.List.{List}
use Prim.Native.Nat.{ℕ, suc, ◌+◌, ◌-◌, ◌≤◌, ◌<◌, min}
use native.Mathlib.Omega.{arith}
use borrow.Author.Tests.{lt-ltb, le-ltb}
use Rattle.lists.proofs.Tab.{length-tab}
use Rattle.layout.specs.Content.{Table}
use Rattle.layout.specs.Layout.{limit}
use Rattle.layout.proofs.Holdable.{Holdable}
use Rattle.frames.specs.Reading.{vertices_due, hyperedges_due, hyperedge_place, line_good, lines_due}
use Rattle.frame_laws.proofs.Rows.{rows, place_at, Agrees, agrees-less}
use Rattle.frame_laws.proofs.Held.{Worded}
use Rattle.frame_laws.proofs.Fill.{filled_vertex, filled_hyperedge, filled, Begun, filled-held, filled-worded, filled-place, filled-agrees}

-- the content for g lines behind the head
abbrev pub completed : List ℕ → ℕ → Table
completed text g = filled text (min g (vertices_due text)) (g - vertices_due text)

module _ (text : List ℕ) (g : ℕ) where
  pub completed-rows : rows (completed text g) ≡ lines_due text
  completed-rows = rw (length-tab (filled_vertex text (min g (vertices_due text))) (vertices_due text), length-tab (filled_hyperedge text (min g (vertices_due text)) (g - vertices_due text)) (hyperedges_due text))

  module _ (l : suc g ≤ lines_due text) (good : (k : ℕ) → k < suc g → line_good text k ≡ true) where
    begun : Begun text (min g (vertices_due text)) (g - vertices_due text)
    unfolding line_good
    begun =
        let n : ℕ = vertices_due text in
        record {
          head = good 0 (omega arith);
          vertices-le = omega arith;
          hyperedges-le = omega arith;
          vertices = λ i h. let q : i < n = omega arith in rw (lt-ltb i n q) at (good (suc i) (omega arith));
          hyperedges = λ j h. let e : n + j - n ≡ j = omega arith in rw (le-ltb (n + j) n (omega arith), e) at (good (suc (n + j)) (omega arith));
          all-before = λ h. omega arith;
        }

    pub completed-held : Holdable limit (completed text g)
    completed-held = filled-held text (min g (vertices_due text)) (g - vertices_due text) begun

    pub completed-worded : Worded (completed text g)
    completed-worded = filled-worded text (min g (vertices_due text)) (g - vertices_due text) begun

    pub completed-agrees : Agrees (suc g) text (completed text g)
    completed-agrees =
        agrees-less (suc (min g (vertices_due text) + (g - vertices_due text))) (suc g) text (completed text g) (omega arith)
        (filled-agrees text (min g (vertices_due text)) (g - vertices_due text) begun)

    -- where all lines are good, the place behind the last
    pub completed-place : suc g ≡ lines_due text → place_at (completed text g) (lines_due text) ≡ hyperedge_place text (hyperedges_due text)
    completed-place e = filled-place text (min g (vertices_due text)) (g - vertices_due text) begun (hyperedges_due text) (omega arith)
