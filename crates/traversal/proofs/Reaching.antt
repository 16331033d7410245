-- What the code finds of reachability, and what it answers. Assumes nothing.
use Rattle.std.specs.Prelude.{Option, Some, Ok, Err, ok_or, IsErrAnd}
use mathlib.Core.Path.{◌≡◌, sym, ap, ◌∙◌}
use mathlib.Core.Bool.{Bool}
use mathlib.Core.List.{List, []}
use Prim.Native.Nat.{ℕ, ◌<◌}
use native.Mathlib.Omega.{arith}
use lib.ListN.{get_or}
use mir.Syntax.{w64}
use mir.Val.{Fits}
use Rattle.lists.specs.Tests.{bit}
use Rattle.lists.specs.Lists.{memb}
use Rattle.lists.proofs.Count.{bit_le}
use Rattle.lists.proofs.Memb.{below-memb}
use Rattle.layout.specs.Content.{live_vertices, position}
use Rattle.layout.specs.Layout.{limit, vertex_count, read}
use Rattle.layout.specs.Inner.{Formed}
use Rattle.layout.specs.declared.Refusal.{Refusal}
use Rattle.layout.specs.Answers.{Answer, result_of, on_live, vertex_missing}
use Rattle.layout.proofs.Answers.{untaken, refused-by}
use Rattle.layout.proofs.Position.{position-found, found-live, missing-dead}
use Rattle.layout.proofs.Read.{live-length, vertex-found}
use Rattle.graph.specs.Reach.{matrix}
use Rattle.graph.specs.Bfs.{bfs}
use Rattle.graph.specs.Held.{Marks}
use Rattle.graph.proofs.Bfs.{bfs-below}
use Rattle.steps.specs.Matrices.{number_of, steps_between}
use Rattle.steps.specs.Inner.{Holds}
use Rattle.steps.proofs.Holds.{holds-matrix}
use Rattle.steps.proofs.Records.{record-once}
use Rattle.traversal.specs.Traversal.{list_from, traversal, reachable, reachable_result}
use Rattle.traversal.proofs.Ext.{bfs-ext}
use Rattle.traversal.proofs.Mapped.{memb-image}

-- ---- records: n is what `vertex_count` found, m what `step_matrix` made, marks what `marks_from` made

module _ {ws : List ℕ} (f : Formed limit ws) {m : List ℕ} (w : Holds (steps_between (read limit ws)) (vertex_count ws) m) (n : ℕ) (e : n ≡ vertex_count ws) where
  -- the search in the matrix is the search along the steps
  pub matrix-search : (i : ℕ) → i < vertex_count ws → bfs (matrix m) n i ≡ bfs (steps_between (read limit ws)) (vertex_count ws) i
  matrix-search i h = rw e (bfs-ext (matrix m) (steps_between (read limit ws)) (vertex_count ws) (holds-matrix w f.shape.vertices-le) i h)

  module _ (marks : List ℕ) (i j : ℕ) (hi : i < vertex_count ws) (hj : j < vertex_count ws) (k : Marks n marks (bfs (matrix m) n i)) where
    pub reached-is : get_or marks j 0 ≡ bit (memb j (bfs (steps_between (read limit ws)) (vertex_count ws) i))
    reached-is = k j (rw e hj) ∙ ap (λ (l : List ℕ). bit (memb j l)) (matrix-search i hi)

    pub reached-fits : Fits w64 (get_or marks j 0)
    reached-fits = omega (arith, k j (rw e hj), bit_le (memb j (bfs (matrix m) n i)))

-- a record that was found
pub record-below : (ws : List ℕ) (x i : ℕ) → position x (live_vertices (read limit ws)) ≡ Some i → i < vertex_count ws
record-below ws x i e = (vertex-found limit ws x i e).0

pub found_below : (ws : List ℕ) (x : ℕ) (p : Option ℕ) → p ≡ position x (live_vertices (read limit ws)) → (i : ℕ) → p ≡ Some i → i < vertex_count ws
found_below ws x p e i h = record-below ws x i (sym e ∙ h)

-- ---- answers: p is what `find_vertex` found of y

module _ (ws : List ℕ) (x y : ℕ) where
  pub first-missing : (p : Option ℕ) → p ≡ position x (live_vertices (read limit ws)) → (z : Refusal) (q : Answer) → q ≡ ok_or p z
      → (f : Refusal) (r : Answer) → q ≡ Err f → IsErrAnd r (λ a. a ≡ f) → Err z ≡ vertex_missing x → result_of r [] ≡ reachable_result x y (read limit ws)
  unfolding reachable_result on_live
  first-missing p e z q made f r h by s =
      rw (refused-by p z q made f r h by ∙ s, missing-dead x (live_vertices (read limit ws)) (sym e ∙ untaken p z q made f h))

  module _ (i : ℕ) (ei : position x (live_vertices (read limit ws)) ≡ Some i) (p : Option ℕ) (e : p ≡ position y (live_vertices (read limit ws))) where
    pub second-missing : (z : Refusal) (q : Answer) → q ≡ ok_or p z → (f : Refusal) (r : Answer) → q ≡ Err f → IsErrAnd r (λ a. a ≡ f) → Err z ≡ vertex_missing y
        → result_of r [] ≡ reachable_result x y (read limit ws)
    unfolding reachable_result on_live
    second-missing z q made f r h by s = rw (
      refused-by p z q made f r h by ∙ s,
      found-live x (live_vertices (read limit ws)) i ei,
      missing-dead y (live_vertices (read limit ws)) (sym e ∙ untaken p z q made f h),
    )

    module _ (f : Formed limit ws) (j : ℕ) (h : p ≡ Some j) where
      -- in terms of the records
      reached-here : reachable (read limit ws) x y ≡ memb j (bfs (steps_between (read limit ws)) (vertex_count ws) i)
      unfolding reachable traversal list_from
      reached-here =
          let l : List ℕ = bfs (steps_between (read limit ws)) (vertex_count ws) i in
          rw (ei, live-length limit ws, ← (position-found y (live_vertices (read limit ws)) j (sym e ∙ h)).1)
          (memb-image (number_of (read limit ws)) j l (λ k q s. record-once f k j (below-memb (vertex_count ws) l (bfs-below (steps_between (read limit ws)) (vertex_count ws) i (record-below ws x i ei)) k q) (record-below ws y j (sym e ∙ h)) s))

      pub both_found : (r : ℕ) → r ≡ bit (memb j (bfs (steps_between (read limit ws)) (vertex_count ws) i)) → result_of (Ok r) [] ≡ reachable_result x y (read limit ws)
      unfolding reachable_result on_live
      both_found r q =
          rw (found-live x (live_vertices (read limit ws)) i ei, found-live y (live_vertices (read limit ws)) j (sym e ∙ h), q)
          (ap (λ (b : Bool). result_of (Ok (bit b)) []) (sym reached-here))
