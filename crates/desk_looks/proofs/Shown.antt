-- What the desk shows: the state of a vertex, and the vertices that the marks pick. Assumes nothing.
use Rattle.std.specs.Prelude.{Option, Some, Ok}
use mathlib.Core.Path.{◌≡◌, sym, ap, ap₂, ◌∙◌}
use mathlib.Core.Bool.{Bool, not}
use mathlib.Core.List.{List, []}
use Prim.Native.Nat.{ℕ, ◌<◌}
use native.Mathlib.Omega.{arith}
use lib.ListN.{length, get_or}
use Rattle.lists.specs.Tests.{◌and◌}
use Rattle.lists.specs.Lists.{any, filter, up_to, word_at}
use Rattle.lists.proofs.Flat.{tab-getD}
use Rattle.layout.specs.Content.{live_vertices, position}
use Rattle.layout.specs.Layout.{limit, vertex_count, read}
use Rattle.layout.specs.Inner.{Formed}
use Rattle.layout.specs.Answers.{Result, result_of, vertex_missing, listed}
use Rattle.layout.proofs.Read.{live-length, live-ascends}
use Rattle.layout.proofs.Answers.{on-found}
use Rattle.marks.specs.Marks.{is_marked, marked}
use Rattle.marks.proofs.Marked.{marked-filter}
use Rattle.graph.specs.Reach.{matrix}
use Rattle.steps.specs.Matrices.{steps_between}
use Rattle.steps.specs.Inner.{Holds}
use Rattle.steps.proofs.Holds.{holds-matrix}
use Rattle.desk.specs.States.{reviewed, released, in_state}
use Rattle.desk.specs.Releases.{holds, state_result, vertices_in, list_result, is_releasable, releasable, releasable_result}
use Rattle.desk_fits.proofs.Looked.{state-found, in-state-at}
use Rattle.desk_fits.proofs.Passing.{any_same}
use Rattle.desk_looks.specs.Held.{MarkedWhere, record_in, record_free, holds_record, Held}

-- ---- the state of a vertex: p is what `find_vertex` returned

module _ (ws ss : List ℕ) (v i : ℕ) (p : Option ℕ) (e : p ≡ position v (live_vertices (read limit ws))) (h : p ≡ Some i) where
  -- x is what `state_at` returned
  pub state-told : (x : ℕ) → x ≡ word_at ss i → result_of (Ok x) [] ≡ state_result v ss (read limit ws)
  unfolding state_result
  state-told x q =
      ap (λ (y : ℕ). result_of (Ok y) []) (q ∙ sym (state-found (read limit ws) ss v i (sym e ∙ h)))
      ∙ on-found (live_vertices (read limit ws)) vertex_missing v [] _ p e i h

-- ---- listings: n is what `vertex_count` returned, x what `list_marked` answered and left

module _ (ws ss : List ℕ) (f : Formed limit ws) (n : ℕ) (q : n ≡ vertex_count ws) (marks : List Bool) (out : List ℕ) (x : Result)
    (e : x ≡ listed (marked marks (live_vertices (read limit ws))) out) where
  within : (k : ℕ) → k < length (live_vertices (read limit ws)) → k < n
  within k h = omega (arith, live-length limit ws)

  -- the marks are of the records whose vertex passes a test
  where-listed : (p r : ℕ → Bool) → MarkedWhere p n marks
      → ((k : ℕ) → k < length (live_vertices (read limit ws)) → p k ≡ r (get_or (live_vertices (read limit ws)) k 0))
      → x ≡ listed (filter r (live_vertices (read limit ws))) out
  where-listed p r w h =
      e ∙ ap (λ (xs : List ℕ). listed xs out) (marked-filter r marks (live_vertices (read limit ws)) (λ k l. w.each k (within k l) ∙ h k l))

  pub state-listed : (state : ℕ) → MarkedWhere (record_in ss state) n marks → x ≡ list_result state ss out (read limit ws)
  unfolding list_result vertices_in record_in
  state-listed state w =
      where-listed (record_in ss state) (in_state (read limit ws) ss state) w
      (λ k h. sym (in-state-at (read limit ws) ss k (live-ascends limit ws f) h state))

  -- m is the matrix of the steps, held what `mark_held` returned
  module _ (m : List ℕ) (steps : Holds (steps_between (read limit ws)) (vertex_count ws) m) (held : List Bool) (hs : Held (matrix m) ss n held) where
    holds_at : (k : ℕ) → k < length (live_vertices (read limit ws)) → (u : ℕ) → u < length (live_vertices (read limit ws))
        → holds_record (matrix m) ss k u ≡ holds (read limit ws) ss (get_or (live_vertices (read limit ws)) k 0) (get_or (live_vertices (read limit ws)) u 0)
    unfolding holds_record holds
    holds_at k hk u hu =
        ap₂ (λ (a b : Bool). a and not b)
        (holds-matrix steps f.shape.vertices-le u k (rw live-length at hu) (rw live-length at hk))
        (sym (in-state-at (read limit ws) ss u (live-ascends limit ws f) hu released))

    held_at : (k : ℕ) → k < length (live_vertices (read limit ws))
        → is_marked held k ≡ any (holds (read limit ws) ss (get_or (live_vertices (read limit ws)) k 0)) (live_vertices (read limit ws))
    held_at k h =
        hs.each k (omega (arith, live-length limit ws, f.shape.vertices-le))
        ∙ ap (λ (i : ℕ). any (holds_record (matrix m) ss k) (up_to i)) (q ∙ sym (live-length limit ws))
        ∙ any_same (holds_record (matrix m) ss k) (holds (read limit ws) ss (get_or (live_vertices (read limit ws)) k 0)) (λ (i : ℕ). i) (word_at (live_vertices (read limit ws)))
        (length (live_vertices (read limit ws))) (λ u hu. holds_at k h u hu)
        ∙ ap (any (holds (read limit ws) ss (get_or (live_vertices (read limit ws)) k 0))) (tab-getD (live_vertices (read limit ws)) 0)

    pub releasable-listed : MarkedWhere (record_free ss held) n marks → x ≡ releasable_result ss out (read limit ws)
    unfolding releasable_result releasable record_free is_releasable
    releasable-listed w =
        where-listed (record_free ss held) (is_releasable (read limit ws) ss) w
        (λ k h. ap₂ (λ (a b : Bool). a and not b) (sym (in-state-at (read limit ws) ss k (live-ascends limit ws f) h reviewed)) (held_at k h))
