-- What any list of removals keeps to, over the calls. Assumes nothing.
use Rattle.std.specs.Prelude.{Ok}
use mathlib.Core.Path.{◌≡◌, sym, ap, ◌∙◌}
use mathlib.Core.Bool.{true}
use mathlib.Core.List.{List, []}
use Prim.Native.Nat.{ℕ, ◌≤◌}
use native.Mathlib.Nat.{le_trans}
use native.Mathlib.Omega.{arith}
use lib.ListN.{length}
use Rattle.lists.specs.Lists.{filter}
use Rattle.lists.proofs.Cases.{on, on_below}
use Rattle.lists.proofs.Kept.{filter-length}
use Rattle.lists.proofs.Maps.{map-length}
use Rattle.walks.specs.Walks.{Reach}
use Rattle.layout.specs.Content.{Vertex, Table, vertex_number, live_vertices, is_live}
use Rattle.layout.specs.Layout.{limit, read}
use Rattle.layout.specs.WellFormed.{well_formed}
use Rattle.layout.specs.Steps.{StepIn}
use Rattle.layout.specs.Answers.{Result, result_of, on_live}
use Rattle.layout.proofs.Read.{formed-of}
use Rattle.layout.proofs.Answers.{formed-result}
use Rattle.traversal.specs.Traversal.{reachable, reachable_result}
use Rattle.traversal.proofs.Walks.{reachable-walk, walk-reachable}
use Rattle.structural.specs.Components.{live_count}
use Rattle.structural.specs.Sort.{ClosedIn}
use Rattle.removals.specs.Removals.{Removal, remove_all, kept_vertex, withdrawn}
use Rattle.removals.proofs.Theorems.{removals-formed, removals-content, removals-words, removals-permute, removals-reach, removals-closed, vertex-was-live}
use Rattle.demands.specs.Sort.{sort_call, Sorts}
use Rattle.demands.specs.Removals.{AnswersYes, Withdraws}
use Rattle.demands.proofs.Sort.{nine-or-smallest}

-- ---- is_reachable

-- both are live, and the one is reached from the other
record Reached (t : Table) (x y : ℕ) : Type 0 where
  from-live : is_live (live_vertices t) x ≡ true
  to-live : is_live (live_vertices t) y ≡ true
  walk : Reach (StepIn t) x y

module _ (ws : List ℕ) (formed : well_formed limit ws ≡ true) (x y : ℕ) where
  yes-reached : AnswersYes ws x y → Reached (read limit ws) x y
  unfolding reachable_result on_live
  yes-reached e =
      let t : Table = read limit ws in
      let r : reachable_result x y t ≡ result_of (Ok 1) [] = sym (formed-result ws [] (reachable_result x y) formed) ∙ e in
      on (is_live (live_vertices t) x)
      (λ l. on (is_live (live_vertices t) y)
      (λ m. on (reachable t x y)
      (λ h. record { from-live = l; to-live = m; walk = reachable-walk (formed-of limit ws formed) x l y h })
      (λ h. absurd (let z : ◌≡◌ {A = ℕ} 0 1 = ap (λ (a : Result). a.detail) (rw (l, m, h) at r) in omega arith)))
      (λ m. absurd (let z : ◌≡◌ {A = ℕ} 3 0 = ap (λ (a : Result). a.number) (rw (l, m) at r) in omega arith)))
      (λ l. absurd (let z : ◌≡◌ {A = ℕ} 3 0 = ap (λ (a : Result). a.number) (rw l at r) in omega arith))

  reached-yes : Reached (read limit ws) x y → AnswersYes ws x y
  unfolding reachable_result on_live
  reached-yes h =
      formed-result ws [] (reachable_result x y) formed
      ∙ rw (h.from-live, h.to-live, walk-reachable (formed-of limit ws formed) x h.from-live y h.walk)

-- ---- what the removals leave

fewer-left : (rs : List Removal) (t : Table) → live_count (withdrawn rs t) ≤ live_count t
unfolding withdrawn
fewer-left rs t =
    let left : List Vertex = filter (kept_vertex rs) t.vertices in
    omega (arith, map-length vertex_number left, map-length vertex_number t.vertices, filter-length (kept_vertex rs) t.vertices)

module _ (rs : List Removal) (ws : List ℕ) (formed : well_formed limit ws ≡ true) where
  was-reached : (x y : ℕ) → Reached (read limit (remove_all rs ws)) x y → Reached (read limit ws) x y
  was-reached x y h = record {
    from-live = vertex-was-live ws formed rs x h.from-live;
    to-live = vertex-was-live ws formed rs y h.to-live;
    walk = removals-reach ws formed rs x y h.walk;
  }

  answered-yes : (x y : ℕ) → AnswersYes (remove_all rs ws) x y → AnswersYes ws x y
  answered-yes x y e = reached-yes ws formed x y (was-reached x y (yes-reached (remove_all rs ws) (removals-formed ws formed rs) x y e))

  fewer-live : live_count (read limit (remove_all rs ws)) ≤ live_count (read limit ws)
  fewer-live = omega (arith, ap live_count (removals-content ws formed rs), fewer-left rs (read limit ws))

  -- ---- the sort, where it answered 0

  module _ (lent : List ℕ) (sorted : (sort_call ws lent).number ≡ 0) where
    before : Sorts (read limit ws) lent (sort_call ws lent)
    before = nine-or-smallest ws lent formed

    was-open : ClosedIn (read limit ws) → ⊥
    was-open c = let z : ◌≡◌ {A = ℕ} 9 0 = ap (λ (r : Result). r.number) (sym (before.refused c)) ∙ sorted in omega arith

    had-room : live_count (read limit ws) ≤ length lent
    had-room = on_below (length lent) (live_count (read limit ws))
        (λ short. absurd (let z : ◌≡◌ {A = ℕ} 11 0 = ap (λ (r : Result). r.number) (sym (before.no_room was-open short)) ∙ sorted in omega arith))
        (λ room. room)

    after : Sorts (read limit (remove_all rs ws)) lent (sort_call (remove_all rs ws) lent)
    after = nine-or-smallest (remove_all rs ws) lent (removals-formed ws formed rs)

    sorted-still : (sort_call (remove_all rs ws) lent).number ≡ 0
    sorted-still = ap (λ (r : Result). r.number) (after.otherwise (λ c. was-open (removals-closed ws formed rs c)) (le_trans fewer-live had-room)).2

-- of any list of removals, repeats and unknown numbers included
pub removals-withdraw : (rs : List Removal) (ws : List ℕ) → well_formed limit ws ≡ true → Withdraws rs ws
removals-withdraw rs ws formed = record {
  formed = removals-formed ws formed rs;
  any_order = λ ss p. sym (removals-permute ws formed p);
  words_are = removals-words ws formed rs;
  reaches = removals-reach ws formed rs;
  answers-yes = answered-yes rs ws formed;
  still-sorts = sorted-still rs ws formed;
}
