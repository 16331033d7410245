-- What the code finds of components, and what it answers. Assumes nothing.
use Rattle.std.specs.Prelude.{Ok}
use mathlib.Core.Path.{◌≡◌, refl, sym, ap, ◌∙◌}
use mathlib.Core.Bool.{Bool, true, or_comm}
use mathlib.Core.List.{List, [], map}
use Prim.Native.Nat.{ℕ, ◌+◌, ◌≤◌, ◌<◌}
use native.Mathlib.Omega.{arith}
use lib.ListN.{get_or}
use borrow.Author.Tests.{eq-eqb, ne_eqb}
use Rattle.lists.specs.Tests.{bit, every}
use Rattle.lists.specs.Lists.{memb, flat, counted, up_to}
use Rattle.lists.proofs.Every.{every-ext, every-on, every-no, every-end}
use Rattle.layout.specs.Layout.{limit, vertex_count, read}
use Rattle.layout.specs.Inner.{Formed}
use Rattle.layout.specs.Answers.{Result, result_of, listed}
use Rattle.layout.specs.Steps.{has_step}
use Rattle.layout.proofs.Read.{live-length}
use Rattle.graph.specs.Reach.{matrix, Symmetric}
use Rattle.graph.specs.Bfs.{bfs}
use Rattle.graph.specs.Held.{Marks}
use Rattle.steps.specs.Matrices.{undirected, number_of, steps_between, undirected_between}
use Rattle.steps.specs.Inner.{turned_between, Holds}
use Rattle.steps.proofs.Holds.{holds-matrix}
use Rattle.traversal.proofs.Ext.{bfs-ext}
use Rattle.components.specs.Classes.{reached, classes}
use Rattle.components.specs.Parts.{flagged, Partition, part_words}
use Rattle.components.proofs.Roots.{classes-ext}
use Rattle.components.proofs.Linked.{upto-below}
use Rattle.components.proofs.Parts.{flags-reached}
use Rattle.components.proofs.Blocks.{partition-words}
use Rattle.strong.specs.Strong.{mutually_reached, latest_first, strong}
use Rattle.strong.specs.State.{Turned}
use Rattle.strong.proofs.Ext.{strong-ext}
use Rattle.structural.specs.Components.{connected, connected_components, strong_components, connected_result, connected_components_result, strong_components_result}

-- ---- the loop that looks at every mark

pub marked-none : (marks : List ℕ) → every (flagged marks) 0 ≡ true
unfolding every
marked-none marks = refl

module _ (marks : List ℕ) (v : ℕ) where
  pub marked-no : (n : ℕ) → v < n → (get_or marks v 0 ≡ 1 → ⊥) → ◌≡◌ {A = ℕ} 0 (bit (every (flagged marks) n))
  marked-no n l e = ap bit (every-no (flagged marks) n v (flagged marks v) refl l (rw (ne_eqb (get_or marks v 0) 1 e)))

  pub marked-on : every (flagged marks) v ≡ true → get_or marks v 0 ≡ 1 → every (flagged marks) (v + 1) ≡ true
  marked-on h e = every-on (flagged marks) v v (flagged marks v) refl h (rw (eq-eqb (get_or marks v 0) 1 e))

  pub marked-end : (n : ℕ) → every (flagged marks) v ≡ true → v ≤ n → n ≤ v → ◌≡◌ {A = ℕ} 1 (bit (every (flagged marks) n))
  marked-end n h a b = ap bit (every-end (flagged marks) n v h a b)

-- ---- records: n is what `vertex_count` found, m and back what the matrices' functions made

module _ {ws : List ℕ} (f : Formed limit ws) where
  pub link-symmetric : {m : List ℕ} → Holds (undirected_between (read limit ws)) (vertex_count ws) m → (n : ℕ) → n ≡ vertex_count ws → Symmetric (matrix m) n
  unfolding undirected
  link-symmetric {m} w n e i j li lj =
      let t = read limit ws in
      let hi : i < vertex_count ws = rw e at li in
      let hj : j < vertex_count ws = rw e at lj in
      holds-matrix w f.shape.vertices-le i j hi hj ∙ or_comm (has_step t (number_of t i) (number_of t j)) (has_step t (number_of t j) (number_of t i)) ∙ sym (holds-matrix w f.shape.vertices-le j i hj hi)

  pub turned-back : {m back : List ℕ} → Holds (steps_between (read limit ws)) (vertex_count ws) m → Holds (turned_between (read limit ws)) (vertex_count ws) back → (n : ℕ) → n ≡ vertex_count ws
      → Turned (matrix m) (matrix back) n
  turned-back v w n e i j li lj =
      let hi : i < vertex_count ws = rw e at li in
      let hj : j < vertex_count ws = rw e at lj in
      holds-matrix w f.shape.vertices-le i j hi hj ∙ sym (holds-matrix v f.shape.vertices-le j i hj hi)

  -- what is reached in a matrix is what is reached along the relation that it holds
  pub reached-ext : (E : ℕ → ℕ → Bool) {m : List ℕ} → Holds E (vertex_count ws) m → (x y : ℕ) → x < vertex_count ws → reached (matrix m) (vertex_count ws) x y ≡ reached E (vertex_count ws) x y
  reached-ext E {m} w x y l = ap (memb y) (bfs-ext (matrix m) E (vertex_count ws) (holds-matrix w f.shape.vertices-le) x l)

  -- ---- connected or not: marks is what `marks_from` made, r what `all_marked` found

  pub connected-none : (n : ℕ) → n ≡ vertex_count ws → n ≡ 0 → result_of (Ok 1) [] ≡ connected_result (read limit ws)
  unfolding connected_result connected every
  connected-none n e z = rw (live-length limit ws, ← e, z)

  pub connected-all : {m : List ℕ} → Holds (undirected_between (read limit ws)) (vertex_count ws) m → (n : ℕ) → n ≡ vertex_count ws → (n ≡ 0 → ⊥) → (marks : List ℕ) → Marks n marks (bfs (matrix m) n 0)
      → (r : ℕ) → r ≡ bit (every (flagged marks) n) → result_of (Ok r) [] ≡ connected_result (read limit ws)
  unfolding connected_result connected
  connected-all {m} w n e z marks h r q =
      let E : ℕ → ℕ → Bool = undirected_between (read limit ws) in
      let k : Marks (vertex_count ws) marks (bfs (matrix m) (vertex_count ws) 0) = rw e at h in
      let same : every (flagged marks) (vertex_count ws) ≡ every (reached E (vertex_count ws) 0) (vertex_count ws) =
      every-ext (flagged marks) (reached E (vertex_count ws) 0) (vertex_count ws) (λ v l. flags-reached (matrix m) (vertex_count ws) 0 marks k v l ∙ reached-ext E w 0 v (omega arith)) in
      rw (q, e, live-length limit ws) (ap (λ (b : Bool). result_of (Ok (bit b)) []) same)

  -- ---- components: r is what `list_classes` gives

  pub linked-listed : {m : List ℕ} → Holds (undirected_between (read limit ws)) (vertex_count ws) m → (n : ℕ) → n ≡ vertex_count ws → (ids : List ℕ) (c : ℕ) → Partition (reached (matrix m) n) n (up_to n) ids c
      → (lent : List ℕ) (r : Result) → r ≡ listed (part_words (number_of (read limit ws)) ids n c) lent → r ≡ connected_components_result lent (read limit ws)
  unfolding connected_components_result connected_components
  linked-listed {m} w n e ids c h lent r q =
      let N : ℕ = vertex_count ws in
      let E : ℕ → ℕ → Bool = undirected_between (read limit ws) in
      let g : Partition (reached (matrix m) N) N (up_to N) ids c = rw e at h in
      let same : classes (reached (matrix m) N) N (up_to N) ≡ classes (reached E N) N (up_to N) =
      classes-ext (reached (matrix m) N) (reached E N) N (λ x y l _. reached-ext E w x y l) (up_to N) (upto-below N) in
      q ∙ rw (e, live-length limit ws) (ap (λ (x : List ℕ). listed x lent) (partition-words (number_of (read limit ws)) g ∙ ap (λ (x : List (List ℕ)). flat counted (map (map (number_of (read limit ws))) x)) same))

  pub strong-listed : {m : List ℕ} → Holds (steps_between (read limit ws)) (vertex_count ws) m → (n : ℕ) → n ≡ vertex_count ws → (ids : List ℕ) (c : ℕ) → Partition (mutually_reached (matrix m) n) n (latest_first (matrix m) n) ids c
      → (lent : List ℕ) (r : Result) → r ≡ listed (part_words (number_of (read limit ws)) ids n c) lent → r ≡ strong_components_result lent (read limit ws)
  unfolding strong_components_result strong_components
  strong-listed {m} w n e ids c h lent r q =
      let N : ℕ = vertex_count ws in
      let E : ℕ → ℕ → Bool = steps_between (read limit ws) in
      let g : Partition (mutually_reached (matrix m) N) N (latest_first (matrix m) N) ids c = rw e at h in
      let same : strong (matrix m) N ≡ strong E N = strong-ext (matrix m) E N (holds-matrix w f.shape.vertices-le) f.shape.vertices-le (λ x y l _. reached-ext E w x y l) in
      q ∙ rw (e, live-length limit ws) (ap (λ (x : List ℕ). listed x lent) (partition-words (number_of (read limit ws)) g ∙ ap (λ (x : List (List ℕ)). flat counted (map (map (number_of (read limit ws))) x)) same))
