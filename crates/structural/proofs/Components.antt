-- The components that are listed are those of the definition, in its order: of co-membership, and of mutual reachability. Assumes nothing.
use mathlib.Core.Path.{◌≡◌, refl, sym, ap, ◌∙◌, subst}
use mathlib.Core.Bool.{Bool, true, or_comm}
use mathlib.Core.List.{List, map}
use Prim.Native.Nat.{ℕ, suc, ◌-◌, ◌<◌}
use native.Mathlib.Nat.{lt_irrefl}
use native.Mathlib.Omega.{arith}
use lib.ListN.{length, get_or}
use Rattle.lists.specs.Tests.{every}
use Rattle.lists.specs.Lists.{Distinct, up_to}
use Rattle.lists.proofs.Cases.{on_same, on_below}
use Rattle.lists.proofs.Every.{every-at, every_of}
use Rattle.lists.proofs.Maps.{map-length}
use Rattle.lists.proofs.Memb.{below-memb}
use Rattle.lists.proofs.Tab.{length-tab, getD-tab}
use Rattle.walks.specs.Walks.{Reach}
use Rattle.walks.proofs.Walks.{reach-trans}
use Rattle.layout.specs.Content.{live_vertices, is_live}
use Rattle.layout.specs.Layout.{limit, vertex_count, read}
use Rattle.layout.specs.Inner.{Formed}
use Rattle.layout.specs.Steps.{has_step}
use Rattle.layout.proofs.Read.{live-length}
use Rattle.graph.specs.Reach.{Symmetric}
use Rattle.graph.proofs.Bfs.{bfs-sound, bfs-complete}
use Rattle.graph.proofs.Levels.{distinct_apart}
use Rattle.steps.specs.Matrices.{undirected, number_of, steps_between, undirected_between}
use Rattle.steps.proofs.Among.{steps-among, links-among, together-swap}
use Rattle.steps.proofs.Records.{numbers-rise, record-once, record_of_lem, reach-numbers, reach-records}
use Rattle.steps.proofs.Together.{reach-swap, reach-together, reach-linked}
use Rattle.traversal.proofs.Mapped.{distinct-map}
use Rattle.depth.specs.Finish.{finished}
use Rattle.depth.proofs.Finish.{finished-once, finished-below}
use Rattle.components.specs.Classes.{reached}
use Rattle.components.proofs.Ranked.{Ranked}
use Rattle.components.proofs.Linked.{upto-below, upto-memb, reached-parts}
use Rattle.components.proofs.Members.{get_d_map}
use Rattle.components.proofs.Components.{classes-components}
use Rattle.components.proofs.Unique.{components-unique}
use Rattle.strong.specs.Strong.{latest_first}
use Rattle.strong.proofs.Shared.{shared-both, shared-forth, shared_back, shared-parts}
use Rattle.strong.proofs.Latest.{latest-length, latest-at, latest-below, latest-all}
use Rattle.structural.specs.Components.{Linked, Mutual, finish_order, FinishedAfter, ConnectedComponentsIn, StrongComponentsIn, connected, connected_components, strong_components}
use Rattle.structural.proofs.ClosureAnswers.{record-live}
use Rattle.structural.proofs.ComponentsRecords.{components-numbers}

-- ---- the two relations, by record and by number

module _ {ws : List ℕ} (f : Formed limit ws) where
  steps-there : (i j : ℕ) → i < vertex_count ws → reached (steps_between (read limit ws)) (vertex_count ws) i j ≡ true → Reach (λ x y. has_step (read limit ws) x y ≡ true) (number_of (read limit ws) i) (number_of (read limit ws) j)
  steps-there i j l e =
      reach-numbers f (has_step (read limit ws)) (steps-among (read limit ws) f.content) (steps_between (read limit ws)) (λ _ _ _ _. refl) (bfs-sound (steps_between (read limit ws)) (vertex_count ws) i l j e)

  steps_back : (i j : ℕ) → i < vertex_count ws → j < vertex_count ws → Reach (λ x y. has_step (read limit ws) x y ≡ true) (number_of (read limit ws) i) (number_of (read limit ws) j) → reached (steps_between (read limit ws)) (vertex_count ws) i j ≡ true
  steps_back i j li lj w =
      bfs-complete (steps_between (read limit ws)) (vertex_count ws) i li j
      (reach-records f (has_step (read limit ws)) (steps-among (read limit ws) f.content) (steps_between (read limit ws)) (λ _ _ _ _. refl) i j li lj w)

  links-there : (i j : ℕ) → i < vertex_count ws → reached (undirected_between (read limit ws)) (vertex_count ws) i j ≡ true → Linked (read limit ws) (number_of (read limit ws) i) (number_of (read limit ws) j)
  links-there i j l e =
      reach-together (read limit ws)
      (reach-numbers f (undirected (read limit ws)) (links-among (read limit ws) f.content) (undirected_between (read limit ws)) (λ _ _ _ _. refl) (bfs-sound (undirected_between (read limit ws)) (vertex_count ws) i l j e))

  links-back : (i j : ℕ) → i < vertex_count ws → j < vertex_count ws → Linked (read limit ws) (number_of (read limit ws) i) (number_of (read limit ws) j) → reached (undirected_between (read limit ws)) (vertex_count ws) i j ≡ true
  links-back i j li lj w =
      bfs-complete (undirected_between (read limit ws)) (vertex_count ws) i li j
      (reach-records f (undirected (read limit ws)) (links-among (read limit ws) f.content) (undirected_between (read limit ws)) (λ _ _ _ _. refl) i j li lj (reach-linked (read limit ws) w))

  links-symmetric : Symmetric (undirected_between (read limit ws)) (vertex_count ws)
  unfolding undirected
  links-symmetric i j li lj =
      let t = read limit ws in
      or_comm (has_step t (number_of t i) (number_of t j)) (has_step t (number_of t j) (number_of t i))

  -- ---- the two orders: each comes before all that follow

  records-ranked : Ranked (λ i j. number_of (read limit ws) i < number_of (read limit ws) j) (up_to (vertex_count ws))
  records-ranked i j l k =
      let n : ℕ = vertex_count ws in
      let lj : j < n = rw length-tab at k in
      rw (getD-tab (λ v. v) n i 0 (omega arith), getD-tab (λ v. v) n j 0 lj) (numbers-rise f i j l lj)

  -- the records as they are finished
  abbrev finishes : List ℕ
  finishes = finished (steps_between (read limit ws)) (vertex_count ws)

  finish-as : finish_order (read limit ws) ≡ map (number_of (read limit ws)) finishes
  finish-as = rw (live-length limit ws)

  finish-length : length (finish_order (read limit ws)) ≡ length finishes
  finish-length = ap length finish-as ∙ map-length (number_of (read limit ws)) finishes

  -- the i-th from the end
  finish-at : (i : ℕ) → i < length finishes
      → get_or (finish_order (read limit ws)) (length finishes - suc i) 0 ≡ number_of (read limit ws) (get_or (latest_first (steps_between (read limit ws)) (vertex_count ws)) i 0)
  finish-at i l =
      ap (λ (o : List ℕ). get_or o (length finishes - suc i) 0) finish-as
      ∙ get_d_map (number_of (read limit ws)) finishes (length finishes - suc i) 0 0 (omega arith)
      ∙ ap (number_of (read limit ws)) (sym (latest-at (steps_between (read limit ws)) (vertex_count ws) i l))

  latest-ranked : Ranked (λ i j. FinishedAfter (read limit ws) (number_of (read limit ws) i) (number_of (read limit ws) j)) (latest_first (steps_between (read limit ws)) (vertex_count ws))
  latest-ranked i j l k =
      let lj : j < length finishes = rw latest-length at k in
      record {
        place = length finishes - suc i;
        earlier = length finishes - suc j;
        after = omega arith;
        within = omega (arith, finish-length);
        is = finish-at i (omega arith);
        was = finish-at j lj;
      }

  -- ---- no two vertices are finished each after the other

  finish-once : Distinct (finish_order (read limit ws))
  finish-once =
      let small = f.shape.vertices-le in
      let below = below-memb (vertex_count ws) finishes (finished-below (steps_between (read limit ws)) (vertex_count ws) small) in
      subst Distinct (sym finish-as)
      (distinct-map (number_of (read limit ws)) finishes (λ x y mx my e. record-once f x y (below x mx) (below y my) e) (finished-once (steps_between (read limit ws)) (vertex_count ws) small))

  finish-place : (i j : ℕ) → i < length (finish_order (read limit ws)) → j < length (finish_order (read limit ws)) → get_or (finish_order (read limit ws)) i 0 ≡ get_or (finish_order (read limit ws)) j 0 → i ≡ j
  finish-place i j li lj e =
      on_same i j (λ s. s)
      (λ ne. absurd (on_below i j
      (λ l. distinct_apart (finish_order (read limit ws)) finish-once i j l lj e)
      (λ l. distinct_apart (finish_order (read limit ws)) finish-once j i (omega arith) li (sym e))))

  finished-one-way : (x y : ℕ) → FinishedAfter (read limit ws) x y → FinishedAfter (read limit ws) y x → ⊥
  finished-one-way x y a b =
      let s : a.place ≡ b.earlier = finish-place a.place b.earlier a.within (omega (arith, b.after, b.within)) (a.is ∙ sym b.was) in
      let r : a.earlier ≡ b.place = finish-place a.earlier b.place (omega (arith, a.after, a.within)) b.within (a.was ∙ sym b.is) in
      lt_irrefl a.place (omega (arith, a.after, b.after))

  -- ---- theorems

  -- what is listed are the connected components, ordered by smallest member
  pub connected-components : ConnectedComponentsIn (read limit ws) (connected_components (read limit ws))
  unfolding connected_components
  connected-components =
      let E : ℕ → ℕ → Bool = undirected_between (read limit ws) in
      let n : ℕ = vertex_count ws in
      let g : ℕ → ℕ = number_of (read limit ws) in
      rw (live-length limit ws)
      (components-numbers g (numbers-rise f) (record-once f) (record-live ws) (record_of_lem ws) (Linked (read limit ws)) (λ x y. x < y)
      (classes-components (reached-parts E n links-symmetric) (up_to n) (upto-below n) (upto-memb n) (λ i j. Linked (read limit ws) (g i) (g j)) (λ i j li _ e. links-there i j li e) links-back
      (λ i j. g i < g j) records-ranked))

  -- and no other listing has them in that order
  pub connected-only : (cs : List (List ℕ)) → ConnectedComponentsIn (read limit ws) cs → cs ≡ connected_components (read limit ws)
  connected-only cs c = components-unique (λ x y l k. lt_irrefl x (omega (arith, l, k))) c connected-components

  -- what is listed are the strong components, the one with the latest finished vertex first
  pub strong-components : StrongComponentsIn (read limit ws) (strong_components (read limit ws))
  unfolding strong_components
  strong-components =
      let E : ℕ → ℕ → Bool = steps_between (read limit ws) in
      let n : ℕ = vertex_count ws in
      let g : ℕ → ℕ = number_of (read limit ws) in
      rw (live-length limit ws)
      (components-numbers g (numbers-rise f) (record-once f) (record-live ws) (record_of_lem ws) (Mutual (read limit ws)) (FinishedAfter (read limit ws))
      (classes-components (shared-parts E n) (latest_first E n) (latest-below E n f.shape.vertices-le) (latest-all E n f.shape.vertices-le) (λ i j. Mutual (read limit ws) (g i) (g j))
      (λ i j li lj e. record { forth = steps-there i j li (shared-forth E n i j e); back = steps-there j i lj (shared_back E n i j e) })
      (λ i j li lj m. shared-both E n i j (steps_back i j li lj m.forth) (steps_back j i lj li m.back))
      (λ i j. FinishedAfter (read limit ws) (g i) (g j)) latest-ranked))

  pub strong-only : (cs : List (List ℕ)) → StrongComponentsIn (read limit ws) cs → cs ≡ strong_components (read limit ws)
  strong-only cs c = components-unique finished-one-way c strong-components

  -- connected: all live vertices are linked
  pub connected-linked : connected (read limit ws) ≡ true → (x y : ℕ) → is_live (live_vertices (read limit ws)) x ≡ true → is_live (live_vertices (read limit ws)) y ≡ true → Linked (read limit ws) x y
  unfolding connected
  connected-linked e x y lx ly =
      let n : ℕ = vertex_count ws in
      let i = record_of_lem ws x lx in
      let j = record_of_lem ws y ly in
      let h : every (reached (undirected_between (read limit ws)) n 0) n ≡ true = rw (live-length limit ws) at e in
      let z : 0 < n = omega (arith, i.1) in
      let a : Linked (read limit ws) (number_of (read limit ws) 0) (number_of (read limit ws) i.0) = links-there 0 i.0 z (every-at (reached (undirected_between (read limit ws)) n 0) n i.0 h i.1) in
      let b : Linked (read limit ws) (number_of (read limit ws) 0) (number_of (read limit ws) j.0) = links-there 0 j.0 z (every-at (reached (undirected_between (read limit ws)) n 0) n j.0 h j.1) in
      subst (λ (k : ℕ). Linked (read limit ws) k y) i.2 (subst (λ (k : ℕ). Linked (read limit ws) (number_of (read limit ws) i.0) k) j.2
      (reach-trans (reach-swap (together-swap (read limit ws)) a) b))

  pub linked-connected : ((x y : ℕ) → is_live (live_vertices (read limit ws)) x ≡ true → is_live (live_vertices (read limit ws)) y ≡ true → Linked (read limit ws) x y) → connected (read limit ws) ≡ true
  unfolding connected
  linked-connected h =
      let n : ℕ = vertex_count ws in
      rw (live-length limit ws)
      (every_of (reached (undirected_between (read limit ws)) n 0) n
      (λ v l. let z : 0 < n = omega arith in links-back 0 v z l (h (number_of (read limit ws) 0) (number_of (read limit ws) v) (record-live ws 0 z) (record-live ws v l))))
