-- The closed walk that is named is one of the table's steps, and one is named exactly where the sort meets 9. Assumes nothing.
use mathlib.Core.Path.{◌≡◌, refl, sym, ap, ◌∙◌, subst}
use mathlib.Core.Bool.{Bool}
use mathlib.Core.List.{List, [], ◌∷◌, map}
use Prim.Native.Nat.{ℕ, zero, suc, ◌-◌, ◌≤◌, ◌<◌}
use native.Mathlib.Nat.{not-suc-le-zero, le_of_suc-le-suc}
use native.Mathlib.Omega.{arith}
use lib.ListN.{length, get_or, take}
use Rattle.lists.specs.Inner.{Below}
use Rattle.lists.proofs.Cases.{on_same, not_none}
use Rattle.lists.proofs.Count.{pigeon}
use Rattle.lists.proofs.Maps.{map-length}
use Rattle.lists.proofs.Memb.{below-memb}
use Rattle.walks.specs.Walks.{Closed}
use Rattle.layout.specs.Layout.{limit, vertex_limit, vertex_count, read}
use Rattle.layout.specs.Inner.{Formed}
use Rattle.layout.specs.Steps.{has_step}
use Rattle.layout.specs.Answers.{Result, listed}
use Rattle.layout.proofs.Read.{live-length}
use Rattle.graph.specs.Reach.{matrix, Edge}
use Rattle.steps.specs.Matrices.{number_of, steps_between}
use Rattle.steps.specs.Inner.{Holds}
use Rattle.steps.specs.Ordered.{Ordered}
use Rattle.steps.proofs.Among.{steps-among}
use Rattle.steps.proofs.Holds.{holds-matrix}
use Rattle.steps.proofs.Records.{record-once, record_of_lem, reach-records}
use Rattle.traversal.proofs.Mapped.{distinct-map}
use Rattle.structural.specs.Sort.{ClosedIn, sort_result}
use Rattle.structural.proofs.Sorting.{closed-answers, nine-closed}
use Rattle.rings.specs.Rings.{Ring}
use Rattle.rings.specs.Search.{ring_of}
use Rattle.rings.specs.State.{Stands}
use Rattle.rings.proofs.Found.{ring-closed, ring-is, ring-found, ring-ext}
use Rattle.closed_walk.specs.Named.{RingIn, closed_walk, closed_walk_result}

map_at : (f : ℕ → ℕ) (l : List ℕ) (i : ℕ) → i < length l → get_or (map f l) i 0 ≡ f (get_or l i 0)
map_at f [] i h = absurd (not-suc-le-zero h)
map_at f (x ∷ l) zero h = refl
map_at f (x ∷ l) (suc i) h = map_at f l i (le_of_suc-le-suc h)

below_each : (n : ℕ) (l : List ℕ) → ((i : ℕ) → i < length l → get_or l i 0 < n) → Below n l
below_each n [] h = tt
below_each n (x ∷ l) h = (h 0 (omega arith), below_each n l (λ i b. h (suc i) (omega arith)))

-- ---- rings of the numbers below n

module _ (E : ℕ → ℕ → Bool) (n : ℕ) where
  ring-below : {w : List ℕ} → Ring (Edge E n) w → Below n w
  ring-below {w} r =
      below_each n w
      (λ i h. on_same i (length w - 1)
      (λ e. subst (λ (k : ℕ). get_or w k 0 < n) (sym e) r.back.0)
      (λ ne. (r.steps i (omega arith)).0))

  -- of what is found
  found_below : Below n (ring_of E n)
  found_below =
      on_same (length (ring_of E n)) 0
      (λ e. below_each n (ring_of E n) (λ i h. absurd (not-suc-le-zero (subst (λ (k : ℕ). i < k) e h))))
      (λ ne. ring-below (ring-is E n (not_none (length (ring_of E n)) ne)))

  found-short : length (ring_of E n) ≤ n
  found-short =
      on_same (length (ring_of E n)) 0
      (λ e. omega arith)
      (λ ne. let r = ring-is E n (not_none (length (ring_of E n)) ne) in pigeon (ring_of E n) n r.once (ring-below r))

-- ---- the records: n is what `vertex_count` found, m what `step_matrix` made, c what `find_ring` counted

pub walk-ordered : {ws : List ℕ} → Formed limit ws → {m : List ℕ} → Holds (steps_between (read limit ws)) (vertex_count ws) m → (n : ℕ) → n ≡ vertex_count ws
    → (order : List ℕ) (c : ℕ) → Stands (ring_of (matrix m) n) order c → Ordered (vertex_count ws) c order (ring_of (steps_between (read limit ws)) (vertex_count ws))
walk-ordered {ws} f {m} w n e order c s =
    let E : ℕ → ℕ → Bool = steps_between (read limit ws) in
    let k : ℕ = vertex_count ws in
    let same : ring_of (matrix m) n ≡ ring_of E k = rw e (ring-ext (matrix m) E k (holds-matrix w f.shape.vertices-le)) in
    let count : c ≡ length (ring_of E k) = s.count ∙ ap length same in
    record { first = s.first ∙ same; count = count; short = omega (arith, found-short E k); below = found_below E k }

-- r is what `list_records` gives
pub walk-listed : (ws : List ℕ) (c : ℕ) (order : List ℕ) → Ordered (vertex_count ws) c order (ring_of (steps_between (read limit ws)) (vertex_count ws))
    → (r : Result) (lent : List ℕ) → r ≡ listed (map (number_of (read limit ws)) (take c order)) lent → r ≡ closed_walk_result lent (read limit ws)
unfolding closed_walk_result closed_walk
walk-listed ws c order o r lent e = e ∙ rw (o.first, live-length limit ws)

-- ---- the theorems

module _ {ws : List ℕ} (f : Formed limit ws) where
  abbrev t-steps : ℕ → ℕ → Bool
  t-steps = steps_between (read limit ws)

  by_number_lem : closed_walk (read limit ws) ≡ map (number_of (read limit ws)) (ring_of t-steps (vertex_count ws))
  unfolding closed_walk
  by_number_lem = rw live-length

  same_length : length (closed_walk (read limit ws)) ≡ length (ring_of t-steps (vertex_count ws))
  same_length = ap length by_number_lem ∙ map-length (number_of (read limit ws)) (ring_of t-steps (vertex_count ws))

  -- a ring of the records is one of their numbers
  ring-numbers : {w : List ℕ} → Ring (Edge t-steps (vertex_count ws)) w → RingIn (read limit ws) (map (number_of (read limit ws)) w)
  ring-numbers {w} r =
      let g : ℕ → ℕ = number_of (read limit ws) in
      let len : length (map g w) ≡ length w = map-length g w in
      let b : (x : ℕ) → _ = below-memb (vertex_count ws) w (ring-below t-steps (vertex_count ws) r) in
      record {
        some = omega (arith, r.some);
        once = distinct-map g w (λ x y hx hy e. record-once f x y (b x hx) (b y hy) e) r.once;
        steps = λ i h. rw (map_at g w i (omega arith), map_at g w (suc i) (omega arith)) (r.steps i (omega arith)).2;
        back = rw (len, map_at g w (length w - 1) (omega (arith, r.some)), map_at g w 0 r.some) r.back.2;
      }

  -- what is named is a closed walk of the table, each vertex once
  pub named-ring : 0 < length (closed_walk (read limit ws)) → RingIn (read limit ws) (closed_walk (read limit ws))
  named-ring h =
      subst (RingIn (read limit ws)) (sym by_number_lem) (ring-numbers (ring-is t-steps (vertex_count ws) (omega (arith, same_length))))

  -- where one is named the sort meets 9
  pub named-nine : 0 < length (closed_walk (read limit ws)) → (lent : List ℕ) → (sort_result lent (read limit ws)).number ≡ 9
  named-nine h lent = ap (λ (r : Result). r.number) (closed-answers f lent (ring-closed (named-ring h))).0

  -- a closed walk of numbers is one of their records
  closed-records : ClosedIn (read limit ws) → Closed (Edge t-steps (vertex_count ws))
  closed-records c =
      let am = steps-among (read limit ws) f.content in
      let a = record_of_lem ws c.from (am c.last c.from c.back).1 in
      let b = record_of_lem ws c.last (am c.last c.from c.back).0 in
      record {
        from = a.0;
        last = b.0;
        walk = reach-records f (has_step (read limit ws)) am t-steps (λ i j _ _. refl) a.0 b.0 a.1 b.1 (rw (a.2, b.2) c.walk);
        back = (b.1, a.1, rw (a.2, b.2) c.back);
      }

  -- where the sort meets 9 one is named
  pub nine-named : (lent : List ℕ) → (sort_result lent (read limit ws)).number ≡ 9 → 0 < length (closed_walk (read limit ws))
  nine-named lent e = omega (arith, same_length, ring-found t-steps (vertex_count ws) (closed-records (nine-closed f lent e)))

  -- 256 words have room for it
  pub named-fits : length (closed_walk (read limit ws)) ≤ vertex_limit
  named-fits = omega (arith, same_length, found-short t-steps (vertex_count ws), f.shape.vertices-le)
