-- The best walk between records is the best walk between their numbers; what the searches leave is the computed walk and its cost. Assumes nothing.
use mathlib.Core.Path.{◌≡◌, refl, sym, ap, ap₂, ◌∙◌, subst}
use mathlib.Core.Bool.{Bool, true, false, not}
use mathlib.Core.Logic.{◌⊎◌, inl, inr, ⊎_elim}
use mathlib.Core.List.{List, [], ◌∷◌, ◌++◌, map}
use mathlib.Core.Option.{none, some}
use Prim.Native.Nat.{ℕ, suc, ◌+◌, ◌*◌, ◌/◌, ◌≤◌, ◌<◌}
use native.Mathlib.Omega.{arith}
use lib.Dec.{eqb}
use lib.ListN.{length, get_or, take}
use borrow.Author.Tests.{eq-eqb, ne_eqb, not-true, not-false}
use Rattle.lists.specs.Lists.{memb, word_at}
use Rattle.lists.specs.Inner.{Below}
use Rattle.lists.proofs.Cases.{on_same}
use Rattle.lists.proofs.Maps.{map-length}
use Rattle.lists.proofs.Memb.{memb-getD}
use Rattle.layout.specs.Content.{Table, live_vertices}
use Rattle.layout.specs.Layout.{limit, vertex_count, hyperedge_count, read}
use Rattle.layout.specs.Inner.{Formed}
use Rattle.layout.specs.Steps.{has_step, StepIn}
use Rattle.layout.proofs.Read.{live-length}
use Rattle.graph.specs.Reach.{Edge}
use Rattle.order.specs.Sort.{LexLe}
use Rattle.distance.specs.Best.{Walk, total, Ahead, Best}
use Rattle.distance.specs.Labels.{Shortest}
use Rattle.distance.specs.Cost.{choice_in, step_in, cost_in, key_in, step_back, cost_back}
use Rattle.distance.specs.Descent.{Pair}
use Rattle.distance.proofs.Best.{best-found, best-sound, best-computed, best-short, none-computed}
use Rattle.distance.proofs.Ways.{cost-walk, cost-under}
use Rattle.steps.specs.Matrices.{number_of}
use Rattle.steps.proofs.Among.{steps-among}
use Rattle.steps.proofs.Records.{numbers-rise, record-once, record_of_lem}
use Rattle.paths.specs.Paths.{weight_by, choice, step_cost, best_path, path_words, cost_words, cost_to}
use Rattle.paths.specs.Choices.{Weights, Chosen}
use Rattle.paths.specs.Written.{Laid, pair_between, no_path, path_head, step_words, key_words}
use Rattle.paths.proofs.Values.{value-at, weights-are}
use Rattle.paths.proofs.Lightest.{choice-step}

-- ---- walks between records, E and W as the matrix has them, and between their numbers

module _ {ws : List ℕ} (f : Formed limit ws) (E : ℕ → ℕ → Bool) (W : ℕ → ℕ → ℕ)
    (ae : (i j : ℕ) → i < vertex_count ws → j < vertex_count ws → E i j ≡ has_step (read limit ws) (number_of (read limit ws) i) (number_of (read limit ws) j))
    (aw : (i j : ℕ) → i < vertex_count ws → j < vertex_count ws → W i j ≡ step_cost (read limit ws) (number_of (read limit ws) i) (number_of (read limit ws) j)) where
  abbrev num : ℕ → ℕ
  num i = number_of (read limit ws) i

  abbrev Walks : ℕ → List ℕ → ℕ → Type 0
  Walks i l j = Walk (Edge E (vertex_count ws)) i l j

  walk-numbers : (i : ℕ) (l : List ℕ) (j : ℕ) → Walks i l j → Walk (StepIn (read limit ws)) (num i) (map num l) (num j)
  walk-numbers i [] j w = ap num w
  walk-numbers i (v ∷ l) j w = (sym (ae i v w.0.0 w.0.1) ∙ w.0.2, walk-numbers v l j w.1)

  total-numbers : (i : ℕ) (l : List ℕ) (j : ℕ) → Walks i l j → total W i l ≡ total (step_cost (read limit ws)) (num i) (map num l)
  total-numbers i [] j w = refl
  total-numbers i (v ∷ l) j w = ap₂ ◌+◌ (aw i v w.0.0 w.0.1) (total-numbers v l j w.1)

  walk-records : (i : ℕ) → i < vertex_count ws → (k : List ℕ) (j : ℕ) → j < vertex_count ws → Walk (StepIn (read limit ws)) (num i) k (num j)
      → (l : List ℕ) × (Walks i l j) × (map num l ≡ k)
  walk-records i hi [] j hj w = ([], record-once f i j hi hj w, refl)
  walk-records i hi (v ∷ k) j hj w =
      let r = record_of_lem ws v (steps-among (read limit ws) f.content (num i) v w.0).1 in
      let s = walk-records r.0 r.1 k j hj (subst (λ (z : ℕ). Walk (StepIn (read limit ws)) z k (num j)) (sym r.2) w.1) in
      (r.0 ∷ s.0, ((hi, r.1, ae i r.0 hi r.1 ∙ ap (has_step (read limit ws) (num i)) r.2 ∙ w.0), s.1), ap₂ ◌∷◌ r.2 s.2)

  pub walk-below : (i : ℕ) (l : List ℕ) (j : ℕ) → Walks i l j → Below (vertex_count ws) l
  walk-below i [] j w = tt
  walk-below i (v ∷ l) j w = (w.0.1, walk-below v l j w.1)

  -- ascending records have ascending numbers
  lex-numbers : (l k : List ℕ) → Below (vertex_count ws) l → Below (vertex_count ws) k → LexLe l k → LexLe (map num l) (map num k)
  lex-numbers [] k bl bk h = tt
  lex-numbers (x ∷ l) [] bl bk h = absurd h
  lex-numbers (x ∷ l) (y ∷ k) bl bk h =
      ⊎_elim
      (λ (p : x < y). inl (numbers-rise f x y p bk.0))
      (λ (p : (x ≡ y) × LexLe l k). inr (ap num p.0, lex-numbers l k bl.1 bk.1 p.1))
      h

  ahead-numbers : (i j : ℕ) (l k : List ℕ) → Walks i l j → Walks i k j → Ahead W i l k → Ahead (step_cost (read limit ws)) (num i) (map num l) (map num k)
  ahead-numbers i j l k wl wk a =
      let tl : total W i l ≡ total (step_cost (read limit ws)) (num i) (map num l) = total-numbers i l j wl in
      let tk : total W i k ≡ total (step_cost (read limit ws)) (num i) (map num k) = total-numbers i k j wk in
      let nl : length (map num l) ≡ length l = map-length num l in
      let nk : length (map num k) ≡ length k = map-length num k in
      ⊎_elim
      (λ (p : total W i l < total W i k). inl (omega arith))
      (λ (p : (total W i l ≡ total W i k) × ((length l < length k) ⊎ ((length l ≡ length k) × LexLe l k))). inr (
        sym tl ∙ p.0 ∙ tk,
        ⊎_elim
            (λ (q : length l < length k). inl (omega arith))
            (λ (q : (length l ≡ length k) × LexLe l k). inr (nl ∙ q.0 ∙ sym nk, lex-numbers l k (walk-below i l j wl) (walk-below i k j wk) q.1))
            p.1,
      ))
      a

  pub best-numbers : (i j : ℕ) → i < vertex_count ws → j < vertex_count ws → (l : List ℕ) → Best (Edge E (vertex_count ws)) W i j l
      → Best (StepIn (read limit ws)) (step_cost (read limit ws)) (num i) (num j) (map num l)
  best-numbers i j hi hj l b = record {
    walk = walk-numbers i l j b.walk;
    first = λ k w.
        let r = walk-records i hi k j hj w in
        subst (λ (z : List ℕ). Ahead (step_cost (read limit ws)) (num i) (map num l) z) r.2 (ahead-numbers i j l r.0 b.walk r.1 (b.first r.0 r.1));
  }

  -- ---- the computed walk

  live : (i : ℕ) → i < vertex_count ws → memb (num i) (live_vertices (read limit ws)) ≡ true
  live i h = memb-getD (live_vertices (read limit ws)) i (rw (live-length limit ws) h)

  into : (u v : ℕ) → has_step (read limit ws) u v ≡ true → memb v (live_vertices (read limit ws)) ≡ true
  into u v e = (steps-among (read limit ws) f.content u v e).1

  module _ (i j : ℕ) (hi : i < vertex_count ws) (hj : j < vertex_count ws) where
    pub path-some : (l : List ℕ) → Best (Edge E (vertex_count ws)) W i j l → best_path (read limit ws) (num i) (num j) ≡ some (map num l)
    unfolding best_path
    path-some l b = best-computed (has_step (read limit ws)) (step_cost (read limit ws)) (live_vertices (read limit ws)) (num j) into (num i) (live i hi) (map num l) (best-numbers i j hi hj l b)

    pub path-none : ((k : List ℕ) → Walks i k j → ⊥) → best_path (read limit ws) (num i) (num j) ≡ none
    unfolding best_path
    path-none h =
        none-computed (has_step (read limit ws)) (step_cost (read limit ws)) (live_vertices (read limit ws)) (num j) into (num i) (live i hi)
        (λ k w. let r = walk-records i hi k j hj w in h r.0 r.1)

    -- a walk whose cost and steps, in one number, no walk is under
    pub path-cost : (key : ℕ) (k : List ℕ) → Walks i k j → key ≡ total W i k * 65536 + length k → length k ≤ 256
        → ((l : List ℕ) → Walks i l j → key ≤ total W i l * 65536 + length l)
        → (l : List ℕ) × (best_path (read limit ws) (num i) (num j) ≡ some l) × (key / 65536 ≡ total (step_cost (read limit ws)) (num i) l)
    unfolding best_path
    path-cost key k w e s under =
        let t : Table = read limit ws in
        let r = best-found (has_step t) (step_cost t) (live_vertices t) (num j) into (num i) (live i hi) (map num k) (walk-numbers i k j w) in
        let b : Best (StepIn t) (step_cost t) (num i) (num j) r.0 = best-sound (has_step t) (step_cost t) (live_vertices t) (num j) into (num i) (live i hi) r.0 r.1 in
        let short : length r.0 < length (live_vertices t) = best-short (has_step t) (step_cost t) (live_vertices t) (num j) into (num i) (live i hi) r.0 b in
        let n : length (live_vertices t) ≡ vertex_count ws = live-length limit ws in
        let q = walk-records i hi r.0 j hj b.walk in
        let tq : total W i q.0 ≡ total (step_cost t) (num i) r.0 = total-numbers i q.0 j q.1 ∙ ap (total (step_cost t) (num i)) q.2 in
        let lq : length q.0 ≡ length r.0 = sym (map-length num q.0) ∙ ap length q.2 in
        let u : key ≤ total W i q.0 * 65536 + length q.0 = under q.0 q.1 in
        let tk : total W i k ≡ total (step_cost t) (num i) (map num k) = total-numbers i k j w in
        let le : total (step_cost t) (num i) r.0 ≤ total (step_cost t) (num i) (map num k) = least r.0 (map num k) (b.first (map num k) (walk-numbers i k j w)) in
        let limit-le : vertex_count ws ≤ 256 = f.shape.vertices-le in
        (r.0, r.1, omega arith)
      where
        least : (l k : List ℕ) → Ahead (step_cost (read limit ws)) (num i) l k → total (step_cost (read limit ws)) (num i) l ≤ total (step_cost (read limit ws)) (num i) k
        least l k a =
            ⊎_elim
            (λ (p : total (step_cost (read limit ws)) (num i) l < total (step_cost (read limit ws)) (num i) k). omega arith)
            (λ (p : (total (step_cost (read limit ws)) (num i) l ≡ total (step_cost (read limit ws)) (num i) k) × ((length l < length k) ⊎ ((length l ≡ length k) × LexLe l k))). omega (arith, p.0))
            a

-- ---- what the searches leave

module _ {ws : List ℕ} (f : Formed limit ws) (w : List ℕ) (hw : Weights (read limit ws) (hyperedge_count ws) w) (c : List ℕ) where
  there : (x y k : ℕ) → k ≡ choice (read limit ws) x y → not (eqb k 0) ≡ has_step (read limit ws) x y
  there x y k e = ap (λ (z : ℕ). not (eqb z 0)) e ∙ choice-step (read limit ws) x y

  costs : (x y k : ℕ) → k ≡ choice (read limit ws) x y → word_at w k ≡ step_cost (read limit ws) x y
  unfolding step_cost
  costs x y k e = weights-are ws w hw k ∙ ap (weight_by (read limit ws)) e

  -- against the steps' direction: the pair of records i and j
  module _ (h : Chosen true ws c) where
    back-choice : (i j : ℕ) → i < vertex_count ws → j < vertex_count ws → choice_in c j i ≡ choice (read limit ws) (number_of (read limit ws) i) (number_of (read limit ws) j)
    back-choice i j hi hj = value-at h f.shape.vertices-le j i hj hi

    back-steps : (i j : ℕ) → i < vertex_count ws → j < vertex_count ws → step_back c i j ≡ has_step (read limit ws) (number_of (read limit ws) i) (number_of (read limit ws) j)
    back-steps i j hi hj = there (number_of (read limit ws) i) (number_of (read limit ws) j) (choice_in c j i) (back-choice i j hi hj)

    back-costs : (i j : ℕ) → i < vertex_count ws → j < vertex_count ws → cost_back c w i j ≡ step_cost (read limit ws) (number_of (read limit ws) i) (number_of (read limit ws) j)
    back-costs i j hi hj = costs (number_of (read limit ws) i) (number_of (read limit ws) j) (choice_in c j i) (back-choice i j hi hj)

    module _ (i j : ℕ) (hi : i < vertex_count ws) (hj : j < vertex_count ws) (n : ℕ) (en : n ≡ vertex_count ws)
        (found : Bool) (cost steps : ℕ) (o : List ℕ) (p : Pair (step_back c) (cost_back c w) n i j found cost steps o) where
      same : Pair (step_back c) (cost_back c w) (vertex_count ws) i j found cost steps o
      same = subst (λ (z : ℕ). Pair (step_back c) (cost_back c w) z i j found cost steps o) en p

      pub pair-none : not found ≡ true → pair_between (read limit ws) i j ≡ no_path
      unfolding path_words
      pair-none e =
          ap (path_words (read limit ws) (number_of (read limit ws) i))
          (path-none f (step_back c) (cost_back c w) back-steps back-costs i j hi hj (same.no (not-true found e)))

      pub pair-laid : not found ≡ false → Laid (vertex_count ws) steps o
      pair-laid e = record {
        short = same.short;
        long = same.long;
        below = walk-below f (step_back c) (cost_back c w) back-steps back-costs i (take steps o) j (same.yes (not-false found e)).0.walk;
      }

      pub pair-some : not found ≡ false
          → pair_between (read limit ws) i j ≡ path_head cost (steps + 1) (number_of (read limit ws) i) ++ step_words (read limit ws) i (take steps o)
      unfolding path_words
      pair-some e =
          let y = same.yes (not-false found e) in
          let l : List ℕ = map (number_of (read limit ws)) (take steps o) in
          let ec : cost ≡ total (step_cost (read limit ws)) (number_of (read limit ws) i) l =
          y.1 ∙ total-numbers f (step_back c) (cost_back c w) back-steps back-costs i (take steps o) j y.0.walk in
          let es : steps + 1 ≡ suc (length l) = omega (arith, y.2, map-length (number_of (read limit ws)) (take steps o)) in
          ap (path_words (read limit ws) (number_of (read limit ws) i)) (path-some f (step_back c) (cost_back c w) back-steps back-costs i j hi hj (take steps o) y.0)
          ∙ sym (ap₂ (λ (a b : ℕ). path_head a b (number_of (read limit ws) i) ++ step_words (read limit ws) i (take steps o)) ec es)

  -- as the steps lead: the costs from record i
  module _ (h : Chosen false ws c) where
    forth-choice : (i j : ℕ) → i < vertex_count ws → j < vertex_count ws → choice_in c i j ≡ choice (read limit ws) (number_of (read limit ws) i) (number_of (read limit ws) j)
    forth-choice i j hi hj = value-at h f.shape.vertices-le i j hi hj

    forth-steps : (i j : ℕ) → i < vertex_count ws → j < vertex_count ws → step_in c i j ≡ has_step (read limit ws) (number_of (read limit ws) i) (number_of (read limit ws) j)
    forth-steps i j hi hj = there (number_of (read limit ws) i) (number_of (read limit ws) j) (choice_in c i j) (forth-choice i j hi hj)

    forth-costs : (i j : ℕ) → i < vertex_count ws → j < vertex_count ws → cost_in c w i j ≡ step_cost (read limit ws) (number_of (read limit ws) i) (number_of (read limit ws) j)
    forth-costs i j hi hj = costs (number_of (read limit ws) i) (number_of (read limit ws) j) (choice_in c i j) (forth-choice i j hi hj)

    module _ (i : ℕ) (hi : i < vertex_count ws) (n : ℕ) (en : n ≡ vertex_count ws) (m d : List ℕ) (s : Shortest (step_in c) (key_in c w) n i m d) where
      left : Shortest (step_in c) (key_in c w) (vertex_count ws) i m d
      left = subst (λ (z : ℕ). Shortest (step_in c) (key_in c w) z i m d) en s

      pub cost-words : (v : ℕ) → v < vertex_count ws → cost_to (read limit ws) (number_of (read limit ws) i) (number_of (read limit ws) v) ≡ key_words (read limit ws) m d v
      unfolding cost_words key_words
      cost-words v hv =
          on_same (get_or m v 0) 2
          (λ t.
          let k = cost-walk (step_in c) (cost_in c w) (vertex_count ws) i m d left v hv t in
          let r = path-cost f (step_in c) (cost_in c w) forth-steps forth-costs i v hi hv (get_or d v 0) k.0 k.1 k.2 (omega (arith, k.3, f.shape.vertices-le))
          (λ l q. (cost-under (step_in c) (cost_in c w) (vertex_count ws) i m d left v l q).1) in
          ap (cost_words (read limit ws) (number_of (read limit ws) i) (number_of (read limit ws) v)) r.1
          ∙ rw (eq-eqb (get_or m v 0) 2 t, r.2))
          (λ t.
          ap (cost_words (read limit ws) (number_of (read limit ws) i) (number_of (read limit ws) v))
          (path-none f (step_in c) (cost_in c w) forth-steps forth-costs i v hi hv (λ l q. t (cost-under (step_in c) (cost_in c w) (vertex_count ws) i m d left v l q).0))
          ∙ rw (ne_eqb (get_or m v 0) 2 t))
