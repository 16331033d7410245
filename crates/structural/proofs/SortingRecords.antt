-- An order of records is an order of their numbers, and back; the smallest order is carried along. Assumes nothing.
use mathlib.Core.Path.{◌≡◌, refl, sym, ap, ap₂, ◌∙◌, subst}
use mathlib.Core.Bool.{true}
use mathlib.Core.Logic.{inl, inr, ⊎_elim}
use mathlib.Core.List.{List, [], ◌∷◌, map}
use Prim.Native.Nat.{ℕ, zero, suc, ◌<◌}
use native.Mathlib.Nat.{not-suc-le-zero, le_of_suc-le-suc}
use lib.Dec.{eqb}
use lib.ListN.{length, get_or}
use borrow.Author.Tests.{lt-ltb, ltb-true}
use Rattle.lists.specs.Lists.{memb, is_below, Distinct}
use Rattle.lists.specs.Inner.{Below}
use Rattle.lists.proofs.Cases.{on, clash, or_right, test-ext}
use Rattle.lists.proofs.Maps.{map-length}
use Rattle.lists.proofs.Memb.{memb-self, memb-getD, below-memb}
use Rattle.layout.specs.Content.{live_vertices, is_live}
use Rattle.layout.specs.Layout.{limit, vertex_count, read}
use Rattle.layout.specs.Inner.{Formed}
use Rattle.layout.specs.Steps.{StepIn}
use Rattle.layout.proofs.Read.{live-length}
use Rattle.graph.specs.Reach.{Edge}
use Rattle.order.specs.Sort.{Forward, LexLe, Smallest}
use Rattle.steps.specs.Matrices.{number_of, steps_between}
use Rattle.steps.proofs.Records.{numbers-rise, record-once, record_of_lem}
use Rattle.traversal.proofs.Mapped.{memb-map, map-memb, distinct-map}
use Rattle.structural.specs.Sort.{SmallestIn}

-- ---- laws of mapped lists

module _ (f : ℕ → ℕ) where
  map_at : (l : List ℕ) (i : ℕ) → i < length l → get_or (map f l) i 0 ≡ f (get_or l i 0)
  map_at [] i h = absurd (not-suc-le-zero h)
  map_at (x ∷ l) zero h = refl
  map_at (x ∷ l) (suc i) h = map_at l i (le_of_suc-le-suc h)

  -- no repeat after, none before
  distinct-before : (l : List ℕ) → Distinct (map f l) → Distinct l
  distinct-before [] d = tt
  distinct-before (x ∷ l) d = (on (memb x l) (λ e. clash (memb-map f x l e) d.0) (λ e. e), distinct-before l d.1)

below_of : (n : ℕ) (l : List ℕ) → ((x : ℕ) → memb x l ≡ true → x < n) → Below n l
below_of n [] h = tt
below_of n (x ∷ l) h = (h x (memb-self x l), below_of n l (λ y e. h y (or_right (eqb y x) (memb y l) e)))

-- ---- records and their numbers

module _ {ws : List ℕ} (f : Formed limit ws) where
  -- a list of live numbers is that of its records
  records-of : (k : List ℕ) → ((x : ℕ) → memb x k ≡ true → is_live (live_vertices (read limit ws)) x ≡ true)
      → (p : List ℕ) × Below (vertex_count ws) p × (map (number_of (read limit ws)) p ≡ k)
  records-of [] h = ([], tt, refl)
  records-of (x ∷ k) h =
      let r = record_of_lem ws x (h x (memb-self x k)) in
      let q = records-of k (λ y e. h y (or_right (eqb y x) (memb y k) e)) in
      (r.0 ∷ q.0, (r.1, q.1), ap₂ (λ (a : ℕ) (b : List ℕ). a ∷ b) r.2 q.2)

  lex-numbers : (l k : List ℕ) → Below (vertex_count ws) l → Below (vertex_count ws) k → LexLe l k
      → LexLe (map (number_of (read limit ws)) l) (map (number_of (read limit ws)) k)
  lex-numbers [] k bl bk e = tt
  lex-numbers (x ∷ l) [] bl bk e = e
  lex-numbers (x ∷ l) (y ∷ k) bl bk e =
      ⊎_elim
      (λ (h : x < y). inl (numbers-rise f x y h bk.0))
      (λ (h : (x ≡ y) × LexLe l k). inr (ap (number_of (read limit ws)) h.0, lex-numbers l k bl.1 bk.1 h.1))
      e

  number-live : (i : ℕ) → i < vertex_count ws → is_live (live_vertices (read limit ws)) (number_of (read limit ws) i) ≡ true
  number-live i h = memb-getD (live_vertices (read limit ws)) i (rw live-length h)

  abbrev ByRecord : List ℕ → Type 0
  ByRecord l = Forward (is_below (vertex_count ws)) (Edge (steps_between (read limit ws)) (vertex_count ws)) l

  abbrev ByNumber : List ℕ → Type 0
  ByNumber l = Forward (is_live (live_vertices (read limit ws))) (StepIn (read limit ws)) l

  module _ {l : List ℕ} where
    below-order : ByRecord l → Below (vertex_count ws) l
    below-order o = below_of (vertex_count ws) l (λ x e. ltb-true x (vertex_count ws) (sym (o.same x) ∙ e))

    forward-numbers : ByRecord l → ByNumber (map (number_of (read limit ws)) l)
    forward-numbers o =
        let b : (x : ℕ) → memb x l ≡ true → x < vertex_count ws = below-memb (vertex_count ws) l (below-order o) in
        record {
          once = distinct-map (number_of (read limit ws)) l (λ x y hx hy e. record-once f x y (b x hx) (b y hy) e) o.once;
          same = λ x. test-ext _ _
              (λ e.
              let r = map-memb (number_of (read limit ws)) x l e in
              subst (λ (z : ℕ). is_live (live_vertices (read limit ws)) z ≡ true) r.2 (number-live r.0 (b r.0 r.1)))
              (λ e.
              let r = record_of_lem ws x e in
              subst (λ (z : ℕ). memb z (map (number_of (read limit ws)) l) ≡ true) r.2 (memb-map (number_of (read limit ws)) r.0 l (o.same r.0 ∙ lt-ltb r.0 (vertex_count ws) r.1)));
          forward = λ i j hi hj e.
              let li : i < length l = rw map-length at hi in
              let lj : j < length l = rw map-length at hj in
              o.forward i j li lj (b (get_or l i 0) (memb-getD l i li), b (get_or l j 0) (memb-getD l j lj), rw (map_at (number_of (read limit ws)) l i li, map_at (number_of (read limit ws)) l j lj) at e);
        }

    forward-records : Below (vertex_count ws) l → ByNumber (map (number_of (read limit ws)) l) → ByRecord l
    forward-records b o = record {
      once = distinct-before (number_of (read limit ws)) l o.once;
      same = λ x. test-ext _ _
          (λ e. lt-ltb x (vertex_count ws) (below-memb (vertex_count ws) l b x e))
          (λ e.
          let h : x < vertex_count ws = ltb-true x (vertex_count ws) e in
          let r = map-memb (number_of (read limit ws)) (number_of (read limit ws) x) l (o.same (number_of (read limit ws) x) ∙ number-live x h) in
          subst (λ (z : ℕ). memb z l ≡ true) (record-once f r.0 x (below-memb (vertex_count ws) l b r.0 r.1) h r.2) r.1);
      forward = λ i j hi hj e.
          o.forward i j (rw map-length hi) (rw map-length hj) (rw (map_at (number_of (read limit ws)) l i hi, map_at (number_of (read limit ws)) l j hj) e.2);
    }

  -- the smallest order of the records gives the smallest order of the numbers
  pub smallest-numbers : {l : List ℕ} → Smallest (is_below (vertex_count ws)) (Edge (steps_between (read limit ws)) (vertex_count ws)) l
      → SmallestIn (read limit ws) (map (number_of (read limit ws)) l)
  smallest-numbers {l} s = record { order = forward-numbers s.order; least = below }
    where
      below : (k : List ℕ) → ByNumber k → LexLe (map (number_of (read limit ws)) l) k
      below k o =
          let r = records-of k (λ x e. sym (o.same x) ∙ e) in
          let p : ByRecord r.0 = forward-records r.1 (subst ByNumber (sym r.2) o) in
          subst (LexLe (map (number_of (read limit ws)) l)) r.2 (lex-numbers l r.0 (below-order s.order) r.1 (s.least r.0 p))
