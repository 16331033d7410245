-- Walks between numbers are walks between the numbers' records, and back: of a relation said of the records, and so of the matrix that holds it. Assumes nothing.
use mathlib.Core.Path.{◌≡◌, refl, sym, ap₂, ◌∙◌, subst}
use mathlib.Core.Bool.{Bool, true}
use mathlib.Core.List.{List}
use Prim.Native.Nat.{ℕ, ◌<◌}
use Rattle.lists.proofs.Cases.{on_same}
use Rattle.lists.proofs.Memb.{memb-at}
use Rattle.lists.proofs.Ascend.{ascending-apart}
use Rattle.walks.specs.Walks.{Reach, here, step, Closed}
use Rattle.layout.specs.Content.{live_vertices, is_live}
use Rattle.layout.specs.Layout.{limit, vertex_count, read}
use Rattle.layout.specs.Inner.{Formed}
use Rattle.layout.proofs.Read.{live-length, live-ascends}
use Rattle.graph.specs.Reach.{matrix, Edge}
use Rattle.steps.specs.Matrices.{number_of, between, Related}
use Rattle.steps.specs.Inner.{Holds}
use Rattle.steps.proofs.Holds.{holds-matrix}
use Rattle.steps.proofs.Among.{Among}

-- ascending records have ascending numbers
pub numbers-rise : {ws : List ℕ} → Formed limit ws → (i j : ℕ) → i < j → j < vertex_count ws → number_of (read limit ws) i < number_of (read limit ws) j
numbers-rise {ws} f i j l h = live-ascends limit ws f i j l (rw (live-length limit ws) h)

-- a number has one record
pub record-once : {ws : List ℕ} → Formed limit ws → (i j : ℕ) → i < vertex_count ws → j < vertex_count ws → number_of (read limit ws) i ≡ number_of (read limit ws) j → i ≡ j
record-once {ws} f i j hi hj e =
    on_same i j (λ q. q)
    (λ q. absurd (ascending-apart (live_vertices (read limit ws)) (live-ascends limit ws f) i j (rw live-length hi) (rw live-length hj) q e))

pub record_of_lem : (ws : List ℕ) (x : ℕ) → is_live (live_vertices (read limit ws)) x ≡ true → (k : ℕ) × (k < vertex_count ws) × (number_of (read limit ws) k ≡ x)
record_of_lem ws x e = let r = memb-at x (live_vertices (read limit ws)) e in (r.0, rw live-length at r.1, r.2)

-- E is the relation R, said of the records
abbrev pub Agrees : List ℕ → (ℕ → ℕ → Bool) → (ℕ → ℕ → Bool) → Type 0
Agrees ws R E = (i j : ℕ) → i < vertex_count ws → j < vertex_count ws → E i j ≡ between (read limit ws) R i j

-- as the matrix is that holds it
pub holds-agrees : {ws : List ℕ} → Formed limit ws → (R : ℕ → ℕ → Bool) {m : List ℕ} → Holds (between (read limit ws) R) (vertex_count ws) m → Agrees ws R (matrix m)
holds-agrees f R w = holds-matrix w f.shape.vertices-le

module _ {ws : List ℕ} (f : Formed limit ws) (R : ℕ → ℕ → Bool) (am : Among (live_vertices (read limit ws)) R) (E : ℕ → ℕ → Bool) (ag : Agrees ws R E) where
  edge-number : (i j : ℕ) → Edge E (vertex_count ws) i j → R (number_of (read limit ws) i) (number_of (read limit ws) j) ≡ true
  edge-number i j r = sym (ag i j r.0 r.1) ∙ r.2

  edge-record : (i j : ℕ) → i < vertex_count ws → j < vertex_count ws → R (number_of (read limit ws) i) (number_of (read limit ws) j) ≡ true → Edge E (vertex_count ws) i j
  edge-record i j hi hj e = (hi, hj, ag i j hi hj ∙ e)

  pub reach-numbers : {i j : ℕ} → Reach (Edge E (vertex_count ws)) i j → Reach (Related R) (number_of (read limit ws) i) (number_of (read limit ws) j)
  reach-numbers here = here
  reach-numbers (step {y = u} {z = v} a r) = step (reach-numbers a) (edge-number u v r)

  to-records : {x y : ℕ} → Reach (Related R) x y → (i j : ℕ) → i < vertex_count ws → j < vertex_count ws → number_of (read limit ws) i ≡ x → number_of (read limit ws) j ≡ y
      → Reach (Edge E (vertex_count ws)) i j
  to-records here i j hi hj ei ej = subst (λ (k : ℕ). Reach (Edge E (vertex_count ws)) i k) (record-once f i j hi hj (ei ∙ sym ej)) here
  to-records (step {y = u} {z = v} a r) i j hi hj ei ej =
      let k = record_of_lem ws u (am u v r).0 in
      step (to-records a i k.0 hi k.1 ei k.2) (edge-record k.0 j k.1 hj (ap₂ R k.2 ej ∙ r))

  pub reach-records : (i j : ℕ) → i < vertex_count ws → j < vertex_count ws → Reach (Related R) (number_of (read limit ws) i) (number_of (read limit ws) j)
      → Reach (Edge E (vertex_count ws)) i j
  reach-records i j hi hj a = to-records a i j hi hj refl refl

  pub closed-numbers : Closed (Edge E (vertex_count ws)) → Closed (Related R)
  closed-numbers c = record {
    from = number_of (read limit ws) c.from;
    last = number_of (read limit ws) c.last;
    walk = reach-numbers c.walk;
    back = edge-number c.last c.from c.back;
  }
