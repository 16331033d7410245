-- The matrix while the lists are gone through: one step more, one list more, all lists. Assumes nothing.
use Rattle.std.specs.Prelude.{Some}
use mathlib.Core.Path.{◌≡◌, refl, sym, ap, ap₂, ◌∙◌, subst}
use mathlib.Core.Bool.{Bool, true, false, not, ◌||◌, or_assoc}
use mathlib.Core.List.{List}
use Prim.Native.Nat.{ℕ, suc, ◌+◌, ◌*◌, ◌≤◌, ◌<◌}
use native.Mathlib.Nat.{le_antisymm}
use native.Mathlib.Numerals.{add-one}
use native.Mathlib.Omega.{arith}
use lib.Dec.{eqb}
use lib.ListN.{length, get_or, take, set, replicate}
use lib.Seq.{take_all}
use borrow.Author.Tests.{eq-eqb, ne_eqb, not-true, not-false}
use Rattle.lists.specs.Tests.{◌and◌}
use Rattle.lists.specs.Lists.{any, Ascending}
use Rattle.lists.proofs.Cases.{on_same, or-false, and-false-right}
use Rattle.lists.proofs.Tab.{length-tab, getD-tab}
use Rattle.lists.proofs.Ascend.{ascending-apart}
use Rattle.layout.specs.Content.{Table, live_vertices, position}
use Rattle.layout.specs.Layout.{limit, vertex_limit, vertex_count, hyperedge_count, hyperedge_at, members_at, read_hyperedges, read}
use Rattle.layout.specs.Inner.{Formed}
use Rattle.layout.specs.Steps.{steps_of, is_step, makes_step, has_step}
use Rattle.layout.proofs.Position.{position-found}
use Rattle.layout.proofs.Read.{live-length, live-ascends}
use Rattle.steps.specs.Matrices.{number_of, between, undirected, steps_between, undirected_between}
use Rattle.steps.specs.Inner.{cell, Holds, turned_between}
use Rattle.steps.specs.Drawn.{first_steps, along, Drawn, putting}
use Rattle.lists.proofs.Any.{any_snoc, any-more}
use Rattle.steps.proofs.Placed.{steps-more, steps-none}
use Rattle.steps.proofs.Holds.{holds-ext, holds-none, holds-putting}

-- ---- a relation that grows by a step

pub and-swap : (a b : Bool) → (a and b) ≡ (b and a)
unfolding ◌and◌
and-swap true true = refl
and-swap true false = refl
and-swap false true = refl
and-swap false false = refl

-- both directions grow
both-more : (f b p q s r : Bool) → ((((f and p) || (b and q)) || (f and s)) || (b and r)) ≡ ((f and (p || s)) || (b and (q || r)))
unfolding ◌and◌
both-more false false p q s r = refl
both-more false true p true s r = refl
both-more false true p false s r = refl
both-more true false true q s r = refl
both-more true false false q s r = refl
both-more true true true q s r = refl
both-more true true false true true r = refl
both-more true true false true false r = refl
both-more true true false false s r = refl

-- the records of two numbers are one where the numbers are
pub same-record : (live : List ℕ) → Ascending live → (x a i : ℕ) → position x live ≡ Some a → i < length live → eqb x (get_or live i 0) ≡ eqb i a
same-record live asc x a i e h =
    let p = position-found x live a e in
    on_same i a
    (λ q. eq-eqb x (get_or live i 0) (sym p.1 ∙ ap (λ (k : ℕ). get_or live k 0) (sym q)) ∙ sym (eq-eqb i a q))
    (λ q. ne_eqb x (get_or live i 0) (λ w. ascending-apart live asc i a h p.0 q (sym w ∙ sym p.1)) ∙ sym (ne_eqb i a q))

module _ (ws : List ℕ) (f : Formed limit ws) (forth back : Bool) (R S : ℕ → ℕ → Bool) (x y a b : ℕ)
    (ea : position x (live_vertices (read limit ws)) ≡ Some a) (eb : position y (live_vertices (read limit ws)) ≡ Some b)
    (grow : (u v : ℕ) → S u v ≡ (R u v || (eqb x u and eqb y v))) where
  holds-step : {m : List ℕ} → Holds (between (read limit ws) (along forth back R)) (vertex_count ws) m
      → Holds (between (read limit ws) (along forth back S)) (vertex_count ws) (putting back (cell b a) (putting forth (cell a b) m))
  unfolding along
  holds-step w =
      let live : List ℕ = live_vertices (read limit ws) in
      let n : ℕ = vertex_count ws in
      let asc : Ascending live = live-ascends limit ws f in
      let len : length live ≡ n = live-length limit ws in
      let la : a < n = rw len at (position-found x live a ea).0 in
      let lb : b < n = rw len at (position-found y live b eb).0 in
      let at : (i j : ℕ) → i < n → j < n → S (get_or live i 0) (get_or live j 0) ≡ (R (get_or live i 0) (get_or live j 0) || (eqb i a and eqb j b)) =
      λ i j li lj. grow (get_or live i 0) (get_or live j 0)
      ∙ ap (λ (z : Bool). R (get_or live i 0) (get_or live j 0) || z) (ap₂ ◌and◌ (same-record live asc x a i ea (rw len li)) (same-record live asc y b j eb (rw len lj))) in
      holds-putting
      (holds-putting w {F = λ i j. between (read limit ws) (along forth back R) i j || (forth and (eqb i a and eqb j b))} forth a b f.shape.vertices-le la lb (λ i j li lj. refl))
      back b a f.shape.vertices-le lb la
      (λ i j li lj.
      ap₂ (λ (p q : Bool). (forth and p) || (back and q)) (at i j li lj) (at j i lj li)
      ∙ sym (both-more forth back (R (get_or live i 0) (get_or live j 0)) (R (get_or live j 0) (get_or live i 0)) (eqb i a and eqb j b) (eqb j a and eqb i b))
      ∙ ap (λ (z : Bool). (((forth and R (get_or live i 0) (get_or live j 0)) || (back and R (get_or live j 0) (get_or live i 0))) || (forth and (eqb i a and eqb j b))) || (back and z)) (and-swap (eqb j a) (eqb i b)))

-- ---- within a list

-- a step of the first j hyperedges, or of the list l
unfoldable pub so_far : Table → ℕ → List ℕ → ℕ → ℕ → Bool
so_far t j l x y = first_steps t j x y || any (is_step x y) (steps_of l)

-- the hyperedges before j are gone through, and of its list ms the members up to place i, whose record is a
pub record Drawing (ws : List ℕ) (j : ℕ) (forth back : Bool) (ms : List ℕ) (i a : ℕ) (m : List ℕ) : Type 0 where
  pub within : i < length ms
  pub last : position (get_or ms i 0) (live_vertices (read limit ws)) ≡ Some a
  pub holds : Holds (between (read limit ws) (along forth back (so_far (read limit ws) j (take (suc i) ms)))) (vertex_count ws) m

along-ext : (forth back : Bool) (R S : ℕ → ℕ → Bool) → ((u v : ℕ) → R u v ≡ S u v) → (u v : ℕ) → along forth back R u v ≡ along forth back S u v
unfolding along
along-ext forth back R S h u v = ap₂ (λ (p q : Bool). (forth and p) || (back and q)) (h u v) (h v u)

module _ (ws : List ℕ) (forth back : Bool) where
  -- relations that are the same of all numbers
  holds_as : (R S : ℕ → ℕ → Bool) → ((u v : ℕ) → R u v ≡ S u v) → {m : List ℕ}
      → Holds (between (read limit ws) (along forth back R)) (vertex_count ws) m → Holds (between (read limit ws) (along forth back S)) (vertex_count ws) m
  holds_as R S h w = holds-ext (λ i j _ _. along-ext forth back R S h (number_of (read limit ws) i) (number_of (read limit ws) j)) w

module _ (ws : List ℕ) (j : ℕ) (ms : List ℕ) where
  -- one member: no step of the list yet
  so_far-first : (u v : ℕ) → first_steps (read limit ws) j u v ≡ so_far (read limit ws) j (take 1 ms) u v
  unfolding so_far
  so_far-first u v = sym (ap (λ (b : Bool). first_steps (read limit ws) j u v || b) (steps-none u v ms) ∙ or-false _)

  so_far-more : (i : ℕ) → i + 1 < length ms → (u v : ℕ)
      → so_far (read limit ws) j (take (suc (i + 1)) ms) u v ≡ (so_far (read limit ws) j (take (suc i) ms) u v || (eqb (get_or ms i 0) u and eqb (get_or ms (i + 1) 0) v))
  unfolding so_far is_step
  so_far-more i h u v =
      rw (add-one i, steps-more ms i (rw (← add-one i) h), any_snoc (is_step u v) (steps_of (take (suc i) ms)) (record { from = get_or ms i 0; to = get_or ms (suc i) 0 }))
      (sym (or_assoc (first_steps (read limit ws) j u v) (any (is_step u v) (steps_of (take (suc i) ms))) (eqb (get_or ms i 0) u and eqb (get_or ms (suc i) 0) v)))

  so_far-end : j < hyperedge_count ws → ms ≡ members_at limit ws j → (i : ℕ) → length ms ≤ suc i → (u v : ℕ)
      → so_far (read limit ws) j (take (suc i) ms) u v ≡ first_steps (read limit ws) (j + 1) u v
  unfolding so_far first_steps makes_step
  so_far-end h e i l u v =
      ap (λ (k : List ℕ). first_steps (read limit ws) j u v || any (is_step u v) (steps_of k)) (take_all (suc i) ms l ∙ e)
      ∙ sym (any-more (makes_step u v) (read_hyperedges limit ws) j (hyperedge_at limit ws j) (rw length-tab h)
      ∙ ap (λ (z : Bool). any (makes_step u v) (take j (read_hyperedges limit ws)) || z) (ap (makes_step u v) (getD-tab (hyperedge_at limit ws) (hyperedge_count ws) j (hyperedge_at limit ws j) h)))

module _ {ws : List ℕ} {j : ℕ} {forth back : Bool} {ms : List ℕ} where
  pub drawing-first : {a : ℕ} {m : List ℕ} → 0 < length ms → position (get_or ms 0 0) (live_vertices (read limit ws)) ≡ Some a → Drawn forth back ws j m
      → Drawing ws j forth back ms 0 a m
  drawing-first h e w = record { within = h; last = e; holds = holds_as ws forth back _ _ (so_far-first ws j ms) w }

  pub drawing-more : {i a b : ℕ} {m next : List ℕ} → Formed limit ws → Drawing ws j forth back ms i a m → i + 1 < length ms
      → position (get_or ms (i + 1) 0) (live_vertices (read limit ws)) ≡ Some b → next ≡ putting back (cell b a) (putting forth (cell a b) m)
      → Drawing ws j forth back ms (i + 1) b next
  drawing-more {i} {a} {b} {m} f d h e q = record {
    within = h;
    last = e;
    holds = rw q (holds-step ws f forth back (so_far (read limit ws) j (take (suc i) ms)) (so_far (read limit ws) j (take (suc (i + 1)) ms)) (get_or ms i 0) (get_or ms (i + 1) 0) a b d.last e (so_far-more ws j ms i h) d.holds);
  }

  pub drawing-end : {i a : ℕ} {m : List ℕ} → j < hyperedge_count ws → ms ≡ members_at limit ws j → Drawing ws j forth back ms i a m → length ms ≤ i + 1
      → Drawn forth back ws (j + 1) m
  drawing-end {i} h e d l = holds_as ws forth back _ _ (so_far-end ws j ms h e i (rw (← add-one i) l)) d.holds

-- ---- one mark: due is what the code tested

module _ (due : Bool) (k : ℕ) (m : List ℕ) where
  pub put-none : not due ≡ true → m ≡ putting due k m
  put-none h = rw (not-true due h)

  pub put_one : not due ≡ false → set m k 1 ≡ putting due k m
  put_one h = rw (not-false due h)

-- ---- all lists: k is what `hyperedge_count` found

pub drawn-end : (forth back : Bool) (ws : List ℕ) (j k : ℕ) (m : List ℕ) → Drawn forth back ws j m → k ≡ hyperedge_count ws → j ≤ k → k ≤ j
    → Drawn forth back ws (hyperedge_count ws) m
drawn-end forth back ws j k m w e a b = subst (λ (i : ℕ). Drawn forth back ws i m) (le_antisymm a b ∙ e) w

module _ (ws : List ℕ) where
  -- before the first list: no mark
  pub drawn-none : (forth back : Bool) → Drawn forth back ws 0 (replicate (vertex_limit * vertex_limit) 0)
  unfolding first_steps along any
  drawn-none forth back =
      holds-none (between (read limit ws) (along forth back (first_steps (read limit ws) 0))) (vertex_count ws)
      (λ i j. ap₂ ◌||◌ (and-false-right forth false refl) (and-false-right back false refl))

  first-all : (u v : ℕ) → first_steps (read limit ws) (hyperedge_count ws) u v ≡ has_step (read limit ws) u v
  unfolding first_steps has_step
  first-all u v = ap (any (makes_step u v)) (take_all (hyperedge_count ws) (read_hyperedges limit ws) (rw length-tab (omega arith)))

  module _ (m : List ℕ) where
    pub drawn-steps : Drawn true false ws (hyperedge_count ws) m → Holds (steps_between (read limit ws)) (vertex_count ws) m
    unfolding along ◌and◌
    drawn-steps w = holds-ext (λ i j _ _. or-false _ ∙ first-all (number_of (read limit ws) i) (number_of (read limit ws) j)) w

    pub drawn-turned : Drawn false true ws (hyperedge_count ws) m → Holds (turned_between (read limit ws)) (vertex_count ws) m
    unfolding along ◌and◌
    drawn-turned w = holds-ext (λ i j _ _. first-all (number_of (read limit ws) j) (number_of (read limit ws) i)) w

    pub drawn-links : Drawn true true ws (hyperedge_count ws) m → Holds (undirected_between (read limit ws)) (vertex_count ws) m
    unfolding along ◌and◌ undirected
    drawn-links w =
        holds-ext (λ i j _ _. ap₂ ◌||◌ (first-all (number_of (read limit ws) i) (number_of (read limit ws) j)) (first-all (number_of (read limit ws) j) (number_of (read limit ws) i))) w
