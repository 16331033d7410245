-- The choices while the lists are gone through: one step more, one list more, all lists. Assumes nothing.
use Rattle.std.specs.Prelude.{Some}
use mathlib.Core.Path.{◌≡◌, refl, sym, ap, ap₂, ◌∙◌, subst}
use mathlib.Core.Bool.{Bool, true, false, ◌||◌, cond}
use mathlib.Core.List.{List}
use Prim.Native.Nat.{ℕ, zero, suc, ◌+◌, ◌*◌, ◌≤◌, ◌<◌}
use native.Mathlib.Nat.{le_antisymm}
use native.Mathlib.Numerals.{add-one}
use native.Mathlib.Omega.{arith}
use lib.Dec.{eqb, ltb}
use lib.ListN.{length, get_or, take, set, replicate}
use lib.Seq.{take_all}
use borrow.Author.Tests.{le-ltb}
use Rattle.lists.specs.Tests.{◌and◌}
use Rattle.lists.specs.Lists.{any, Ascending, facing, word_at}
use Rattle.lists.proofs.Cases.{on}
use Rattle.lists.proofs.Tab.{length-tab, getD-tab}
use Rattle.layout.specs.Content.{Hyperedge, Table, live_vertices, position, no_hyperedge}
use Rattle.layout.specs.Layout.{limit, vertex_limit, vertex_count, hyperedge_count, hyperedge_at, members_at, read}
use Rattle.layout.specs.Inner.{Formed}
use Rattle.layout.specs.Steps.{steps_of, is_step, makes_step}
use Rattle.layout.proofs.Position.{position-found}
use Rattle.layout.proofs.Read.{live-length, live-ascends}
use Rattle.steps.specs.Matrices.{number_of}
use Rattle.steps.specs.Inner.{cell}
use Rattle.lists.proofs.Any.{any_snoc}
use Rattle.steps.proofs.Placed.{steps-more, steps-none}
use Rattle.steps.proofs.Drawing.{same-record, and-swap}
use Rattle.paths.specs.Paths.{weight_by, lighter, choice_among, choice}
use Rattle.paths.specs.Choices.{Weights, Values, among, Choosing, Chosen}
use Rattle.paths.proofs.Values.{values-ext, values-none, values-set, weights-are}

-- ---- a choice that grows by a step

-- to choose the same again changes nothing
lighter-again : (weight : ℕ → ℕ) (c k : ℕ) → lighter weight (lighter weight c (suc k)) (suc k) ≡ lighter weight c (suc k)
unfolding lighter
lighter-again weight zero k = rw (le-ltb (weight (suc k)) (weight (suc k)) (omega arith))
lighter-again weight (suc c) k =
    on (ltb (weight (suc k)) (weight (suc c)))
    (λ e. rw (e, le-ltb (weight (suc k)) (weight (suc k)) (omega arith)))
    (λ e. rw (e, e))

grown : (weight : ℕ → ℕ) (b s : Bool) (c k : ℕ)
    → cond (b || s) (lighter weight c (suc k)) c ≡ cond s (lighter weight (cond b (lighter weight c (suc k)) c) (suc k)) (cond b (lighter weight c (suc k)) c)
grown weight true true c k = sym (lighter-again weight c k)
grown weight true false c k = refl
grown weight false true c k = refl
grown weight false false c k = refl

lighter-ext : (v w : ℕ → ℕ) → ((k : ℕ) → v k ≡ w k) → (c k : ℕ) → lighter v c k ≡ lighter w c k
unfolding lighter
lighter-ext v w h zero k = refl
lighter-ext v w h (suc c) k = rw (h k, h (suc c))

module _ (ws : List ℕ) (f : Formed limit ws) (F G : ℕ → ℕ → ℕ) (h : ℕ → ℕ) (x y a b : ℕ)
    (ea : position x (live_vertices (read limit ws)) ≡ Some a) (eb : position y (live_vertices (read limit ws)) ≡ Some b)
    (grow : (u v : ℕ) → G u v ≡ cond (eqb x u and eqb y v) (h (F u v)) (F u v)) where
  values-step : (back : Bool) {c : List ℕ} → Values (among (read limit ws) (facing back F)) (vertex_count ws) c
      → Values (among (read limit ws) (facing back G)) (vertex_count ws) (set c (facing back cell a b) (h (get_or c (facing back cell a b) 0)))
  values-step back w = step back w
    where
      asc : Ascending (live_vertices (read limit ws))
      asc = live-ascends limit ws f

      len : length (live_vertices (read limit ws)) ≡ vertex_count ws
      len = live-length limit ws

      la : a < vertex_count ws
      la = rw len at (position-found x (live_vertices (read limit ws)) a ea).0

      lb : b < vertex_count ws
      lb = rw len at (position-found y (live_vertices (read limit ws)) b eb).0

      at : (i j : ℕ) → i < vertex_count ws → j < vertex_count ws
          → G (number_of (read limit ws) i) (number_of (read limit ws) j) ≡ cond (eqb i a and eqb j b) (h (F (number_of (read limit ws) i) (number_of (read limit ws) j))) (F (number_of (read limit ws) i) (number_of (read limit ws) j))
      at i j li lj =
          grow (number_of (read limit ws) i) (number_of (read limit ws) j)
          ∙ ap (λ (z : Bool). cond z (h (F (number_of (read limit ws) i) (number_of (read limit ws) j))) (F (number_of (read limit ws) i) (number_of (read limit ws) j)))
          (ap₂ ◌and◌ (same-record (live_vertices (read limit ws)) asc x a i ea (rw len li)) (same-record (live_vertices (read limit ws)) asc y b j eb (rw len lj)))

      step : (back : Bool) {c : List ℕ} → Values (among (read limit ws) (facing back F)) (vertex_count ws) c
          → Values (among (read limit ws) (facing back G)) (vertex_count ws) (set c (facing back cell a b) (h (get_or c (facing back cell a b) 0)))
      step false w = values-set w f.shape.vertices-le a b h la lb at
      step true w = values-set w f.shape.vertices-le b a h lb la
          (λ i j li lj. at j i lj li ∙ ap (λ (z : Bool). cond z (h (F (number_of (read limit ws) j) (number_of (read limit ws) i))) (F (number_of (read limit ws) j) (number_of (read limit ws) i))) (and-swap (eqb j a) (eqb i b)))

-- ---- for `search`: the cell that `choose_step` chose

module _ (back : Bool) (w c : List ℕ) (k a b : ℕ) (c' : List ℕ) where
  pub step_back_lem : back ≡ true → c' ≡ set c (cell b a) (lighter (word_at w) (get_or c (cell b a) 0) k)
      → c' ≡ set c (facing back cell a b) (lighter (word_at w) (get_or c (facing back cell a b) 0) k)
  step_back_lem e q = rw e q

  pub step-forth : back ≡ false → c' ≡ set c (cell a b) (lighter (word_at w) (get_or c (cell a b) 0) k)
      → c' ≡ set c (facing back cell a b) (lighter (word_at w) (get_or c (facing back cell a b) 0) k)
  step-forth e q = rw e q

-- ---- within a list

-- the choices among the first j hyperedges and one that makes the steps of the list l
unfoldable pub so_far : Table → ℕ → List ℕ → ℕ → ℕ → ℕ
so_far t j l x y = cond (any (is_step x y) (steps_of l)) (lighter (weight_by t) (choice_among t j x y) (suc j)) (choice_among t j x y)

-- the hyperedges before j are gone through, and of its list ms the members up to place i, whose record is a
pub record Passing (ws : List ℕ) (back : Bool) (j : ℕ) (ms : List ℕ) (i a : ℕ) (c : List ℕ) : Type 0 where
  pub within : i < length ms
  pub last : position (get_or ms i 0) (live_vertices (read limit ws)) ≡ Some a
  pub holds : Values (among (read limit ws) (facing back (so_far (read limit ws) j (take (suc i) ms)))) (vertex_count ws) c

values-as : (ws : List ℕ) (back : Bool) (F G : ℕ → ℕ → ℕ) → ((u v : ℕ) → F u v ≡ G u v) → {c : List ℕ}
    → Values (among (read limit ws) (facing back F)) (vertex_count ws) c → Values (among (read limit ws) (facing back G)) (vertex_count ws) c
values-as ws true F G h w = values-ext (λ i j _ _. h (number_of (read limit ws) j) (number_of (read limit ws) i)) w
values-as ws false F G h w = values-ext (λ i j _ _. h (number_of (read limit ws) i) (number_of (read limit ws) j)) w

module _ (ws : List ℕ) (j : ℕ) (ms : List ℕ) where
  -- one member: no step of the list yet
  so_far-first : (u v : ℕ) → choice_among (read limit ws) j u v ≡ so_far (read limit ws) j (take 1 ms) u v
  unfolding so_far
  so_far-first u v = sym (ap (λ (b : Bool). cond b (lighter (weight_by (read limit ws)) (choice_among (read limit ws) j u v) (suc j)) (choice_among (read limit ws) j u v)) (steps-none u v ms))

  so_far-more : (i : ℕ) → i + 1 < length ms → (u v : ℕ)
      → so_far (read limit ws) j (take (suc (i + 1)) ms) u v
      ≡ cond (eqb (get_or ms i 0) u and eqb (get_or ms (i + 1) 0) v) (lighter (weight_by (read limit ws)) (so_far (read limit ws) j (take (suc i) ms) u v) (suc j)) (so_far (read limit ws) j (take (suc i) ms) u v)
  unfolding so_far is_step
  so_far-more i h u v =
      rw (add-one i, steps-more ms i (rw (← add-one i) h), any_snoc (is_step u v) (steps_of (take (suc i) ms)) (record { from = get_or ms i 0; to = get_or ms (suc i) 0 }))
      (grown (weight_by (read limit ws)) (any (is_step u v) (steps_of (take (suc i) ms))) (eqb (get_or ms i 0) u and eqb (get_or ms (suc i) 0) v) (choice_among (read limit ws) j u v) j)

  so_far-end : j < hyperedge_count ws → ms ≡ members_at limit ws j → (i : ℕ) → length ms ≤ suc i → (u v : ℕ)
      → so_far (read limit ws) j (take (suc i) ms) u v ≡ choice_among (read limit ws) (suc j) u v
  unfolding so_far choice_among makes_step
  so_far-end h e i l u v =
      ap (λ (k : List ℕ). cond (any (is_step u v) (steps_of k)) (lighter (weight_by (read limit ws)) (choice_among (read limit ws) j u v) (suc j)) (choice_among (read limit ws) j u v))
      (take_all (suc i) ms l ∙ e ∙ sym (ap (λ (r : Hyperedge). r.members) (getD-tab (hyperedge_at limit ws) (hyperedge_count ws) j no_hyperedge h)))

module _ {ws : List ℕ} {back : Bool} {j : ℕ} {ms : List ℕ} where
  pub passing-first : {a : ℕ} {c : List ℕ} → 0 < length ms → position (get_or ms 0 0) (live_vertices (read limit ws)) ≡ Some a → Choosing back ws j c
      → Passing ws back j ms 0 a c
  passing-first h e w = record { within = h; last = e; holds = values-as ws back _ _ (so_far-first ws j ms) w }

  module _ {i a : ℕ} {c : List ℕ} (d : Passing ws back j ms i a c) where
    -- b is what `place` found of the next member, c' what `choose_step` made
    pub passing-more : Formed limit ws → (w : List ℕ) → Weights (read limit ws) (hyperedge_count ws) w → (k : ℕ) → k ≡ j + 1 → i + 1 < length ms
        → (b : ℕ) → position (get_or ms (i + 1) 0) (live_vertices (read limit ws)) ≡ Some b
        → (c' : List ℕ) → c' ≡ set c (facing back cell a b) (lighter (word_at w) (get_or c (facing back cell a b) 0) k) → Passing ws back j ms (i + 1) b c'
    passing-more f w hw k ek h b e c' q = record {
      within = h;
      last = e;
      holds = subst (λ (l : List ℕ). Values (among (read limit ws) (facing back (so_far (read limit ws) j (take (suc (i + 1)) ms)))) (vertex_count ws) l)
          (sym (q ∙ ap (λ (z : ℕ). set c (facing back cell a b) z)
          (lighter-ext (word_at w) (weight_by (read limit ws)) (weights-are ws w hw) (get_or c (facing back cell a b) 0) k
          ∙ ap (lighter (weight_by (read limit ws)) (get_or c (facing back cell a b) 0)) (ek ∙ add-one j))))
          (values-step ws f (so_far (read limit ws) j (take (suc i) ms)) (so_far (read limit ws) j (take (suc (i + 1)) ms)) (λ z. lighter (weight_by (read limit ws)) z (suc j))
          (get_or ms i 0) (get_or ms (i + 1) 0) a b d.last e (so_far-more ws j ms i h) back d.holds);
    }

    pub passing-end : j < hyperedge_count ws → ms ≡ members_at limit ws j → length ms ≤ i + 1 → Choosing back ws (j + 1) c
    passing-end h e l =
        subst (λ (k : ℕ). Choosing back ws k c) (sym (add-one j)) (values-as ws back _ _ (so_far-end ws j ms h e i (rw add-one at l)) d.holds)

-- ---- all lists: k is what `hyperedge_count` found

pub choosing-none : (back : Bool) (ws : List ℕ) → Choosing back ws 0 (replicate (vertex_limit * vertex_limit) 0)
unfolding choice_among
choosing-none true ws = values-none _ _ (λ i j. refl)
choosing-none false ws = values-none _ _ (λ i j. refl)

pub chosen-end : (back : Bool) (ws : List ℕ) (j k : ℕ) (c : List ℕ) → Choosing back ws j c → k ≡ hyperedge_count ws → j ≤ k → k ≤ j → Chosen back ws c
unfolding choice
chosen-end back ws j k c w e a b =
    subst (λ (i : ℕ). Choosing back ws i c) (le_antisymm a b ∙ e ∙ sym (length-tab (hyperedge_at limit ws) (hyperedge_count ws))) w
