-- Laws of the steps of a list, of the places that pass a test, and of sums. Assumes nothing.
use mathlib.Core.Path.{◌≡◌, refl, ap, ◌∙◌}
use mathlib.Core.Bool.{Bool, true, false}
use mathlib.Core.List.{List, [], ◌∷◌}
use Prim.Native.Nat.{ℕ, ◌+◌, ◌*◌, ◌≤◌, ◌<◌}
use native.Mathlib.Omega.{arith}
use lib.Dec.{eqb}
use lib.ListN.{length, get_or, drop, drop_of_length-le}
use borrow.Author.Tests.{eq-eqb, ne_eqb}
use Rattle.lists.specs.Tests.{bit}
use Rattle.lists.specs.Lists.{filter, tab, sum_over}
use Rattle.lists.proofs.Kept.{filter-length}
use Rattle.lists.proofs.Tab.{drop-tab, length-tab}
use Rattle.layout.specs.Steps.{Step, steps_of}
use Rattle.layout.specs.Layout.{hyperedge_count, hyperedge_at, members_at, read_hyperedges}
use Rattle.layout.specs.Inner.{Formed, step_at}
use Rattle.layout.proofs.Read.{members-le}
use Rattle.layout.proofs.Steps.{steps-more, steps-end}
use Rattle.lookups.specs.declared.Direction.{Direction}
use Rattle.lookups.specs.declared.Direction.TheVariants.{From, To}
use Rattle.lookups.specs.declared.Ends.{Ends}
use Rattle.lookups.specs.Lookups.{has_end, places, places_in}
use Rattle.lookups.specs.State.{ends_of}

-- the ends of the step at place i: the code went by the direction
module _ (dir : Direction) (ms : List ℕ) (i : ℕ) where
  pub ends-from : dir ≡ From → record { near = get_or ms i 0; far = get_or ms (i + 1) 0 } ≡ ends_of dir (step_at ms i)
  ends-from e = rw e

  pub ends-to : dir ≡ To → record { near = get_or ms (i + 1) 0; far = get_or ms i 0 } ≡ ends_of dir (step_at ms i)
  ends-to e = rw e

has_end_lem : (dir : Direction) (v : ℕ) (s : Step) → has_end dir v s ≡ eqb (ends_of dir s).near v
unfolding has_end
has_end_lem From v s = refl
has_end_lem To v s = refl

-- x is what `ends_at` found, and the code compared its near end with v
module _ (dir : Direction) (v : ℕ) (s : Step) (x : Ends) (e : x ≡ ends_of dir s) where
  pub end-here : x.near ≡ v → has_end dir v s ≡ true
  end-here h = has_end_lem dir v s ∙ rw (← e) (eq-eqb x.near v h)

  pub end-other : (x.near ≡ v → ⊥) → has_end dir v s ≡ false
  end-other h = has_end_lem dir v s ∙ rw (← e) (ne_eqb x.near v h)

-- ---- places

steps-le : (ms : List ℕ) → length (steps_of ms) ≤ length ms
unfolding steps_of
steps-le [] = omega arith
steps-le (x ∷ []) = omega arith
steps-le (x ∷ y ∷ ms) = omega (arith, steps-le (y ∷ ms))

module _ (p : Step → Bool) (ms : List ℕ) where
  pub places-le : places p ms ≤ length ms
  unfolding places
  places-le = omega (arith, filter-length p (steps_of ms), steps-le ms)

module _ (p : Step → Bool) (ms : List ℕ) (i : ℕ) where
  pub places-more : (b : Bool) → i + 1 < length ms → p (step_at ms i) ≡ b → places p (drop i ms) ≡ bit b + places p (drop (i + 1) ms)
  unfolding places filter
  places-more true h e = rw (steps-more ms i h, e) (omega arith)
  places-more false h e = rw (steps-more ms i h, e) (omega arith)

  pub places-none : length ms ≤ i + 1 → places p (drop i ms) ≡ 0
  unfolding places filter
  places-none h = ap (λ (ss : List Step). length (filter p ss)) (steps-end ms i h)

-- a loop over i that counts the places: n so far, and those of `drop i ms` are left
pub record Counted (p : Step → Bool) (ms : List ℕ) (i n : ℕ) : Type 0 where
  pub within : n ≤ i
  pub left : n + places p (drop i ms) ≡ places p ms

pub counted_none : (p : Step → Bool) (ms : List ℕ) → Counted p ms 0 0
counted_none p ms = record { within = omega arith; left = omega arith }

module _ {p : Step → Bool} {ms : List ℕ} {i n : ℕ} (c : Counted p ms i n) where
  pub counted-yes : {more : ℕ} → i + 1 < length ms → p (step_at ms i) ≡ true → more ≡ n + 1 → Counted p ms (i + 1) more
  counted-yes h e q = record { within = omega (arith, c.within); left = omega (arith, c.left, places-more p ms i true h e) }

  pub counted-no : {more : ℕ} → i + 1 < length ms → p (step_at ms i) ≡ false → more ≡ n → Counted p ms (i + 1) more
  counted-no h e q = record { within = omega (arith, c.within); left = omega (arith, c.left, places-more p ms i false h e) }

  pub counted-end : length ms ≤ i + 1 → n ≡ places p ms
  counted-end h = omega (arith, c.left, places-none p ms i h)

-- a loop over j along m records has none left
records-end : {A : Type 0} (g : ℕ → A) (m j : ℕ) → m ≤ j → drop j (tab g m) ≡ []
records-end g m j h = drop_of_length-le (tab g m) {i = j} (rw length-tab h)

-- m is what `hyperedge_count` found
module _ (L : ℕ) (ws : List ℕ) {m j : ℕ} (e : m ≡ hyperedge_count ws) where
  pub records-more : j < m → drop j (read_hyperedges L ws) ≡ hyperedge_at L ws j ∷ drop (j + 1) (read_hyperedges L ws)
  records-more h = drop-tab (hyperedge_at L ws) (hyperedge_count ws) j (omega arith)

  pub records-none : m ≤ j → drop j (read_hyperedges L ws) ≡ []
  records-none h = records-end (hyperedge_at L ws) (hyperedge_count ws) j (omega arith)

-- ---- sums: a loop over j that adds up the m records of g, each at most `most`

pub record Summed {A : Type 0} (f : A → ℕ) (g : ℕ → A) (m most j n : ℕ) : Type 0 where
  pub within : n ≤ j * most
  pub left : n + sum_over f (drop j (tab g m)) ≡ sum_over f (tab g m)

pub summed-none : {A : Type 0} (f : A → ℕ) (g : ℕ → A) (m most : ℕ) → Summed f g m most 0 0
summed-none f g m most = record { within = omega arith; left = omega arith }

module _ {A : Type 0} {f : A → ℕ} {g : ℕ → A} {m most j n : ℕ} (s : Summed f g m most j n) where
  pub summed-more : {x more : ℕ} → j < m → x ≡ f (g j) → x ≤ most → more ≡ n + x → Summed f g m most (j + 1) more
  unfolding sum_over
  summed-more h e l q = record {
    within = omega (arith, s.within);
    left = omega (arith, s.left, ap (sum_over f) (drop-tab g m j h));
  }

  pub summed-end : m ≤ j → n ≡ sum_over f (tab g m)
  unfolding sum_over
  summed-end h = omega (arith, s.left, ap (sum_over f) (records-end g m j h))

-- x is what a count of the places of record j's members found
module _ (L : ℕ) (ws ms : List ℕ) (j : ℕ) (e : ms ≡ members_at L ws j) (p : Step → Bool) (x : ℕ) (q : x ≡ places p ms) where
  pub places-in : x ≡ places_in p (hyperedge_at L ws j)
  unfolding places_in
  places-in = q ∙ ap (places p) e

  pub places-most : Formed L ws → j < hyperedge_count ws → x ≤ L
  places-most f h = omega (arith, places-le p (members_at L ws j), members-le L ws f j h, ap (places p) e)
