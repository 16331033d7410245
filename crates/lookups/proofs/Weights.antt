-- Laws of the loops over the weights of the vertices. Assumes nothing.
use Rattle.std.specs.Prelude.{Ok}
use mathlib.Core.Path.{◌≡◌, refl, sym, ap, ap₂, ◌∙◌}
use mathlib.Core.Bool.{Bool, true, false, cond, ◌||◌}
use mathlib.Core.List.{List, [], ◌∷◌, ◌++◌, map}
use Prim.Native.Nat.{ℕ, zero, suc, ◌+◌, ◌≤◌, ◌<◌}
use native.Mathlib.Omega.{arith}
use lib.Dec.{eqb}
use lib.ListN.{length, drop, set, length-set, drop_of_length-le}
use lib.Seq.{get_or-set_same, get_or-set_other}
use borrow.Author.Tests.{eq-eqb, ne_eqb}
use Rattle.lists.specs.Tests.{bit, chosen}
use Rattle.lists.specs.Lists.{any, filter, tab, word_at}
use Rattle.lists.proofs.Cases.{on, on_same}
use Rattle.lists.proofs.Maps.{map_snoc}
use Rattle.lists.proofs.Tab.{tab-suc, drop-tab, length-tab}
use Rattle.lists.proofs.Filter.{filter-snoc}
use Rattle.layout.specs.Content.{vertex_number, live_vertices}
use Rattle.layout.specs.Layout.{vertex_limit, vertex_count, vertex_at, read_vertices, read}
use Rattle.layout.specs.Answers.{Result, result_of, listed}
use Rattle.layout.proofs.Read.{live-length, live_at}
use Rattle.marks.specs.Marks.{is_marked, marked}
use Rattle.lookups.specs.Lookups.{weighs, vertices_weighing}
use Rattle.lookups.specs.State.{weighs_at}

-- ---- a loop over k that marks the records of a weight

pub record Weighed (w : ℕ) (ws : List ℕ) (k : ℕ) (marks : List Bool) : Type 0 where
  pub sized : length marks ≡ vertex_limit
  pub each : (i : ℕ) → i < k → is_marked marks i ≡ weighs_at w ws i

pub weighed-none : (w : ℕ) (ws : List ℕ) (marks : List Bool) → length marks ≡ vertex_limit → Weighed w ws 0 marks
weighed-none w ws marks e = record { sized = e; each = λ i h. absurd (let z : ◌≡◌ {A = ℕ} 0 1 = omega arith in omega arith) }

module _ {w : ℕ} {ws : List ℕ} {k : ℕ} {marks : List Bool} (m : Weighed w ws k marks) where
  -- z is what `vertex_weight` found
  pub weighed-more : (z : ℕ) → z ≡ (vertex_at ws k).weight → k < vertex_limit → Weighed w ws (k + 1) (set marks k (eqb z w))
  unfolding weighs_at weighs
  weighed-more z e h = record {
    sized = length-set marks k (eqb z w) ∙ m.sized;
    each = λ i l. on_same i k
        (λ s. rw (s, get_or-set_same marks k (eqb z w) false (omega (arith, m.sized)), e))
        (λ ne. get_or-set_other marks k i (eqb z w) false ne ∙ m.each i (omega arith));
  }

  pub weighed-end : (n : ℕ) → n ≤ k → (i : ℕ) → i < n → is_marked marks i ≡ weighs_at w ws i
  weighed-end n h i l = m.each i (omega arith)

-- ---- the places that pass, and the records that pass

picked : {A : Type 0} (p : A → Bool) (f : A → ℕ) (g : ℕ → A) (q : ℕ → Bool) (h : ℕ → ℕ) (n : ℕ) → ((k : ℕ) → k < n → q k ≡ p (g k))
    → ((k : ℕ) → k < n → h k ≡ f (g k)) → map h (chosen q n) ≡ map f (filter p (tab g n))
unfolding chosen filter tab
picked p f g q h zero a b = refl
picked {A} p f g q h (suc n) a b =
    let rest : map h (chosen q n) ≡ map f (filter p (tab g n)) = picked p f g q h n (λ k l. a k (omega arith)) (λ k l. b k (omega arith)) in
    on (q n)
    (λ e. first true e ∙ map_snoc h (chosen q n) n ∙ ap₂ (λ (r : List ℕ) (y : ℕ). r ++ (y ∷ [])) rest (b n (omega arith)) ∙ sym (map_snoc f (filter p (tab g n)) (g n)) ∙ sym (last true e))
    (λ e. first false e ∙ rest ∙ sym (last false e))
  where
    first : (t : Bool) → q n ≡ t → map h (chosen q (suc n)) ≡ map h (cond t (chosen q n ++ (n ∷ [])) (chosen q n))
    first t e = ap (λ (t : Bool). map h (cond t (chosen q n ++ (n ∷ [])) (chosen q n))) e

    last : (t : Bool) → q n ≡ t → map f (filter p (tab g (suc n))) ≡ map f (cond t (filter p (tab g n) ++ (g n ∷ [])) (filter p (tab g n)))
    last t e =
        ap (λ (xs : List A). map f (filter p xs)) (tab-suc g n) ∙ ap (map f) (filter-snoc p (tab g n) (g n))
        ∙ ap (λ (t : Bool). map f (cond t (filter p (tab g n) ++ (g n ∷ [])) (filter p (tab g n)))) (sym (a n (omega arith)) ∙ e)

-- n is what `vertex_count` found, marks what `mark_weighing` left
pub weighing-listed : (L : ℕ) (ws : List ℕ) (w n : ℕ) (marks : List Bool) (out : List ℕ) (x : Result) → n ≡ vertex_count ws
    → ((k : ℕ) → k < n → is_marked marks k ≡ weighs_at w ws k) → x ≡ listed (marked marks (live_vertices (read L ws))) out → x ≡ listed (vertices_weighing w (read L ws)) out
unfolding marked vertices_weighing weighs_at
weighing-listed L ws w n marks out x e h q =
    q ∙ ap (λ (xs : List ℕ). listed xs out)
    (ap (λ (k : ℕ). map (word_at (live_vertices (read L ws))) (chosen (is_marked marks) k)) (live-length L ws)
    ∙ picked (weighs w) vertex_number (vertex_at ws) (is_marked marks) (word_at (live_vertices (read L ws))) (vertex_count ws)
    (λ k l. h k (omega arith)) (λ k l. live_at L ws k l))

-- ---- a search for a weight: n is what `vertex_count` found, z what `vertex_weight` found

module _ (w : ℕ) (ws : List ℕ) (n k : ℕ) (whole : Bool) (e : n ≡ vertex_count ws) (inv : any (weighs w) (drop k (read_vertices ws)) ≡ whole) where
  turn : k < n → any (weighs w) (drop k (read_vertices ws)) ≡ (weighs w (vertex_at ws k) || any (weighs w) (drop (k + 1) (read_vertices ws)))
  unfolding any
  turn h = ap (any (weighs w)) (drop-tab (vertex_at ws) (vertex_count ws) k (omega arith))

  pub weight-on : (z : ℕ) → z ≡ (vertex_at ws k).weight → k < n → (z ≡ w → ⊥) → any (weighs w) (drop (k + 1) (read_vertices ws)) ≡ whole
  unfolding weighs
  weight-on z q h ne = sym (turn h ∙ rw (← q, ne_eqb z w ne)) ∙ inv

  pub weight-here : (z : ℕ) → z ≡ (vertex_at ws k).weight → k < n → z ≡ w → true ≡ whole
  unfolding weighs
  weight-here z q h s = sym (turn h ∙ rw (← q, eq-eqb z w s)) ∙ inv

  pub weight-none : n ≤ k → false ≡ whole
  unfolding any
  weight-none h = sym (ap (any (weighs w)) (drop_of_length-le (read_vertices ws) {i = k} (rw length-tab (omega arith)))) ∙ inv

-- r is what the code found, and it answered 1 or 0
module _ (r b : Bool) (e : r ≡ b) where
  pub answer-yes : r ≡ true → result_of (Ok 1) [] ≡ result_of (Ok (bit b)) []
  answer-yes h = rw (← e, h)

  pub answer-no : r ≡ false → result_of (Ok 0) [] ≡ result_of (Ok (bit b)) []
  answer-no h = rw (← e, h)
