-- The first of a list that passes a test: searched for, and answered. Assumes nothing.
use Rattle.std.specs.Prelude.{Option, Some, None, Ok}
use mathlib.Core.Path.{◌≡◌, refl, sym, ap, ◌∙◌}
use mathlib.Core.Bool.{Bool, true, false}
use mathlib.Core.List.{List, [], ◌∷◌}
use Prim.Native.Nat.{ℕ, zero, suc, ◌+◌, ◌≤◌, ◌<◌, suc-le-suc}
use native.Mathlib.Nat.{zero-add, zero-lt-suc}
use native.Mathlib.Numerals.{add-one}
use native.Mathlib.Omega.{arith}
use lib.ListN.{length, get_or, drop, drop_of_length-le}
use Rattle.lists.specs.Lists.{tab}
use Rattle.lists.proofs.Cases.{on}
use Rattle.lists.proofs.Tab.{drop-tab, length-tab, getD-tab}
use Rattle.layout.specs.Answers.{Answer}
use Rattle.layout.specs.Content.{Hyperedge, no_hyperedge}
use Rattle.layout.specs.Layout.{limit, hyperedge_limit, hyperedge_word, hyperedge_count, hyperedge_at, read_hyperedges}
use Rattle.layout.specs.Inner.{Formed}
use Rattle.layout.specs.Answers.{Result, result_of}
use Rattle.edits.specs.Results.{on_first, by_number, first_passing_from, first_passing}

-- ---- a loop over j, with `drop j` of the list left; r is what the code found of element j

module _ {A : Type 0} (p : A → Bool) (f : ℕ → A) (n j : ℕ) (whole : Option ℕ) (inv : first_passing_from p j (drop j (tab f n)) ≡ whole) (m : ℕ) (em : m ≡ n) where
  pub passing-on : (r : Bool) → r ≡ p (f j) → j < m → r ≡ false → first_passing_from p (j + 1) (drop (j + 1) (tab f n)) ≡ whole
  unfolding first_passing_from
  passing-on r e h q =
      ap (λ (k : ℕ). first_passing_from p k (drop (j + 1) (tab f n))) (add-one j) ∙ (rw (drop-tab f n j (rw (← em) h), ← e, q) at inv)

  pub passing-here : (r : Bool) → r ≡ p (f j) → j < m → r ≡ true → Some j ≡ whole
  unfolding first_passing_from
  passing-here r e h q = rw (drop-tab f n j (rw (← em) h), ← e, q) at inv

  pub passing-none : m ≤ j → None ≡ whole
  unfolding first_passing_from
  passing-none h = rw (drop_of_length-le (tab f n) {i = j} (rw (length-tab f n, ← em) h)) at inv

-- ---- what is answered

module _ {A : Type 0} (p : A → Bool) (answer : A → Answer) (lent : List ℕ) (r : Result) where
  from-passing : (d : A) (k : ℕ) (xs : List A) (i : ℕ) → first_passing_from p k xs ≡ Some i
      → (j : ℕ) × (i ≡ k + j) × (j < length xs) × (result_of (answer (get_or xs j d)) lent ≡ on_first p answer xs lent r)
  unfolding first_passing_from on_first
  from-passing d k [] i e = absurd (let z : ◌≡◌ {A = ℕ} 0 1 = cc in omega arith)
  from-passing d k (x ∷ xs) i e = on (p x)
      (λ m. let f : Some k ≡ Some i = rw m at e in let g : k ≡ i = cc in (zero, omega arith, zero-lt-suc (length xs), rw m))
      (λ m. let q = from-passing d (suc k) xs i (rw m at e) in (suc q.0, omega (arith, q.1), suc-le-suc q.2, rw m q.3))

  from-none : (k : ℕ) (xs : List A) → first_passing_from p k xs ≡ None → r ≡ on_first p answer xs lent r
  unfolding first_passing_from on_first
  from-none k [] e = refl
  from-none k (x ∷ xs) e = on (p x)
      (λ m. absurd (let f : Some k ≡ None = rw m at e in let z : ◌≡◌ {A = ℕ} 0 1 = cc in omega arith))
      (λ m. rw m (from-none (suc k) xs (rw m at e)))

  -- the place that a search found, and what is answered there
  pub on-first-passing : (d : A) (xs : List A) (i : ℕ) → first_passing p xs ≡ Some i
      → (i < length xs) × (result_of (answer (get_or xs i d)) lent ≡ on_first p answer xs lent r)
  unfolding first_passing
  on-first-passing d xs i e =
      let q = from-passing d zero xs i e in let s : i ≡ q.0 = q.1 ∙ zero-add q.0 in (rw s q.2, rw s q.3)

  pub on-none-first : (xs : List A) → first_passing p xs ≡ None → r ≡ on_first p answer xs lent r
  unfolding first_passing
  on-none-first xs e = from-none zero xs e

-- s is what a search of the table found
module _ (p : Hyperedge → Bool) (ws : List ℕ) (s : Option ℕ) (e : s ≡ first_passing p (read_hyperedges limit ws)) where
  module _ (j : ℕ) (h : s ≡ Some j) where
    found : (answer : ℕ → Answer) (lent : List ℕ) (r : Result)
        → (j < hyperedge_count ws) × (result_of (answer (get_or ws (hyperedge_word limit j) 0)) lent ≡ on_first p (by_number answer) (read_hyperedges limit ws) lent r)
    found answer lent r =
        let q = on-first-passing p (by_number answer) lent r no_hyperedge (read_hyperedges limit ws) j (sym e ∙ h) in
        let l : j < hyperedge_count ws = rw length-tab at q.0 in
        (l, ap (λ (v : Hyperedge). result_of (answer v.number) lent) (sym (getD-tab (hyperedge_at limit ws) (hyperedge_count ws) j no_hyperedge l)) ∙ q.1)

    pub passing-within : Formed limit ws → j < hyperedge_limit
    passing-within f = omega (arith, (found Ok [] (result_of (Ok 0) [])).0, f.shape.hyperedges-le)

    pub on-passing : (answer : ℕ → Answer) (lent : List ℕ) (r : Result) (x : ℕ) → x ≡ get_or ws (hyperedge_word limit j) 0
        → result_of (answer x) lent ≡ on_first p (by_number answer) (read_hyperedges limit ws) lent r
    on-passing answer lent r x q = rw q (found answer lent r).1

  pub on-none-passing : (answer : ℕ → Answer) (lent : List ℕ) (r : Result) → s ≡ None → r ≡ on_first p (by_number answer) (read_hyperedges limit ws) lent r
  on-none-passing answer lent r h = on-none-first p (by_number answer) lent r (read_hyperedges limit ws) (sym e ∙ h)
