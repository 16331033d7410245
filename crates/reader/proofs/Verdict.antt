-- The faulty line, from how many lines of each kind are good. Assumes nothing.
use mathlib.Core.Path.{◌≡◌, refl, sym, ap, ◌∙◌}
use mathlib.Core.Bool.{Bool, true, false}
use mathlib.Core.List.{List}
use Prim.Native.Nat.{ℕ, zero, suc, ◌+◌, ◌-◌, ◌≤◌, ◌<◌}
use native.Mathlib.Omega.{arith}
use lib.ListN.{length}
use borrow.Author.Tests.{lt-ltb, le-ltb, eq-eqb, ne_eqb}
use Rattle.lists.specs.Tests.{◌and◌, every}
use Rattle.lists.proofs.Cases.{on_same, on_below, and_left, and_right}
use Rattle.lists.proofs.Every.{every-at, every_of}
use Rattle.frames.specs.Reading.{vertices_due, hyperedges_due, hyperedge_place, head_good, vertex_good, hyperedge_good, line_good, lines_due, first_not, good_lines, accepted, faulty_line}
use Rattle.reader.specs.Passes.{verdict}

module _ (p : ℕ → Bool) where
  first-all : (n : ℕ) → every p n ≡ true → first_not p n ≡ n
  unfolding first_not every
  first-all zero e = refl
  first-all (suc n) e = rw (first-all n (and_left _ _ e), le-ltb n n (omega arith), and_right (every p n) (p n) e)

  first-at : (n k : ℕ) → every p k ≡ true → p k ≡ false → k < n → first_not p n ≡ k
  unfolding first_not
  first-at zero k e f h = absurd (omega arith)
  first-at (suc n) k e f h =
      on_same k n
      (λ q. rw (first-all n (rw (← q) e), le-ltb n n (omega arith), ap p (sym q) ∙ f) (sym q))
      (λ q. rw (first-at n k e f (omega arith), lt-ltb k n (omega arith)))

module _ (text : List ℕ) where
  vertex-line : (k : ℕ) → k < vertices_due text → line_good text (suc k) ≡ vertex_good text k
  unfolding line_good
  vertex-line k h = rw (lt-ltb k (vertices_due text) h)

  hyperedge-line : (j : ℕ) → line_good text (suc (vertices_due text + j)) ≡ hyperedge_good text j
  unfolding line_good
  hyperedge-line j =
      let e : vertices_due text + j - vertices_due text ≡ j = omega arith in
      rw (le-ltb (vertices_due text + j) (vertices_due text) (omega arith), e)

  head_first : (k : ℕ) → head_good text ≡ true → ((i : ℕ) → i < k → line_good text (suc i) ≡ true) → (i : ℕ) → i < suc k → line_good text i ≡ true
  unfolding line_good
  head_first k g f zero h = g
  head_first k g f (suc i) h = f i (omega arith)

  lines-vertices : (i : ℕ) → head_good text ≡ true → every (vertex_good text) i ≡ true → i ≤ vertices_due text → every (line_good text) (suc i) ≡ true
  lines-vertices i g v h =
      every_of (line_good text) (suc i) (head_first i g (λ k l. vertex-line k (omega arith) ∙ every-at (vertex_good text) i k v l))

  lines-hyperedges : (j : ℕ) → head_good text ≡ true → every (vertex_good text) (vertices_due text) ≡ true → every (hyperedge_good text) j ≡ true
      → every (line_good text) (suc (vertices_due text + j)) ≡ true
  lines-hyperedges j g v w =
      every_of (line_good text) (suc (vertices_due text + j)) (head_first (vertices_due text + j) g (λ k l.
      on_below k (vertices_due text)
      (λ b. vertex-line k b ∙ every-at (vertex_good text) (vertices_due text) k v b)
      (λ b.
      let e : k ≡ vertices_due text + (k - vertices_due text) = omega arith in
      ap (λ (i : ℕ). line_good text (suc i)) e ∙ hyperedge-line (k - vertices_due text) ∙ every-at (hyperedge_good text) j (k - vertices_due text) w (omega arith))))

  -- k lines are good and the next one that is due is not
  verdict-at : (k : ℕ) → every (line_good text) k ≡ true → line_good text k ≡ false → k < lines_due text → suc k ≡ verdict text
  unfolding verdict accepted faulty_line good_lines ◌and◌
  verdict-at k e f h =
      rw (first-at (line_good text) (lines_due text) k e f h, ne_eqb k (lines_due text) (λ q. absurd (omega arith)))

  pub verdict-head : head_good text ≡ false → 1 ≡ verdict text
  unfolding line_good every
  verdict-head f = verdict-at 0 refl f (omega arith)

  pub verdict-vertex : (i : ℕ) → head_good text ≡ true → every (vertex_good text) i ≡ true → vertex_good text i ≡ false → i < vertices_due text → 2 + i ≡ verdict text
  verdict-vertex i g v f h =
      let e : 2 + i ≡ suc (suc i) = omega arith in
      e ∙ verdict-at (suc i) (lines-vertices i g v (omega arith)) (vertex-line i h ∙ f) (omega arith)

  module _ (g : head_good text ≡ true) (v : every (vertex_good text) (vertices_due text) ≡ true) where
    pub verdict-hyperedge : (j : ℕ) → every (hyperedge_good text) j ≡ true → hyperedge_good text j ≡ false → j < hyperedges_due text → 2 + vertices_due text + j ≡ verdict text
    verdict-hyperedge j w f h =
        let e : 2 + vertices_due text + j ≡ suc (suc (vertices_due text + j)) = omega arith in
        e ∙ verdict-at (suc (vertices_due text + j)) (lines-hyperedges j g v w) (hyperedge-line j ∙ f) (omega arith)

    module _ (w : every (hyperedge_good text) (hyperedges_due text) ≡ true) where
      all-good : good_lines text ≡ lines_due text
      unfolding good_lines
      all-good = first-all (line_good text) (lines_due text) (lines-hyperedges (hyperedges_due text) g v w)

      pub verdict-on : (hyperedge_place text (hyperedges_due text) ≡ length text → ⊥) → 2 + vertices_due text + hyperedges_due text ≡ verdict text
      unfolding verdict accepted faulty_line ◌and◌
      verdict-on n =
          let e : 2 + vertices_due text + hyperedges_due text ≡ suc (lines_due text) = omega arith in
          rw (all-good, eq-eqb (lines_due text) (lines_due text) refl, ne_eqb (length text) (hyperedge_place text (hyperedges_due text)) (λ q. n (sym q))) e

      pub verdict-none : hyperedge_place text (hyperedges_due text) ≡ length text → 0 ≡ verdict text
      unfolding verdict accepted ◌and◌
      verdict-none q =
          rw (all-good, eq-eqb (lines_due text) (lines_due text) refl, eq-eqb (length text) (hyperedge_place text (hyperedges_due text)) (sym q))
