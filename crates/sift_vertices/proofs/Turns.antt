-- The vertex records gone through: what a turn leaves, and what is left at the end. Assumes nothing.
use mathlib.Core.Path.{◌≡◌, refl, ap, ap₂, ◌∙◌}
use mathlib.Core.Bool.{Bool, true, false}
use mathlib.Core.List.{List, [], ◌∷◌}
use Prim.Native.Nat.{ℕ, ◌+◌, ◌*◌, ◌-◌, ◌≤◌, ◌<◌}
use native.Mathlib.Numerals.{add-one}
use native.Mathlib.Omega.{arith}
use lib.ListN.{length, get_or, set, replicate}
use lib.Seq.{paste, sets-eq}
use Rattle.layout.specs.Layout.{limit, vertex_limit, vertex_size, vertices_at, hyperedges_at, size, vertex_word, vertex_count, vertex_at, vertex_words}
use Rattle.edits.specs.Removing.{with_vertices}
use Rattle.edits.proofs.Relaid.{relaid-none, relaid-pass, relaid-more, relaid-cleared}
use Rattle.marks.specs.Marks.{is_marked}
use Rattle.sift_vertices.specs.Unmarked.{unmarked, VerticesSifted, VertexTurn}
use Rattle.sift_vertices.proofs.Unmarked.{unmarked-none, unmarked-in, unmarked-out}

-- two words stored
two-pasted : (s : List ℕ) (a x w : ℕ) → a + 2 ≤ length s → set (set s a x) (a + 1) w ≡ paste s a (x ∷ w ∷ []) 2
two-pasted s a x w h = ap (λ (i : ℕ). set (set s a x) i w) (add-one a) ∙ sets-eq (x ∷ w ∷ []) s a h

module _ (marks : List Bool) (ws : List ℕ) where
  pub vertices-none : (d : List ℕ) → VerticesSifted marks ws d 0 0 d
  vertices-none d = rw (unmarked-none (vertex_at ws) marks) (relaid-none vertex_words vertices_at vertex_size d)

  module _ (i k : ℕ) (s : List ℕ) where
    pub vertex-passed : is_marked marks i ≡ true → VertexTurn marks ws i k s k s
    vertex-passed m d st = rw (unmarked-out (vertex_at ws) marks i m) (relaid-pass vertex_words vertices_at vertex_size d _ i k s st)

    pub vertex-kept : (s' : List ℕ) → is_marked marks i ≡ false → length s ≡ size limit → i < vertex_limit → k ≤ i
        → s' ≡ set (set s (vertex_word k) (get_or ws (vertex_word i) 0)) (vertex_word k + 1) (get_or ws (vertex_word i + 1) 0) → VertexTurn marks ws i k s (k + 1) s'
    vertex-kept s' m len h l e d st =
        rw (unmarked-in (vertex_at ws) marks i m)
        (relaid-more vertex_words vertices_at vertex_size d _ i k s st (omega (arith, st.same)) (vertex_at ws i) refl s' (e ∙ two-pasted s (vertex_word k) _ _ (omega arith)))

  -- n is what `vertex_count` found, s₂ the words after the rest is cleared, s₃ after the count is stored
  pub vertices-done : (n i k : ℕ) (d s s₂ s₃ : List ℕ) → length d ≡ size limit → vertex_count ws ≤ vertex_limit → n ≡ vertex_count ws → VerticesSifted marks ws d i k s → i ≤ n → n ≤ i
      → s₂ ≡ paste s (vertex_word k) (replicate (hyperedges_at - vertex_word k) 0) (hyperedges_at - vertex_word k) → s₃ ≡ set s₂ 2 k
      → s₃ ≡ with_vertices (unmarked (vertex_at ws) marks (vertex_count ws)) d
  vertices-done n i k d s s₂ s₃ len le en st l g e₂ e₃ =
      let z : hyperedges_at - vertex_word k ≡ vertex_limit * vertex_size - k * vertex_size = omega arith in
      e₃ ∙ ap₂ (λ (r : List ℕ) (c : ℕ). set r 2 c)
      (relaid-cleared vertex_words vertices_at vertex_size d _ i k s st (vertex_limit * vertex_size) (omega arith) (omega arith) s₂ (e₂ ∙ ap (λ (c : ℕ). paste s (vertex_word k) (replicate c 0) c) z))
      st.count
      ∙ ap (λ (c : ℕ). with_vertices (unmarked (vertex_at ws) marks c) d) (let q : i ≡ vertex_count ws = omega arith in q)
