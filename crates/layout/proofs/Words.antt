-- A list of words of the right shape is the words of what it reads as. Assumes nothing.
use mathlib.Core.Path.{◌≡◌, sym, ap, ap₂, ◌∙◌}
use mathlib.Core.Bool.{true}
use mathlib.Core.List.{List, [], ◌∷◌, ◌++◌}
use Prim.Native.Nat.{ℕ, ◌+◌, ◌*◌, ◌-◌, ◌≤◌}
use native.Mathlib.Nat.{mul-le-mul_right, add-zero}
use native.Mathlib.Omega.{arith}
use lib.ListN.{length, get_or, take, drop, length-drop, take-append-drop}
use lib.Seq.{take-add, drop-drop, length-take-le, take_all}
use Rattle.lists.specs.Lists.{zeros, tab, flat, pad}
use Rattle.lists.proofs.Tab.{length-tab}
use Rattle.lists.proofs.Stride.{stride}
use Rattle.lists.proofs.Parts.{part-tail, part-words}
use Rattle.lists.proofs.Flat.{flat-tab, pad-front}
use Rattle.layout.specs.Content.{Table}
use Rattle.layout.specs.Layout.{vertex_limit, hyperedge_limit, vertex_size, record_size, vertices_at, hyperedges_at, size, vertex_word, hyperedge_word, next_vertex_in, next_hyperedge_in, vertex_count, hyperedge_count, vertex_at, count_at, members_at, hyperedge_at, read_vertices, read_hyperedges, read, vertex_words, hyperedge_words, words}
use Rattle.layout.specs.WellFormed.{unused_vertices, unused_hyperedges}
use Rattle.layout.specs.Inner.{Shaped}
use Rattle.layout.proofs.Shape.{count-le, count-rest}

module _ (L : ℕ) (ws : List ℕ) where
  -- the word at a is the word at a + 0
  from-here : (a : ℕ) (f : ℕ → List ℕ) → f (get_or ws a 0) ≡ f (get_or ws (a + 0) 0)
  from-here a f = ap (λ (p : ℕ). f (get_or ws p 0)) (sym (add-zero a))

  record-words : (j : ℕ) → hyperedge_word L j + record_size L ≤ length ws → count_at L ws j ≤ L
      → zeros (take (L - count_at L ws j) (drop (hyperedge_word L j + 3 + count_at L ws j) ws)) ≡ true
      → hyperedge_words L (hyperedge_at L ws j) ≡ take (record_size L) (drop (hyperedge_word L j) ws)
  unfolding tab
  record-words j h le z =
      let b : ℕ = hyperedge_word L j in
      let c : ℕ = count_at L ws j in
      let len : length (members_at L ws j) ≡ c = length-take-le c (drop (b + 3) ws) (rw length-drop (omega arith)) in
      let p : pad L (members_at L ws j) ≡ take L (drop (b + 3) ws) =
      pad-front (drop (b + 3) ws) c L le (rw length-drop (omega arith)) (rw drop-drop z) in
      ap₂ (λ (k : ℕ) (r : List ℕ). get_or ws b 0 ∷ get_or ws (b + 1) 0 ∷ k ∷ r) len p
      ∙ ap₂ ◌++◌ (from-here b (λ x. x ∷ get_or ws (b + 1) 0 ∷ get_or ws (b + 2) 0 ∷ []) ∙ part-words 3 b ws (omega arith)) (ap (take L) (sym (drop-drop 3 b ws)))
      ∙ sym (take-add 3 L (drop b ws))

  module _ (s : Shaped L ws) where
    vertices-words : pad (vertex_limit * vertex_size) (flat vertex_words (read_vertices ws)) ≡ take (vertex_limit * vertex_size) (drop vertices_at ws)
    unfolding unused_vertices tab
    vertices-words =
        let n : ℕ = vertex_count ws in
        let len : length ws ≡ size L = s.sized in
        let hn : n ≤ vertex_limit = s.vertices-le in
        let e : hyperedges_at - vertex_word n ≡ vertex_limit * vertex_size - n * vertex_size = omega arith in
        ap (pad (vertex_limit * vertex_size)) (flat-tab vertex_words (vertex_at ws) vertex_size vertices_at ws n (λ i h. from-here (vertex_word i) (λ x. x ∷ get_or ws (vertex_word i + 1) 0 ∷ []) ∙ part-words vertex_size (vertex_word i) ws (omega arith)))
        ∙ pad-front (drop vertices_at ws) (n * vertex_size) (vertex_limit * vertex_size) (omega arith) (rw length-drop (omega arith)) (rw (drop-drop, ← e) s.vertices-rest)

    hyperedges-words : pad (hyperedge_limit * record_size L) (flat (hyperedge_words L) (read_hyperedges L ws)) ≡ drop hyperedges_at ws
    unfolding unused_hyperedges
    hyperedges-words =
        let m : ℕ = hyperedge_count ws in
        let len : length ws ≡ size L = s.sized in
        let hm : m * record_size L ≤ hyperedge_limit * record_size L = mul-le-mul_right (record_size L) s.hyperedges-le in
        let e : hyperedge_limit * record_size L - m * record_size L ≡ length ws - hyperedge_word L m = omega arith in
        ap (pad (hyperedge_limit * record_size L)) (flat-tab (hyperedge_words L) (hyperedge_at L ws) (record_size L) hyperedges_at ws m (λ j h.
        record-words j (stride hyperedges_at (record_size L) j m h (omega arith)) (count-le L ws m j s.records h) (count-rest L ws m j s.records h)))
        ∙ pad-front (drop hyperedges_at ws) (m * record_size L) (hyperedge_limit * record_size L) hm (rw length-drop (omega arith)) (rw (drop-drop, e, part-tail) s.hyperedges-rest)
        ∙ take_all (hyperedge_limit * record_size L) (drop hyperedges_at ws) (rw length-drop (omega arith))

    pub words-read : words L (read L ws) ≡ ws
    unfolding words tab
    words-read =
        let len : length ws ≡ size L = s.sized in
        let head : next_vertex_in ws ∷ next_hyperedge_in ws ∷ length (read_vertices ws) ∷ length (read_hyperedges L ws) ∷ [] ≡ take vertices_at ws =
        ap₂ (λ (a b : ℕ). next_vertex_in ws ∷ next_hyperedge_in ws ∷ a ∷ b ∷ []) (length-tab (vertex_at ws) (vertex_count ws)) (length-tab (hyperedge_at L ws) (hyperedge_count ws))
        ∙ part-words vertices_at 0 ws (omega arith) in
        ap₂ ◌++◌ (ap₂ ◌++◌ head vertices-words ∙ sym (take-add vertices_at (vertex_limit * vertex_size) ws)) hyperedges-words ∙ take-append-drop hyperedges_at ws

-- the edits' rule: words of the right shape that read as t are the words of t
pub words_of : (L : ℕ) (ws : List ℕ) (t : Table) → Shaped L ws → read L ws ≡ t → ws ≡ words L t
words_of L ws t s e = sym (words-read L ws s) ∙ ap (words L) e
