-- What an edit that keeps the table's length leaves as it was: the records whose words it does not change. Assumes nothing.
use mathlib.Core.Path.{◌≡◌, ap, ◌∙◌}
use mathlib.Core.Bool.{true}
use mathlib.Core.List.{List}
use Prim.Native.Nat.{ℕ, ◌+◌, ◌-◌, ◌≤◌, ◌<◌}
use native.Mathlib.Nat.{mul-le-mul_right}
use native.Mathlib.Omega.{arith}
use lib.ListN.{length, get_or}
use Rattle.lists.specs.Lists.{tab}
use Rattle.lists.proofs.Tab.{tab-ext}
use Rattle.lists.proofs.Every.{every-at}
use Rattle.lists.proofs.Stride.{stride}
use Rattle.lists.proofs.Flat.{zeros-part-at, zeros-part-of}
use Rattle.lists.proofs.Parts.{part-tail}
use Rattle.layout.specs.Layout.{hyperedge_limit, record_size, vertices_at, hyperedges_at, vertex_word, hyperedge_word, vertex_count, hyperedge_count, vertex_at, hyperedge_at, read_vertices}
use Rattle.layout.specs.WellFormed.{record_shaped, unused_vertices, unused_hyperedges}
use Rattle.layout.specs.Inner.{Shaped, Formed}
use Rattle.layout.proofs.Record.{hyperedge-moved, record-moved}

-- the words that a table does not use
module _ (L : ℕ) (ws : List ℕ) (s : Shaped L ws) where
  pub vertex-unused : (p : ℕ) → vertex_word (vertex_count ws) ≤ p → p < hyperedges_at → get_or ws p 0 ≡ 0
  unfolding unused_vertices
  vertex-unused p a b =
      zeros-part-at ws (vertex_word (vertex_count ws)) (hyperedges_at - vertex_word (vertex_count ws)) (omega (arith, s.sized, s.vertices-le)) s.vertices-rest p a (omega (arith, s.vertices-le))

  hyperedges-end : hyperedge_word L (hyperedge_count ws) ≤ length ws
  hyperedges-end = omega (arith, s.sized, mul-le-mul_right (record_size L) s.hyperedges-le)

  pub hyperedge-unused : (p : ℕ) → hyperedge_word L (hyperedge_count ws) ≤ p → p < length ws → get_or ws p 0 ≡ 0
  unfolding unused_hyperedges
  hyperedge-unused p a b =
      zeros-part-at ws (hyperedge_word L (hyperedge_count ws)) (length ws - hyperedge_word L (hyperedge_count ws)) (omega (arith, hyperedges-end)) (rw part-tail s.hyperedges-rest) p a (omega (arith, hyperedges-end))

  -- a used record lies within the words
  pub record-within : (i : ℕ) → i < hyperedge_limit → hyperedge_word L i + record_size L ≤ length ws
  record-within i h = stride hyperedges_at (record_size L) i hyperedge_limit h (omega (arith, s.sized))

module _ (L : ℕ) (ws E : List ℕ) (f : Formed L ws) (len : length E ≡ length ws) where
  -- hyperedge record i
  module _ (i : ℕ) (h : i < hyperedge_count ws)
      (same : (r : ℕ) → r < record_size L → get_or E (hyperedge_word L i + r) 0 ≡ get_or ws (hyperedge_word L i + r) 0) where
    inside : hyperedge_word L i + record_size L ≤ length ws
    inside = record-within L ws f.shape i (omega (arith, f.shape.hyperedges-le))

    pub hyperedge-kept : hyperedge_at L E i ≡ hyperedge_at L ws i
    hyperedge-kept = hyperedge-moved L E ws i i (rw len inside) inside same (f.counts i h)

    pub record-kept : record_shaped L E i ≡ true
    record-kept =
        record-moved L E ws i i (rw len inside) inside same (f.counts i h)
        ∙ every-at (record_shaped L ws) (hyperedge_count ws) i f.shape.records h

  -- the vertex records
  module _ (count : vertex_count E ≡ vertex_count ws) (same : (p : ℕ) → vertices_at ≤ p → p < hyperedges_at → get_or E p 0 ≡ get_or ws p 0) where
    pub vertices-kept : read_vertices E ≡ read_vertices ws
    vertices-kept =
        ap (tab (vertex_at E)) count
        ∙ tab-ext (vertex_at E) (vertex_at ws) (vertex_count ws) (λ i h. rw (
          same (vertex_word i) (omega arith) (omega (arith, f.shape.vertices-le)),
          same (vertex_word i + 1) (omega arith) (omega (arith, f.shape.vertices-le)),
        ))

    pub vertices-rest-kept : unused_vertices E ≡ true
    unfolding unused_vertices
    vertices-rest-kept =
        rw count (zeros-part-of E (vertex_word (vertex_count ws)) (hyperedges_at - vertex_word (vertex_count ws)) (omega (arith, len, f.shape.sized, f.shape.vertices-le)) (λ p a b.
        same p (omega arith) (omega (arith, f.shape.vertices-le)) ∙ vertex-unused L ws f.shape p a (omega (arith, f.shape.vertices-le))))
