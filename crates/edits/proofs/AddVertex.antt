-- The stores of `put_vertex` give the words of the table with one vertex more. Assumes nothing.
use Rattle.std.specs.Prelude.{Ok, Err}
use mathlib.Core.Path.{◌≡◌, sym, ap, ap₂, ◌∙◌}
use mathlib.Core.Bool.{true}
use mathlib.Core.List.{List, [], ◌∷◌, ◌++◌}
use Prim.Native.Nat.{ℕ, ◌+◌, ◌-◌, ◌≤◌, ◌<◌}
use native.Mathlib.Numerals.{add-one}
use native.Mathlib.Omega.{arith}
use lib.ListN.{length, get_or, set, drop, length-set}
use lib.Seq.{get_or-set_same, get_or-set_other, drop-set-lt}
use Rattle.lists.specs.Lists.{tab}
use Rattle.lists.proofs.Tab.{tab-ext, tab-suc, length-tab}
use Rattle.lists.proofs.Every.{every_of}
use Rattle.lists.proofs.Flat.{zeros-part-of}
use Rattle.layout.specs.declared.Refusal.TheVariants.{Full, NumbersSpent}
use Rattle.layout.specs.Content.{Vertex}
use Rattle.layout.specs.Layout.{limit, vertex_limit, record_size, hyperedges_at, size, vertex_word, hyperedge_word, next_vertex_in, vertex_count, hyperedge_count, vertex_at, hyperedge_at, read_vertices, read_hyperedges, read, words}
use Rattle.layout.specs.WellFormed.{record_shaped, unused_vertices, unused_hyperedges}
use Rattle.layout.specs.Inner.{Shaped, Formed}
use Rattle.layout.specs.Answers.{result_of}
use Rattle.layout.proofs.Words.{words_of}
use Rattle.edits.specs.Edits.{add_vertex}
use Rattle.edits.specs.Results.{last_number, add_vertex_result}
use Rattle.edits.specs.Records.{put_vertex}
use Rattle.edits.proofs.Unchanged.{vertex-unused, hyperedge-kept, record-kept}
use Rattle.edits.proofs.Refusals.{on-full, on_room_lem, on-spent, on-number}

module _ (L : ℕ) (ws : List ℕ) (n x w : ℕ) (f : Formed L ws) (en : n ≡ vertex_count ws) (ex : x ≡ next_vertex_in ws) (hn : n < vertex_limit) where
  A : List ℕ
  A = set ws (vertex_word n) x

  B : List ℕ
  B = set A (vertex_word n + 1) w

  C : List ℕ
  C = set B 0 (x + 1)

  E : List ℕ
  E = set C 2 (n + 1)

  len : length E ≡ length ws
  unfolding E C B A
  len = simp length-set

  sized : length ws ≡ size L
  sized = f.shape.sized

  -- a word that is not stored to
  other : (p : ℕ) → (p ≡ vertex_word n → ⊥) → (p ≡ vertex_word n + 1 → ⊥) → (p ≡ 0 → ⊥) → (p ≡ 2 → ⊥) → get_or E p 0 ≡ get_or ws p 0
  unfolding E C B A
  other p a b c d = get_or-set_other C 2 p _ 0 d ∙ get_or-set_other B 0 p _ 0 c ∙ get_or-set_other A _ p _ 0 b ∙ get_or-set_other ws _ p _ 0 a

  beyond : (p : ℕ) → vertex_word n + 1 < p → get_or E p 0 ≡ get_or ws p 0
  beyond p h = other p (omega arith) (omega arith) (omega arith) (omega arith)

  at-0 : get_or E 0 0 ≡ x + 1
  unfolding E C B A
  at-0 = get_or-set_other C 2 0 _ 0 (omega arith) ∙ get_or-set_same B 0 _ 0 (simp length-set (omega (arith, sized)))

  at-2 : get_or E 2 0 ≡ n + 1
  unfolding E C B A
  at-2 = get_or-set_same C 2 _ 0 (simp length-set (omega (arith, sized)))

  at-3 : get_or E 3 0 ≡ get_or ws 3 0
  at-3 = other 3 (omega arith) (omega arith) (omega arith) (omega arith)

  at-number : get_or E (vertex_word n) 0 ≡ x
  unfolding E C B A
  at-number =
      get_or-set_other C 2 (vertex_word n) _ 0 (omega arith) ∙ get_or-set_other B 0 (vertex_word n) _ 0 (omega arith) ∙ get_or-set_other A (vertex_word n + 1) (vertex_word n) _ 0 (omega arith)
      ∙ get_or-set_same ws (vertex_word n) _ 0 (omega (arith, sized))

  at-weight : get_or E (vertex_word n + 1) 0 ≡ w
  unfolding E C B A
  at-weight =
      get_or-set_other C 2 (vertex_word n + 1) _ 0 (omega arith) ∙ get_or-set_other B 0 (vertex_word n + 1) _ 0 (omega arith)
      ∙ get_or-set_same A (vertex_word n + 1) _ 0 (simp length-set (omega (arith, sized)))

  vertex-kept : (i : ℕ) → i < n → vertex_at E i ≡ vertex_at ws i
  vertex-kept i h = rw (
    other (vertex_word i) (omega arith) (omega arith) (omega arith) (omega arith),
    other (vertex_word i + 1) (omega arith) (omega arith) (omega arith) (omega arith),
  )

  put-vertices : read_vertices E ≡ read_vertices ws ++ (record { number = x; weight = w } ∷ [])
  put-vertices =
      ap (tab (vertex_at E)) (at-2 ∙ add-one n) ∙ tab-suc (vertex_at E) n
      ∙ ap₂ (λ (l : List Vertex) (v : Vertex). l ++ (v ∷ []))
      (tab-ext (vertex_at E) (vertex_at ws) n vertex-kept ∙ ap (tab (vertex_at ws)) en)
      (rw (at-number, at-weight))

  record_same : (j r : ℕ) → r < record_size L → get_or E (hyperedge_word L j + r) 0 ≡ get_or ws (hyperedge_word L j + r) 0
  record_same j r h = beyond (hyperedge_word L j + r) (omega arith)

  put-hyperedges : read_hyperedges L E ≡ read_hyperedges L ws
  put-hyperedges =
      ap (tab (hyperedge_at L E)) at-3
      ∙ tab-ext (hyperedge_at L E) (hyperedge_at L ws) (hyperedge_count ws) (λ j h. hyperedge-kept L ws E f len j h (record_same j))

  hyperedges-rest : unused_hyperedges L E ≡ true
  unfolding unused_hyperedges E C B A
  hyperedges-rest =
      let b : ℕ = hyperedge_word L (get_or ws 3 0) in
      let d : drop b E ≡ drop b ws =
      drop-set-lt b C 2 _ (omega arith) ∙ drop-set-lt b B 0 _ (omega arith) ∙ drop-set-lt b A _ _ (omega arith) ∙ drop-set-lt b ws _ _ (omega arith) in
      rw (at-3, d) f.shape.hyperedges-rest

  put-shaped : Shaped L E
  unfolding unused_vertices
  put-shaped = record {
    sized = len ∙ sized;
    vertices-le = rw at-2 (omega arith);
    hyperedges-le = rw at-3 f.shape.hyperedges-le;
    vertices-rest = rw at-2 (zeros-part-of E (vertex_word (n + 1)) (hyperedges_at - vertex_word (n + 1)) (omega (arith, len, sized)) (λ p a b.
        beyond p (omega arith) ∙ vertex-unused L ws f.shape p (omega arith) (omega arith)));
    hyperedges-rest = hyperedges-rest;
    records = rw at-3 (every_of (record_shaped L E) (hyperedge_count ws) (λ j h. record-kept L ws E f len j h (record_same j)));
  }

  put_reads : read L E ≡ add_vertex w (read L ws)
  unfolding add_vertex
  put_reads = rw (at-0, other 1 (omega arith) (omega arith) (omega arith) (omega arith), put-vertices, put-hyperedges, ex)

  pub put-vertex-words : put_vertex n x w ws ≡ words L (add_vertex w (read L ws))
  unfolding E C B A
  put-vertex-words = words_of L E (add_vertex w (read L ws)) put-shaped put_reads

-- ---- for `search`: n is what `vertex_count` found, x what `next_vertex` did

module _ (w : ℕ) (ws : List ℕ) (n : ℕ) (en : n ≡ vertex_count ws) where
  live : length (read limit ws).vertices ≡ n
  live = length-tab (vertex_at ws) (vertex_count ws) ∙ sym en

  pub add-vertex-full : vertex_limit ≤ n → result_of (Err Full) ws ≡ add_vertex_result w ws (read limit ws)
  unfolding add_vertex_result
  add-vertex-full h = on-full _ vertex_limit ws _ (rw live h)

  module _ (x : ℕ) (ex : x ≡ next_vertex_in ws) (h : n < vertex_limit) where
    pub add-vertex-spent : x ≡ last_number → result_of (Err NumbersSpent) ws ≡ add_vertex_result w ws (read limit ws)
    unfolding add_vertex_result
    add-vertex-spent q = on-spent (next_vertex_in ws) ws _ (sym ex ∙ q) ∙ on_room_lem _ vertex_limit ws _ (rw live h)

    pub add-vertex-done : (exit : List ℕ) → Formed limit ws → (x ≡ last_number → ⊥) → exit ≡ put_vertex n x w ws
        → result_of (Ok x) exit ≡ add_vertex_result w ws (read limit ws)
    unfolding add_vertex_result
    add-vertex-done exit f q e =
        ap₂ (λ (y : ℕ) (l : List ℕ). result_of (Ok y) l) ex (e ∙ put-vertex-words limit ws n x w f en ex h)
        ∙ on-number (next_vertex_in ws) ws _ (λ p. q (ex ∙ p)) ∙ on_room_lem _ vertex_limit ws _ (rw live h)
