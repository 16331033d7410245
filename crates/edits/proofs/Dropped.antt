-- A record that a search found is taken out of a well-formed table: the words that are left are those of the table without it. Assumes nothing.
use Rattle.std.specs.Prelude.{Option, Some, None, Ok}
use mathlib.Core.Path.{◌≡◌, refl, sym, ap, ap₂, ◌∙◌}
use mathlib.Core.List.{List, ◌++◌, map}
use Prim.Native.Nat.{ℕ, suc, ◌*◌, ◌-◌, ◌<◌}
use native.Mathlib.Omega.{arith}
use lib.ListN.{length, get_or, set, take, drop, get_or-map}
use Rattle.lists.specs.Lists.{filter, other_than, Ascending}
use Rattle.lists.specs.Inner.{shifted}
use Rattle.lists.proofs.Maps.{map-length}
use Rattle.lists.proofs.Tab.{length-tab, getD-tab}
use Rattle.lists.proofs.Ascend.{ascending-apart}
use Rattle.lists.proofs.Filter.{filter-but}
use Rattle.lists.proofs.Flat.{Uniform, length-pad}
use Rattle.layout.specs.Content.{Hyperedge, Table, vertex_number, hyperedge_number, live_vertices, live_hyperedges, position, no_vertex, no_hyperedge}
use Rattle.layout.specs.Layout.{limit, record_size, hyperedges_at, next_vertex_in, next_hyperedge_in, vertex_count, hyperedge_count, vertex_at, hyperedge_at, read_vertices, read_hyperedges, read, hyperedge_words, words}
use Rattle.layout.specs.Inner.{Formed}
use Rattle.layout.specs.Answers.{result_of, vertex_missing, hyperedge_missing}
use Rattle.layout.proofs.Position.{position-found}
use Rattle.layout.proofs.Read.{live-hyperedges, live-ascends, vertex-found, hyperedge-found, members-le}
use Rattle.layout.proofs.Words.{words-read}
use Rattle.layout.proofs.Answers.{on-missing, on-found}
use Rattle.edits.specs.Edits.{without, remove_vertex, remove_hyperedge}
use Rattle.edits.specs.Removing.{sifted, stripped, strip_vertex, vertex_taken_out}
use Rattle.edits.specs.Results.{remove_vertex_result, remove_hyperedge_result}
use Rattle.edits.proofs.Laid.{hyperedge-out, vertex-out}

-- of ascending keys only the one found is k
found-out : {A : Type 0} (f : A → ℕ) (xs : List A) (d : A) → f d ≡ 0 → Ascending (map f xs) → (k j : ℕ) → position k (map f xs) ≡ Some j
    → filter (other_than f k) xs ≡ take j xs ++ drop (suc j) xs
found-out f xs d z asc k j e =
    let p = position-found k (map f xs) j e in
    let l : length (map f xs) ≡ length xs = map-length f xs in
    filter-but f k xs d j (rw (← l) p.0) (sym (key j) ∙ p.1)
    (λ i h ne q. ascending-apart (map f xs) asc i j (rw l h) p.0 ne (key i ∙ q ∙ sym p.1))
  where
    key : (i : ℕ) → get_or (map f xs) i 0 ≡ f (get_or xs i d)
    key i = ap (get_or (map f xs) i) (sym z) ∙ get_or-map f xs i d

module _ (L : ℕ) (ws : List ℕ) (f : Formed L ws) where
  -- every hyperedge record has the same number of words
  hyperedges-uniform : Uniform (hyperedge_words L) (record_size L) (read_hyperedges L ws) no_hyperedge
  hyperedges-uniform j h =
      let l : j < hyperedge_count ws = rw length-tab at h in
      rw (getD-tab (hyperedge_at L ws) (hyperedge_count ws) j no_hyperedge l)
      (omega (arith, length-pad L (hyperedge_at L ws j).members (members-le L ws f j l)))

  hyperedge-dropped : (x j m : ℕ) → position x (live_hyperedges (read L ws)) ≡ Some j → m ≡ hyperedge_count ws
      → set (take hyperedges_at ws ++ shifted (drop hyperedges_at ws) (j * record_size L) (record_size L)) 3 (m - 1) ≡ words L (remove_hyperedge x (read L ws))
  unfolding remove_hyperedge
  hyperedge-dropped x j m e em =
      let n : length (read_hyperedges L ws) ≡ hyperedge_count ws = length-tab (hyperedge_at L ws) (hyperedge_count ws) in
      let g = hyperedge-found L ws x j e in
      ap₂ (λ (l : List ℕ) (k : ℕ). set (take hyperedges_at l ++ shifted (drop hyperedges_at l) (j * record_size L) (record_size L)) 3 (k - 1))
      (sym (words-read L ws f.shape)) (em ∙ sym n)
      ∙ hyperedge-out L (read L ws) (rw length-tab f.shape.vertices-le) j (rw n g.0) (rw n f.shape.hyperedges-le) hyperedges-uniform
      ∙ rw (found-out hyperedge_number (read_hyperedges L ws) no_hyperedge refl (rw (live-hyperedges L ws) f.hyperedges-ascend) x j e)

  -- the vertex, from a table that has the same vertices and whatever hyperedges
  pub vertex-dropped : (x i n : ℕ) (es : List Hyperedge) (ws₁ : List ℕ) → position x (live_vertices (read L ws)) ≡ Some i → n ≡ vertex_count ws
      → ws₁ ≡ words L (record { next_vertex = next_vertex_in ws; next_hyperedge = next_hyperedge_in ws; vertices = read_vertices ws; hyperedges = es })
      → vertex_taken_out i n ws₁
      ≡ words L (record { next_vertex = next_vertex_in ws; next_hyperedge = next_hyperedge_in ws; vertices = filter (other_than vertex_number x) (read_vertices ws); hyperedges = es })
  vertex-dropped x i n es ws₁ e en e₁ =
      let t : Table = record { next_vertex = next_vertex_in ws; next_hyperedge = next_hyperedge_in ws; vertices = read_vertices ws; hyperedges = es } in
      let len : length (read_vertices ws) ≡ vertex_count ws = length-tab (vertex_at ws) (vertex_count ws) in
      ap₂ (λ (l : List ℕ) (k : ℕ). vertex_taken_out i k l) e₁ (en ∙ sym len)
      ∙ vertex-out L t (rw len f.shape.vertices-le) i (rw len (vertex-found L ws x i e).0)
      ∙ rw (found-out vertex_number (read_vertices ws) no_vertex refl (live-ascends L ws f) x i e)

-- ---- for `search`: p is what `find_hyperedge` found, m the count, ws' the words after `drop_hyperedge`
module _ (x : ℕ) (ws : List ℕ) (p : Option ℕ) (q : p ≡ position x (live_hyperedges (read limit ws))) where
  pub hyperedge-none : p ≡ None → result_of (hyperedge_missing x) ws ≡ remove_hyperedge_result x ws (read limit ws)
  unfolding remove_hyperedge_result
  hyperedge-none h = on-missing (live_hyperedges (read limit ws)) hyperedge_missing x ws _ p q h

  module _ (j : ℕ) (h : p ≡ Some j) (m : ℕ) (e : m ≡ hyperedge_count ws) where
    pub hyperedge-below : j < m
    hyperedge-below = rw e (hyperedge-found limit ws x j (sym q ∙ h)).0

    pub hyperedge-done : Formed limit ws → (ws' : List ℕ)
        → ws' ≡ set (take hyperedges_at ws ++ shifted (drop hyperedges_at ws) (j * record_size limit) (record_size limit)) 3 (m - 1)
        → result_of (Ok 0) ws' ≡ remove_hyperedge_result x ws (read limit ws)
    unfolding remove_hyperedge_result
    hyperedge-done f ws' d =
        ap (result_of (Ok 0)) (d ∙ hyperedge-dropped limit ws f x j m (sym q ∙ h) e)
        ∙ on-found (live_hyperedges (read limit ws)) hyperedge_missing x ws _ p q j h

-- p is what `find_vertex` found, n the count, ws₁ the words after `strip_vertex`, ws₂ those after `drop_vertex`
module _ (x : ℕ) (ws : List ℕ) (p : Option ℕ) (q : p ≡ position x (live_vertices (read limit ws))) where
  pub vertex-none : p ≡ None → result_of (vertex_missing x) ws ≡ remove_vertex_result x ws (read limit ws)
  unfolding remove_vertex_result
  vertex-none h = on-missing (live_vertices (read limit ws)) vertex_missing x ws _ p q h

  module _ (i : ℕ) (h : p ≡ Some i) (n : ℕ) (e : n ≡ vertex_count ws) where
    pub vertex-below : i < n
    vertex-below = rw e (vertex-found limit ws x i (sym q ∙ h)).0

    pub vertex-done : Formed limit ws → (ws₁ ws₂ : List ℕ) → ws₁ ≡ words limit (strip_vertex x (read limit ws))
        → ws₂ ≡ vertex_taken_out i n ws₁ → result_of (Ok 0) ws₂ ≡ remove_vertex_result x ws (read limit ws)
    unfolding remove_vertex_result remove_vertex strip_vertex sifted without
    vertex-done f ws₁ ws₂ d₁ d₂ =
        ap (result_of (Ok 0)) (d₂ ∙ vertex-dropped limit ws f x i n (stripped x (read_hyperedges limit ws)) ws₁ (sym q ∙ h) e d₁)
        ∙ on-found (live_vertices (read limit ws)) vertex_missing x ws _ p q i h
