-- What is read from the words of a content that a table can hold is that content, and the words are well formed. Assumes nothing.
use mathlib.Core.Path.{◌≡◌, refl, sym, ap, ◌∙◌}
use mathlib.Core.Bool.{true}
use mathlib.Core.List.{List, [], ◌∷◌, ◌++◌}
use Prim.Native.Nat.{ℕ, ◌+◌, ◌*◌, ◌-◌, ◌≤◌, ◌<◌}
use native.Mathlib.Nat.{mul-le-mul_right, add-zero, add_assoc}
use native.Mathlib.Omega.{arith}
use lib.ListN.{length, get_or, take, drop, length-append, length-drop, get_or-append, get_or-eq_default}
use lib.Seq.{get_or-append-add, length-take-le, ext_get_or}
use borrow.Author.Tests.{lt-ltb, le-leb}
use Rattle.lists.specs.Tests.{◌and◌}
use Rattle.lists.specs.Lists.{flat, pad}
use Rattle.lists.proofs.Cases.{and_left, and_right, and_both}
use Rattle.lists.proofs.All.{all_of}
use Rattle.lists.proofs.Tab.{tab-ext, length-tab, getD-tab}
use Rattle.lists.proofs.Every.{every_of}
use Rattle.lists.proofs.Stride.{stride}
use Rattle.lists.proofs.Parts.{part_at, part-tail}
use Rattle.lists.proofs.Flat.{zero-end, flat-length, flat-at, tab-getD, length-pad, zeros-part-of}
use Rattle.layout.specs.Content.{Hyperedge, no_vertex, no_hyperedge, Table}
use Rattle.layout.specs.Layout.{vertex_limit, hyperedge_limit, vertex_size, record_size, vertices_at, hyperedges_at, size, vertex_word, hyperedge_word, hyperedge_count, vertex_at, count_at, members_at, hyperedge_at, read_vertices, read_hyperedges, read, vertex_words, hyperedge_words, words}
use Rattle.layout.specs.WellFormed.{record_shaped, unused_vertices, unused_hyperedges, well_formed, count_fits, holdable}
use Rattle.layout.specs.Inner.{Shaped, Formed}
use Rattle.layout.proofs.Shape.{shaped_of, shaped-by, count-le, count-pos}
use Rattle.layout.proofs.Words.{words-read}
use Rattle.layout.proofs.Holdable.{Holdable, holdable-of, members-le, members-pos}

module _ (L : ℕ) (t : Table) (w : Holdable L t) where
  head : List ℕ
  head = t.next_vertex ∷ t.next_hyperedge ∷ length t.vertices ∷ length t.hyperedges ∷ []

  vertex_part : List ℕ
  vertex_part = pad (vertex_limit * vertex_size) (flat vertex_words t.vertices)

  hyperedge_part : List ℕ
  hyperedge_part = pad (hyperedge_limit * record_size L) (flat (hyperedge_words L) t.hyperedges)

  laid : List ℕ
  laid = (head ++ vertex_part) ++ hyperedge_part

  vertices-length : length (flat vertex_words t.vertices) ≡ length t.vertices * vertex_size
  vertices-length = flat-length vertex_words vertex_size t.vertices no_vertex (λ i h. refl)

  uniform : (j : ℕ) → j < length t.hyperedges → length (hyperedge_words L (get_or t.hyperedges j no_hyperedge)) ≡ record_size L
  uniform j h = omega (arith, length-pad L (get_or t.hyperedges j no_hyperedge).members (members-le w no_hyperedge j h))

  hyperedges-length : length (flat (hyperedge_words L) t.hyperedges) ≡ length t.hyperedges * record_size L
  hyperedges-length = flat-length (hyperedge_words L) (record_size L) t.hyperedges no_hyperedge uniform

  vertex_part-length : length vertex_part ≡ vertex_limit * vertex_size
  unfolding vertex_part
  vertex_part-length = length-pad (vertex_limit * vertex_size) (flat vertex_words t.vertices) (omega (arith, vertices-length, w.vertices-le))

  hyperedge_part-length : length hyperedge_part ≡ hyperedge_limit * record_size L
  unfolding hyperedge_part
  hyperedge_part-length = length-pad (hyperedge_limit * record_size L) (flat (hyperedge_words L) t.hyperedges) (omega (arith, hyperedges-length, mul-le-mul_right (record_size L) w.hyperedges-le))

  front_length : length (head ++ vertex_part) ≡ hyperedges_at
  unfolding head
  front_length = omega (arith, length-append head vertex_part, vertex_part-length)

  laid-length : length laid ≡ size L
  unfolding laid
  laid-length = length-append (head ++ vertex_part) hyperedge_part ∙ omega (arith, front_length, hyperedge_part-length)

  -- a word of the vertices' part, and one of the hyperedges'
  vertex_part-at : (q : ℕ) → q < vertex_limit * vertex_size → get_or laid (vertices_at + q) 0 ≡ get_or (flat vertex_words t.vertices) q 0
  unfolding laid head vertex_part
  vertex_part-at q h =
      get_or-append (head ++ vertex_part) hyperedge_part 0 (vertices_at + q) (omega (arith, front_length)) ∙ get_or-append-add head vertex_part q 0
      ∙ zero-end (flat vertex_words t.vertices) (vertex_limit * vertex_size - length (flat vertex_words t.vertices)) q

  hyperedge_part-at : (q : ℕ) → get_or laid (hyperedges_at + q) 0 ≡ get_or (flat (hyperedge_words L) t.hyperedges) q 0
  unfolding laid hyperedge_part
  hyperedge_part-at q =
      let e : hyperedges_at + q ≡ length (head ++ vertex_part) + q = omega (arith, front_length) in
      ap (λ (p : ℕ). get_or ((head ++ vertex_part) ++ hyperedge_part) p 0) e ∙ get_or-append-add (head ++ vertex_part) hyperedge_part q 0
      ∙ zero-end (flat (hyperedge_words L) t.hyperedges) (hyperedge_limit * record_size L - length (flat (hyperedge_words L) t.hyperedges)) q

  -- word r of record i
  vertex-word : (i r : ℕ) → i < length t.vertices → r < vertex_size → get_or laid (vertex_word i + r) 0 ≡ get_or (vertex_words (get_or t.vertices i no_vertex)) r 0
  vertex-word i r h l =
      let e : vertex_word i + r ≡ vertices_at + (i * vertex_size + r) = omega arith in
      ap (λ (p : ℕ). get_or laid p 0) e ∙ vertex_part-at (i * vertex_size + r) (omega (arith, w.vertices-le))
      ∙ flat-at vertex_words vertex_size t.vertices no_vertex (λ i h. refl) i r h l

  hyperedge-word : (j r : ℕ) → j < length t.hyperedges → r < record_size L → get_or laid (hyperedge_word L j + r) 0 ≡ get_or (hyperedge_words L (get_or t.hyperedges j no_hyperedge)) r 0
  hyperedge-word j r h l =
      let e : hyperedge_word L j + r ≡ hyperedges_at + (j * record_size L + r) = omega arith in
      ap (λ (p : ℕ). get_or laid p 0) e ∙ hyperedge_part-at (j * record_size L + r)
      ∙ flat-at (hyperedge_words L) (record_size L) t.hyperedges no_hyperedge uniform j r h l

  first : (a : ℕ) → get_or laid (a + 0) 0 ≡ get_or laid a 0
  first a = ap (λ (p : ℕ). get_or laid p 0) (add-zero a)

  vertex-back : (i : ℕ) → i < length t.vertices → vertex_at laid i ≡ get_or t.vertices i no_vertex
  vertex-back i h = rw (← first (vertex_word i), vertex-word i 0 h (omega arith), vertex-word i 1 h (omega arith))

  record-in : (j : ℕ) → j < length t.hyperedges → hyperedge_word L j + record_size L ≤ length laid
  record-in j h = omega (arith, laid-length, mul-le-mul_right (record_size L) h, mul-le-mul_right (record_size L) w.hyperedges-le)

  count-back : (j : ℕ) → j < length t.hyperedges → count_at L laid j ≡ length (get_or t.hyperedges j no_hyperedge).members
  count-back j h = hyperedge-word j 2 h (omega arith)

  member-word : (j i : ℕ) → j < length t.hyperedges → i < L → get_or laid (hyperedge_word L j + 3 + i) 0 ≡ get_or (get_or t.hyperedges j no_hyperedge).members i 0
  member-word j i h l =
      let e : Hyperedge = get_or t.hyperedges j no_hyperedge in
      ap (λ (p : ℕ). get_or laid p 0) (add_assoc (hyperedge_word L j) 3 i) ∙ hyperedge-word j (3 + i) h (omega arith)
      ∙ get_or-append-add (e.number ∷ e.weight ∷ length e.members ∷ []) (pad L (get_or t.hyperedges j no_hyperedge).members) i 0
      ∙ zero-end (get_or t.hyperedges j no_hyperedge).members (L - length (get_or t.hyperedges j no_hyperedge).members) i

  members-back : (j : ℕ) → j < length t.hyperedges → members_at L laid j ≡ (get_or t.hyperedges j no_hyperedge).members
  members-back j h =
      let ms : List ℕ = (get_or t.hyperedges j no_hyperedge).members in
      let le : length ms ≤ L = members-le w no_hyperedge j h in
      let n : length (take (length ms) (drop (hyperedge_word L j + 3) laid)) ≡ length ms =
      length-take-le (length ms) (drop (hyperedge_word L j + 3) laid) (rw length-drop (omega (arith, record-in j h))) in
      ap (λ (c : ℕ). take c (drop (hyperedge_word L j + 3) laid)) (count-back j h)
      ∙ ext_get_or 0 (take (length ms) (drop (hyperedge_word L j + 3) laid)) ms n (λ i l.
      let l' : i < length ms = rw n at l in
      part_at laid (hyperedge_word L j + 3) (length ms) i l' ∙ member-word j i h (omega arith))

  hyperedge-back : (j : ℕ) → j < length t.hyperedges → hyperedge_at L laid j ≡ get_or t.hyperedges j no_hyperedge
  hyperedge-back j h = rw (← first (hyperedge_word L j), hyperedge-word j 0 h (omega arith), hyperedge-word j 1 h (omega arith), members-back j h)

  back : read L laid ≡ t
  unfolding laid head
  back =
      rw (
        tab-ext (vertex_at laid) (λ i. get_or t.vertices i no_vertex) (length t.vertices) vertex-back,
        tab-getD t.vertices no_vertex,
        tab-ext (hyperedge_at L laid) (λ j. get_or t.hyperedges j no_hyperedge) (length t.hyperedges) hyperedge-back,
        tab-getD t.hyperedges no_hyperedge,
      )

  record-back : (j : ℕ) → j < length t.hyperedges → record_shaped L laid j ≡ true
  unfolding record_shaped
  record-back j h =
      let ms : List ℕ = (get_or t.hyperedges j no_hyperedge).members in
      let c : ℕ = length ms in
      let le : c ≤ L = members-le w no_hyperedge j h in
      let a : ℕ = hyperedge_word L j + 3 in
      rw (count-back j h) (and_both _ _ (lt-ltb 0 c (members-pos w no_hyperedge j h)) (and_both _ _ (le-leb c L le)
      (zeros-part-of laid (a + c) (L - c) (omega (arith, record-in j h)) (λ p u v.
      let q : a + (p - a) ≡ p = omega arith in
      ap (λ (i : ℕ). get_or laid i 0) (sym q) ∙ member-word j (p - a) h (omega arith) ∙ get_or-eq_default ms 0 {n = p - a} (omega arith)))))

  vertices-unused : unused_vertices laid ≡ true
  unfolding unused_vertices laid head
  vertices-unused =
      let n : ℕ = length t.vertices in
      zeros-part-of laid (vertex_word n) (hyperedges_at - vertex_word n) (omega (arith, laid-length, w.vertices-le)) (λ p a b.
      let q : vertices_at + (p - vertices_at) ≡ p = omega arith in
      ap (λ (i : ℕ). get_or laid i 0) (sym q) ∙ vertex_part-at (p - vertices_at) (omega (arith, w.vertices-le))
      ∙ get_or-eq_default (flat vertex_words t.vertices) 0 {n = p - vertices_at} (omega (arith, vertices-length)))

  hyperedges-unused : unused_hyperedges L laid ≡ true
  unfolding unused_hyperedges laid head
  hyperedges-unused =
      let b : ℕ = hyperedge_word L (length t.hyperedges) in
      let en : b ≤ length laid = omega (arith, laid-length, mul-le-mul_right (record_size L) w.hyperedges-le) in
      rw (← part-tail b laid) (zeros-part-of laid b (length laid - b) (omega arith) (λ p a h.
      let q : hyperedges_at + (p - hyperedges_at) ≡ p = omega arith in
      ap (λ (i : ℕ). get_or laid i 0) (sym q) ∙ hyperedge_part-at (p - hyperedges_at)
      ∙ get_or-eq_default (flat (hyperedge_words L) t.hyperedges) 0 {n = p - hyperedges_at} (omega (arith, hyperedges-length))))

  laid-shaped : Shaped L laid
  unfolding laid head
  laid-shaped = record {
    sized = laid-length;
    vertices-le = w.vertices-le;
    hyperedges-le = w.hyperedges-le;
    vertices-rest = vertices-unused;
    hyperedges-rest = hyperedges-unused;
    records = every_of (record_shaped L laid) (length t.hyperedges) record-back;
  }

  laid-words : laid ≡ words L t
  unfolding words laid head vertex_part hyperedge_part
  laid-words = refl

module _ (L : ℕ) (t : Table) (h : holdable L t ≡ true) where
  pub read-words : read L (words L t) ≡ t
  read-words = rw (← laid-words L t (holdable-of h)) (back L t (holdable-of h))

  pub words-formed : well_formed L (words L t) ≡ true
  unfolding well_formed holdable
  words-formed =
      and_both _ _ (shaped-by L (words L t) (rw (← laid-words L t (holdable-of h)) (laid-shaped L t (holdable-of h))))
      (rw read-words (and_right _ _ (and_right _ _ (and_right _ _ h))))

-- what a well-formed list of words reads as can be held
pub read-holdable : (L : ℕ) (ws : List ℕ) → well_formed L ws ≡ true → holdable L (read L ws) ≡ true
unfolding well_formed holdable count_fits
read-holdable L ws e =
    let s = shaped_of L ws (and_left _ _ e) in
    let n = s.vertices-le in let m = s.hyperedges-le in
    and_both _ _ (le-leb (length (read_vertices ws)) vertex_limit (rw length-tab n))
    (and_both _ _ (le-leb (length (read_hyperedges L ws)) hyperedge_limit (rw length-tab m)) (and_both _ _
    (all_of (count_fits L) (read_hyperedges L ws) no_hyperedge (λ j l.
    let h : j < hyperedge_count ws = rw length-tab at l in
    let len : length (members_at L ws j) ≡ count_at L ws j =
    length-take-le (count_at L ws j) (drop (hyperedge_word L j + 3) ws) (rw length-drop (omega (
      arith,
      count-le L ws _ j s.records h,
      s.sized,
      stride hyperedges_at (record_size L) j (hyperedge_count ws) {len = size L} h (omega (arith, mul-le-mul_right (record_size L) m)),
    ))) in
    rw (getD-tab (hyperedge_at L ws) (hyperedge_count ws) j no_hyperedge h, len)
    (and_both _ _ (lt-ltb 0 _ (count-pos L ws _ j s.records h)) (le-leb _ L (count-le L ws _ j s.records h)))))
    (and_right _ _ e)))

-- the same, from the parts of the test
pub formed-holdable : (L : ℕ) (ws : List ℕ) → Formed L ws → holdable L (read L ws) ≡ true
unfolding well_formed
formed-holdable L ws f = read-holdable L ws (and_both _ _ (shaped-by L ws f.shape) f.content)

-- a well-formed list of words is the words of exactly one content that a table can hold
pub exactly-one : (L : ℕ) (ws : List ℕ) → well_formed L ws ≡ true
    → (holdable L (read L ws) ≡ true) × (words L (read L ws) ≡ ws) × ((t : Table) → holdable L t ≡ true → words L t ≡ ws → t ≡ read L ws)
unfolding well_formed
exactly-one L ws e = (
  read-holdable L ws e,
  words-read L ws (shaped_of L ws (and_left _ _ e)),
  λ t h q. sym (read-words L t h) ∙ ap (read L) q,
)
