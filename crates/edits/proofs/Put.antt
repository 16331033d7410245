-- A hyperedge put into a record of a table: the words are those of the content with it. Assumes nothing.
use mathlib.Core.Path.{◌≡◌, sym, ap, ◌∙◌}
use mathlib.Core.Bool.{true}
use mathlib.Core.List.{List, [], ◌∷◌}
use Prim.Native.Nat.{ℕ, suc, ◌+◌, ◌-◌, ◌≤◌, ◌<◌}
use native.Mathlib.Nat.{mul-le-mul_right, add-zero, add_assoc}
use native.Mathlib.Omega.{arith}
use lib.ListN.{length, get_or, set, take, drop, length-set, length-drop, get_or-eq_default}
use lib.Seq.{get_or-set_same, get_or-set_other, get_or-append-add, length-take-le, ext_get_or}
use borrow.Author.Tests.{lt-ltb, le-leb}
use Rattle.lists.specs.Lists.{tab, pad}
use Rattle.lists.specs.Inner.{over_at}
use Rattle.lists.proofs.Cases.{on_same, on_below, and_both}
use Rattle.lists.proofs.Tab.{tab-ext}
use Rattle.lists.proofs.Every.{every_of}
use Rattle.lists.proofs.Parts.{part_at, part-tail}
use Rattle.lists.proofs.Flat.{zero-end, length-pad, zeros-part-of}
use Rattle.layout.specs.Content.{Hyperedge}
use Rattle.layout.specs.Layout.{hyperedge_limit, record_size, vertices_at, hyperedges_at, hyperedge_word, vertex_count, hyperedge_count, members_at, hyperedge_at, read_vertices, hyperedge_words, words}
use Rattle.layout.specs.WellFormed.{record_shaped, unused_hyperedges}
use Rattle.layout.specs.Inner.{Shaped, Formed}
use Rattle.layout.proofs.Words.{words_of}
use Rattle.edits.specs.Records.{put_hyperedge}
use Rattle.lists.proofs.OverAt.{length-over-at, over-at-before, over-at-in, over-at-after}
use Rattle.edits.proofs.Unchanged.{hyperedge-unused, record-within, hyperedge-kept, record-kept, vertices-kept, vertices-rest-kept}

-- ---- a record that has the words of e holds e

module _ (L : ℕ) (E : List ℕ) (j : ℕ) (e : Hyperedge) (le : length e.members ≤ L) (room : hyperedge_word L j + record_size L ≤ length E)
    (word : (r : ℕ) → r < record_size L → get_or E (hyperedge_word L j + r) 0 ≡ get_or (hyperedge_words L e) r 0) where
  member : (i : ℕ) → i < L → get_or E (hyperedge_word L j + 3 + i) 0 ≡ get_or e.members i 0
  member i l =
      ap (λ (p : ℕ). get_or E p 0) (add_assoc (hyperedge_word L j) 3 i) ∙ word (3 + i) (omega arith)
      ∙ get_or-append-add (e.number ∷ e.weight ∷ length e.members ∷ []) (pad L e.members) i 0
      ∙ zero-end e.members (L - length e.members) i

  holds-members : members_at L E j ≡ e.members
  holds-members =
      let ms : List ℕ = e.members in
      let n : length (take (length ms) (drop (hyperedge_word L j + 3) E)) ≡ length ms =
      length-take-le (length ms) (drop (hyperedge_word L j + 3) E) (rw length-drop (omega arith)) in
      ap (λ (c : ℕ). take c (drop (hyperedge_word L j + 3) E)) (word 2 (omega arith))
      ∙ ext_get_or 0 (take (length ms) (drop (hyperedge_word L j + 3) E)) ms n (λ i l.
      let l' : i < length ms = rw n at l in
      part_at E (hyperedge_word L j + 3) (length ms) i l' ∙ member i (omega arith))

  pub record-holds : hyperedge_at L E j ≡ e
  record-holds = rw (
    ap (λ (p : ℕ). get_or E p 0) (sym (add-zero (hyperedge_word L j))) ∙ word 0 (omega arith),
    word 1 (omega arith),
    holds-members,
  )

  pub record-is-shaped : 0 < length e.members → record_shaped L E j ≡ true
  unfolding record_shaped
  record-is-shaped pos =
      let c : ℕ = length e.members in
      let a : ℕ = hyperedge_word L j + 3 in
      rw (word 2 (omega arith)) (and_both _ _ (lt-ltb 0 c pos) (and_both _ _ (le-leb c L le)
      (zeros-part-of E (a + c) (L - c) (omega arith) (λ p u v.
      let q : a + (p - a) ≡ p = omega arith in
      ap (λ (i : ℕ). get_or E i 0) (sym q) ∙ member (p - a) (omega arith) ∙ get_or-eq_default e.members 0 {n = p - a} (omega arith)))))

-- ---- e in record j of m: each other record that is used afterwards was used before

module _ (L : ℕ) (ws : List ℕ) (j : ℕ) (e : Hyperedge) (x m : ℕ) (f : Formed L ws) (pos : 0 < length e.members) (le : length e.members ≤ L)
    (hj : j < m) (hm : m ≤ hyperedge_limit) (more : hyperedge_count ws ≤ m) (others : (i : ℕ) → i < m → (i ≡ j → ⊥) → i < hyperedge_count ws) where
  B : List ℕ
  B = over_at (hyperedge_word L j) (hyperedge_words L e) ws

  E : List ℕ
  E = set (set B 1 x) 3 m

  width : length (hyperedge_words L e) ≡ record_size L
  width = omega (arith, length-pad L e.members le)

  room : hyperedge_word L j + length (hyperedge_words L e) ≤ length ws
  room = rw width (record-within L ws f.shape j (omega arith))

  len-B : length B ≡ length ws
  unfolding B
  len-B = length-over-at (hyperedge_word L j) (hyperedge_words L e) ws room

  len : length E ≡ length ws
  unfolding E
  len = simp length-set len-B

  -- a word that is neither of the head nor of the record
  stored : (p : ℕ) → (p ≡ 1 → ⊥) → (p ≡ 3 → ⊥) → get_or E p 0 ≡ get_or B p 0
  unfolding E
  stored p a b = get_or-set_other (set B 1 x) 3 p m 0 b ∙ get_or-set_other B 1 p x 0 a

  before : (p : ℕ) → p < hyperedge_word L j → (p ≡ 1 → ⊥) → (p ≡ 3 → ⊥) → get_or E p 0 ≡ get_or ws p 0
  unfolding B
  before p h a b = stored p a b ∙ over-at-before (hyperedge_word L j) (hyperedge_words L e) ws room p h

  after : (p : ℕ) → hyperedge_word L j + record_size L ≤ p → get_or E p 0 ≡ get_or ws p 0
  unfolding B
  after p h = stored p (omega arith) (omega arith) ∙ over-at-after (hyperedge_word L j) (hyperedge_words L e) ws room p (rw width h)

  at_1 : get_or E 1 0 ≡ x
  unfolding E
  at_1 = get_or-set_other (set B 1 x) 3 1 m 0 (omega arith) ∙ get_or-set_same B 1 x 0 (omega (arith, len-B, f.shape.sized))

  at-3 : get_or E 3 0 ≡ m
  unfolding E
  at-3 = get_or-set_same (set B 1 x) 3 m 0 (rw length-set (omega (arith, len-B, f.shape.sized)))

  in-record : (r : ℕ) → r < record_size L → get_or E (hyperedge_word L j + r) 0 ≡ get_or (hyperedge_words L e) r 0
  unfolding B
  in-record r h =
      stored (hyperedge_word L j + r) (omega arith) (omega arith) ∙ over-at-in (hyperedge_word L j) (hyperedge_words L e) ws room r (rw width h)

  in-other : (i : ℕ) → (i ≡ j → ⊥) → (r : ℕ) → r < record_size L → get_or E (hyperedge_word L i + r) 0 ≡ get_or ws (hyperedge_word L i + r) 0
  in-other i ne r h = on_below i j
      (λ l. before (hyperedge_word L i + r) (omega (arith, mul-le-mul_right (record_size L) l)) (omega arith) (omega arith))
      (λ l. after (hyperedge_word L i + r) (omega (arith, mul-le-mul_right (record_size L) (above i ne l))))
    where
      above : (i : ℕ) → (i ≡ j → ⊥) → j ≤ i → suc j ≤ i
      above i ne l = on_below j i (λ g. g) (λ g. absurd (ne (omega arith)))

  end : hyperedge_word L j + record_size L ≤ length E
  end = omega (arith, len, width, room)

  put-here : hyperedge_at L E j ≡ e
  put-here = record-holds L E j e le end in-record

  put_other : (i : ℕ) → i < m → (i ≡ j → ⊥) → hyperedge_at L E i ≡ hyperedge_at L ws i
  put_other i h ne = hyperedge-kept L ws E f len i (others i h ne) (in-other i ne)

  put_record : (i : ℕ) → i < m → record_shaped L E i ≡ true
  put_record i h = on_same i j
      (λ q. rw q (record-is-shaped L E j e le end in-record pos))
      (λ ne. record-kept L ws E f len i (others i h ne) (in-other i ne))

  at-2 : vertex_count E ≡ vertex_count ws
  at-2 = before 2 (omega arith) (omega arith) (omega arith)

  vertex-same : (p : ℕ) → vertices_at ≤ p → p < hyperedges_at → get_or E p 0 ≡ get_or ws p 0
  vertex-same p a b = before p (omega arith) (omega arith) (omega arith)

  put_rest : unused_hyperedges L E ≡ true
  unfolding unused_hyperedges
  put_rest =
      let b : ℕ = hyperedge_word L m in
      let past : hyperedge_word L j + record_size L ≤ b = omega (arith, mul-le-mul_right (record_size L) hj) in
      let was : hyperedge_word L (hyperedge_count ws) ≤ b = omega (arith, mul-le-mul_right (record_size L) more) in
      let en : b ≤ length E = omega (arith, len, f.shape.sized, mul-le-mul_right (record_size L) hm) in
      rw (at-3, ← part-tail b E) (zeros-part-of E b (length E - b) (omega arith) (λ p u v.
      after p (omega arith) ∙ hyperedge-unused L ws f.shape p (omega arith) (omega (arith, len))))

  put-shaped : Shaped L E
  put-shaped = record {
    sized = len ∙ f.shape.sized;
    vertices-le = rw at-2 f.shape.vertices-le;
    hyperedges-le = rw at-3 hm;
    vertices-rest = vertices-rest-kept L ws E f len at-2 vertex-same;
    hyperedges-rest = put_rest;
    records = rw at-3 (every_of (record_shaped L E) m put_record);
  }

  -- the hyperedges afterwards, by a function that agrees with e at j and with what was there elsewhere
  pub put-words : (g : ℕ → Hyperedge) → ((i : ℕ) → i < m → i ≡ j → g i ≡ e) → ((i : ℕ) → i < m → (i ≡ j → ⊥) → g i ≡ hyperedge_at L ws i)
      → put_hyperedge L j e x m ws ≡ words L (record { next_vertex = get_or ws 0 0; next_hyperedge = x; vertices = read_vertices ws; hyperedges = tab g m })
  unfolding E B
  put-words g here there = words_of L E _ put-shaped (rw (
    before 0 (omega arith) (omega arith) (omega arith),
    at_1,
    vertices-kept L ws E f len at-2 vertex-same,
    at-3,
    tab-ext (hyperedge_at L E) g m (λ i h. on_same i j
        (λ q. ap (hyperedge_at L E) q ∙ put-here ∙ sym (here i h q))
        (λ ne. put_other i h ne ∙ sym (there i h ne))),
  ))
