-- The test of a table in the code's order: what each step of it says of the whole. Assumes nothing.
use Rattle.std.specs.Prelude.{Option, Some, None, is_some}
use mathlib.Core.Path.{◌≡◌, sym, ap, ◌∙◌}
use mathlib.Core.Bool.{Bool, true, false, not}
use mathlib.Core.List.{List}
use Prim.Native.Nat.{ℕ, ◌+◌, ◌-◌, ◌*◌, ◌%◌, ◌≤◌, ◌<◌}
use native.Mathlib.Nat.{mod-lt}
use native.Mathlib.Omega.{arith}
use lib.Dec.{lit<}
use lib.ListN.{length, get_or, take, drop, length-take}
use borrow.Author.Tests.{not-true, not-false, lt-ltb, le-ltb, le-leb, lt-leb, eq-eqb, ne_eqb}
use Rattle.lists.specs.Tests.{◌and◌, every}
use Rattle.lists.specs.Lists.{all, zeros, is_below, Ascending}
use Rattle.lists.proofs.All.{all-ext}
use Rattle.lists.proofs.Every.{all-tab, every-ext}
use Rattle.lists.proofs.Parts.{part_count, part-tail}
use Rattle.lists.proofs.Tab.{length-tab, getD-tab}
use Rattle.lists.proofs.Memb.{memb-getD}
use Rattle.lists.proofs.Ascend.{climbs, climbs-is}
use Rattle.layout.specs.Content.{is_live, numbered, members_live, valid, position}
use Rattle.layout.specs.Layout.{limit, vertex_limit, hyperedge_limit, vertex_size, record_size, vertices_at, hyperedges_at, size, vertex_word, hyperedge_word, next_vertex_in, next_hyperedge_in, vertex_count, hyperedge_count, count_at, members_at, hyperedge_at, read}
use Rattle.layout.specs.WellFormed.{record_shaped, unused_vertices, unused_hyperedges, shaped, well_formed}
use Rattle.layout.specs.Inner.{Shaped, column, vertex_column}
use Rattle.layout.proofs.Position.{found-live, missing-dead, dense-live}
use Rattle.layout.proofs.Shape.{shaped_of}
use Rattle.layout.proofs.Read.{live-vertices, live-hyperedges, numbered-ascends, numbered_below}
use Rattle.formed.specs.Records.{record_live, record_below}

pub climbs-numbered : (xs : List ℕ) (next : ℕ) → climbs 0 xs next ≡ numbered xs next
unfolding numbered
climbs-numbered xs next = climbs-is xs next

pub numbered-when : (xs : List ℕ) (next : ℕ) (a : Bool) → a ≡ numbered xs next → not a ≡ false → numbered xs next ≡ true
numbered-when xs next a e h = sym e ∙ not-false a h

-- ---- a record's count k

module _ (L : ℕ) (ws : List ℕ) (j k : ℕ) (e : k ≡ count_at L ws j) where
  pub record-low : k ≤ 0 → false ≡ record_shaped L ws j
  unfolding record_shaped ◌and◌
  record-low h = rw (← e, le-ltb 0 k h)

  pub record-high : 0 < k → L < k → false ≡ record_shaped L ws j
  unfolding record_shaped ◌and◌
  record-high h l = rw (← e, lt-ltb 0 k h, lt-leb k L l)

  pub record-all : (b : Bool) (a : ℕ) → 0 < k → k ≤ L → a ≡ hyperedge_word L j + 3 + k → b ≡ zeros (take (a + (L - k) - a) (drop a ws)) → b ≡ record_shaped L ws j
  unfolding record_shaped ◌and◌
  record-all b a h l s q = rw (← e, lt-ltb 0 k h, le-leb k L l, ← s) (q ∙ ap zeros (part_count a (L - k) ws))

-- ---- the unused records' words, as the code's parts

pub vertices-are : (ws : List ℕ) (n : ℕ) (r : Bool) → n ≡ vertex_count ws → r ≡ zeros (take (hyperedges_at - vertex_word n) (drop (vertex_word n) ws)) → r ≡ unused_vertices ws
unfolding unused_vertices
vertices-are ws n r e q = q ∙ rw e

pub hyperedges-are : (L : ℕ) (ws : List ℕ) (m : ℕ) (r : Bool) → m ≡ hyperedge_count ws
    → r ≡ zeros (take (length ws - hyperedge_word L m) (drop (hyperedge_word L m) ws)) → r ≡ unused_hyperedges L ws
unfolding unused_hyperedges
hyperedges-are L ws m r e q = q ∙ rw (part-tail, e)

-- ---- the words: u and v are what was found of the unused records, and the code tested `!u` and `!v`

pub unsized : (L : ℕ) (ws : List ℕ) → (length ws ≡ size L → ⊥) → false ≡ shaped L ws
unfolding shaped ◌and◌
unsized L ws h = rw (ne_eqb _ _ h)

module _ (L : ℕ) (ws : List ℕ) (n m : ℕ) (en : n ≡ vertex_count ws) (em : m ≡ hyperedge_count ws) (len : length ws ≡ size L) where
  pub vertices-over : vertex_limit < n → false ≡ shaped L ws
  unfolding shaped ◌and◌
  vertices-over h = rw (← en, eq-eqb _ _ len, lt-leb _ _ h)

  module _ (hn : n ≤ vertex_limit) where
    pub hyperedges-over : hyperedge_limit < m → false ≡ shaped L ws
    unfolding shaped ◌and◌
    hyperedges-over h = rw (← en, ← em, eq-eqb _ _ len, le-leb _ _ hn, lt-leb _ _ h)

    module _ (hm : m ≤ hyperedge_limit) (u : Bool) (eu : u ≡ unused_vertices ws) where
      pub vertices-used : not u ≡ true → false ≡ shaped L ws
      unfolding shaped ◌and◌
      vertices-used h = rw (← en, ← em, eq-eqb _ _ len, le-leb _ _ hn, le-leb _ _ hm, ← eu, not-true u h)

      module _ (hu : not u ≡ false) (v : Bool) (ev : v ≡ unused_hyperedges L ws) where
        pub hyperedges-used : not v ≡ true → false ≡ shaped L ws
        unfolding shaped ◌and◌
        hyperedges-used h = rw (← en, ← em, eq-eqb _ _ len, le-leb _ _ hn, le-leb _ _ hm, ← eu, not-false u hu, ← ev, not-true v h)

        pub records-last : (b : Bool) → not v ≡ false → b ≡ every (record_shaped L ws) m → b ≡ shaped L ws
        unfolding shaped ◌and◌
        records-last b h e = rw (← en, ← em, eq-eqb _ _ len, le-leb _ _ hn, le-leb _ _ hm, ← eu, not-false u hu, ← ev, not-false v h) e

-- m is what `hyperedge_count` found
pub shaped-records : (L : ℕ) (ws : List ℕ) (m : ℕ) → Shaped L ws → m ≡ hyperedge_count ws → every (record_shaped L ws) m ≡ true
shaped-records L ws m s e = rw e s.records

-- ---- a member

-- where a guessed eighth begins
pub eighth-low : (e : ℕ) → e % 8 * 32 ≤ 224
eighth-low e = let h : e % 8 < 8 = mod-lt e (lit< tt) in omega arith

-- the hint's place has the number
pub hint-live : (ws : List ℕ) (n p x y : ℕ) → y ≡ get_or ws (vertex_word p) 0 → p < n → y ≡ x → true ≡ is_live (column ws vertices_at vertex_size n) x
hint-live ws n p x y e h q =
    sym (rw (← q, e, ← getD-tab (λ (i : ℕ). get_or ws (vertex_word i) 0) n p 0 h)
    (memb-getD (column ws vertices_at vertex_size n) p (rw length-tab h)))

-- ms is what `members` returned
pub members-few : (ws ms : List ℕ) (j : ℕ) → ms ≡ members_at limit ws j → count_at limit ws j ≤ limit → length ms ≤ vertex_limit
members-few ws ms j e h = rw (e, length-take) (omega arith)

pub members-are : (L : ℕ) (live ws ms : List ℕ) (j : ℕ) → ms ≡ members_at L ws j → all (is_live live) ms ≡ record_live L live ws j
unfolding record_live members_live
members-are L live ws ms j e = rw e

pub members-below-are : (L n : ℕ) (ws ms : List ℕ) (j : ℕ) (r : Bool) → ms ≡ members_at L ws j → r ≡ all (is_below n) ms → r ≡ record_below L n ws j
unfolding record_below
members-below-are L n ws ms j r e q = q ∙ rw e

-- as many vertices live as numbers were given: the live ones are those below their count
module _ (L : ℕ) (ws : List ℕ) (n m : ℕ) (en : n ≡ vertex_count ws) (num : numbered (column ws vertices_at vertex_size n) (next_vertex_in ws) ≡ true) where
  pub vertices-rise : Ascending (column ws vertices_at vertex_size n)
  vertices-rise = numbered-ascends _ _ num

  pub members-dense : (r : Bool) → next_vertex_in ws ≡ vertex_count ws → r ≡ every (record_below L (vertex_count ws) ws) m → r ≡ every (record_live L (column ws vertices_at vertex_size n) ws) m
  unfolding record_below record_live members_live
  members-dense r d q =
      let len : length (column ws vertices_at vertex_size n) ≡ vertex_count ws = length-tab _ n ∙ en in
      let live : (x : ℕ) → is_below (vertex_count ws) x ≡ is_live (column ws vertices_at vertex_size n) x =
      λ x. sym (dense-live x (column ws vertices_at vertex_size n) vertices-rise (λ i l. rw (len, ← d) (numbered_below _ _ num i l)) ∙ ap (λ (k : ℕ). is_below k x) len) in
      q ∙ every-ext _ _ m (λ j l. all-ext _ _ (members_at L ws j) live)

-- ---- the content: a and b are what was found of the two kinds' numbers, and the code tested `!a` and `!b`

module _ (L : ℕ) (ws : List ℕ) (n m : ℕ) (en : n ≡ vertex_count ws) (em : m ≡ hyperedge_count ws) where
  valid-read : valid (read L ws)
      ≡ (numbered (column ws vertices_at vertex_size n) (next_vertex_in ws)
      and (numbered (column ws hyperedges_at (record_size L) m) (next_hyperedge_in ws) and every (record_live L (column ws vertices_at vertex_size n) ws) m))
  unfolding valid record_live
  valid-read = rw (en, em, live-vertices L ws, live-hyperedges L ws, all-tab (members_live (vertex_column ws)) (hyperedge_at L ws) (hyperedge_count ws))

  module _ (a : Bool) (ea : a ≡ numbered (column ws vertices_at vertex_size n) (next_vertex_in ws)) where
    pub vertices-fall : not a ≡ true → false ≡ valid (read L ws)
    unfolding ◌and◌
    vertices-fall h = rw (valid-read, ← ea, not-true a h)

    module _ (ha : not a ≡ false) (b : Bool) (eb : b ≡ numbered (column ws hyperedges_at (record_size L) m) (next_hyperedge_in ws)) where
      pub hyperedges-fall : not b ≡ true → false ≡ valid (read L ws)
      unfolding ◌and◌
      hyperedges-fall h = rw (valid-read, ← ea, not-false a ha, ← eb, not-true b h)

      pub members-last : (r : Bool) → not b ≡ false → r ≡ every (record_live L (column ws vertices_at vertex_size n) ws) m → r ≡ valid (read L ws)
      unfolding ◌and◌
      members-last r h q = rw (valid-read, ← ea, not-false a ha, ← eb, not-false b h) q

-- ---- both: s is what was found of the words, and the code tested `!s`

module _ (L : ℕ) (ws : List ℕ) (s : Bool) (e : s ≡ shaped L ws) where
  pub unformed-by : not s ≡ true → false ≡ well_formed L ws
  unfolding well_formed ◌and◌
  unformed-by h = rw (← e, not-true s h)

  pub shaped-when : not s ≡ false → Shaped L ws
  shaped-when h = shaped_of L ws (sym e ∙ not-false s h)

  pub formed-when : (b : Bool) → not s ≡ false → b ≡ valid (read L ws) → b ≡ well_formed L ws
  unfolding well_formed ◌and◌
  formed-when b h q = rw (← e, not-false s h) q
