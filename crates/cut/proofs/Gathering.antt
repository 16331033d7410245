-- The matrix of co-membership while the lists are gone through: one pair more, one list more, all lists. Assumes nothing.
use Rattle.std.specs.Prelude.{Option, Some, None, unwrap_or}
use mathlib.Core.Path.{◌≡◌, refl, sym, ap, ap₂, ◌∙◌, subst}
use mathlib.Core.Bool.{Bool, true, false, ◌||◌, or_assoc}
use mathlib.Core.List.{List, [], ◌∷◌, ◌++◌, map}
use Prim.Native.Nat.{ℕ, ◌+◌, ◌*◌, ◌≤◌, ◌<◌}
use native.Mathlib.Nat.{le_antisymm}
use native.Mathlib.Numerals.{add-one}
use native.Mathlib.Omega.{arith}
use lib.Dec.{eqb}
use lib.ListN.{length, get_or, take, set, replicate, length-set, length-take}
use lib.Seq.{take_all, take-suc, take-suc-set, get_or-take}
use mir.Syntax.{w32}
use mir.Val.{Fits}
use borrow.Author.Tests.{eq-eqb, ne_eqb}
use Rattle.lists.specs.Tests.{◌and◌}
use Rattle.lists.specs.Lists.{all, any, memb, Ascending}
use Rattle.lists.specs.Inner.{Below}
use Rattle.lists.proofs.Cases.{on_same, and_left, and_right, and-false-right, or-false}
use Rattle.lists.proofs.Maps.{map-length, map_snoc}
use Rattle.lists.proofs.Tab.{length-tab, getD-tab}
use Rattle.lists.proofs.All.{all_of}
use Rattle.lists.proofs.Memb.{memb-at, memb-getD, below-memb}
use Rattle.lists.proofs.Ascend.{ascending-apart}
use Rattle.layout.specs.Content.{live_vertices, is_live, position, place}
use Rattle.layout.specs.Layout.{limit, vertex_limit, vertex_count, hyperedge_count, hyperedge_at, members_at, read_hyperedges, read}
use Rattle.layout.specs.Inner.{Formed}
use Rattle.layout.proofs.Position.{position_here}
use Rattle.layout.proofs.Read.{live-length, live-ascends, members-le, vertex-found}
use Rattle.steps.specs.Matrices.{together, lists_both, number_of, between}
use Rattle.steps.specs.Inner.{cell, Holds}
use Rattle.lists.proofs.Any.{any-more}
use Rattle.steps.proofs.Holds.{holds-ext, holds-none, holds-set}
use Rattle.steps.proofs.Members.{members-live}
use Rattle.cut.specs.Cut.{record_of}
use Rattle.cut.specs.State.{together_between, first_together, Gathered, Places, with_row, with_pairs}

-- ---- the record of a live vertex: p is what `find_vertex` found

-- r is what `unwrap_or` made of p
pub record-is : (live : List ℕ) (x : ℕ) (p : Option ℕ) → p ≡ position x live → (r : ℕ) → r ≡ unwrap_or p 0 → r ≡ record_of live x
unfolding record_of
record-is live x (Some i) e r q = rw (← e) q
record-is live x None e r q = rw (← e) q

record-small : (ws : List ℕ) → Formed limit ws → (x r : ℕ) → r ≡ record_of (live_vertices (read limit ws)) x → r < vertex_limit
unfolding record_of
record-small ws f x r e = rw e (go (position x (live_vertices (read limit ws))) refl)
  where
    go : (p : Option ℕ) → position x (live_vertices (read limit ws)) ≡ p → place p < vertex_limit
    go (Some i) h = omega (arith, (vertex-found limit ws x i h).0, f.shape.vertices-le)
    go None h = omega arith

pub record-fits : (ws : List ℕ) → Formed limit ws → (x r : ℕ) → r ≡ record_of (live_vertices (read limit ws)) x → Fits w32 r
record-fits ws f x r e = omega (arith, record-small ws f x r e)

module _ (live : List ℕ) (asc : Ascending live) where
  pub record-at : (x : ℕ) → is_live live x ≡ true → (record_of live x < length live) × (get_or live (record_of live x) 0 ≡ x)
  unfolding record_of
  record-at x e =
      let r = memb-at x live e in
      rw (← position_here x live r.0 asc r.1 r.2) (r.1, r.2)

  -- the records of a list's members: those whose numbers are in the list
  same-record : (x i : ℕ) → is_live live x ≡ true → i < length live → eqb i (record_of live x) ≡ eqb (get_or live i 0) x
  same-record x i e h =
      let r = record-at x e in
      on_same i (record_of live x)
      (λ q. eq-eqb i (record_of live x) q ∙ sym (eq-eqb (get_or live i 0) x (ap (λ (k : ℕ). get_or live k 0) q ∙ r.1)))
      (λ q. ne_eqb i (record_of live x) q ∙ sym (ne_eqb (get_or live i 0) x (λ w. ascending-apart live asc i (record_of live x) h r.0 q (w ∙ sym r.1))))

  member-record : (ms : List ℕ) → all (is_live live) ms ≡ true → (i : ℕ) → i < length live → memb i (map (record_of live) ms) ≡ memb (get_or live i 0) ms
  unfolding all
  member-record [] e i h = refl
  member-record (x ∷ ms) e i h = ap₂ ◌||◌ (same-record x i (and_left _ _ e) h) (member-record ms (and_right _ _ e) i h)

  records-below : (ms : List ℕ) → all (is_live live) ms ≡ true → Below (length live) (map (record_of live) ms)
  unfolding all
  records-below [] e = tt
  records-below (x ∷ ms) e = ((record-at x (and_left _ _ e)).0, records-below ms (and_right _ _ e))

-- ---- the places of a list's members: ms is what `members_formed` found of record j

module _ (ws : List ℕ) (f : Formed limit ws) (j : ℕ) (h : j < hyperedge_count ws) (ms : List ℕ) (e : ms ≡ members_at limit ws j) where
  pub members-short : length ms ≤ limit
  members-short = rw e (members-le limit ws f j h)

  pub place_in : (i : ℕ) → i < length ms → i < limit
  place_in i l = omega (arith, members-short)

  members-all : all (is_live (live_vertices (read limit ws))) ms ≡ true
  members-all = all_of (is_live (live_vertices (read limit ws))) ms 0 (members-live limit ws f j h ms e)

-- the records of the first i members stand in their places
pub record Placing (live ms : List ℕ) (i : ℕ) (places : List ℕ) : Type 0 where
  pub within : i ≤ length ms
  pub long : length places ≡ limit
  pub first : take i places ≡ map (record_of live) (take i ms)

pub placing-none : (live ms places : List ℕ) → length places ≡ limit → Placing live ms 0 places
placing-none live ms places e = record { within = omega arith; long = e; first = refl }

pub placing-more : {live ms : List ℕ} {i : ℕ} {places : List ℕ} → Placing live ms i places → length ms ≤ limit → (x : ℕ) (next : List ℕ) → i < length ms
    → x ≡ record_of live (get_or ms i 0) → next ≡ set places i x → Placing live ms (i + 1) next
placing-more {live} {ms} {i} {places} p s x next l ex en = record {
  within = omega arith;
  long = rw (en, length-set) p.long;
  first = rw (en, add-one i, take-suc-set places i x (omega (arith, p.long)), p.first, take-suc ms i 0 l, map_snoc, ex);
}

pub placing-end : (ws : List ℕ) → Formed limit ws → (j : ℕ) → j < hyperedge_count ws → (ms : List ℕ) → ms ≡ members_at limit ws j → (i : ℕ) (places : List ℕ)
    → Placing (live_vertices (read limit ws)) ms i places → length ms ≤ i
    → Places (vertex_count ws) (length ms) places (map (record_of (live_vertices (read limit ws))) (members_at limit ws j))
placing-end ws f j h ms e i places p l =
    let live : List ℕ = live_vertices (read limit ws) in
    let s : i ≡ length ms = le_antisymm p.within l in
    subst (λ (k : List ℕ). Places (vertex_count ws) (length ms) places (map (record_of live) k)) e
    (record {
      first = ap (λ (c : ℕ). take c places) (sym s) ∙ p.first ∙ ap (map (record_of live)) (take_all i ms l);
      count = sym (map-length (record_of live) ms);
      short = members-short ws f j h ms e;
      below = subst (λ (n : ℕ). Below n (map (record_of live) ms)) (live-length limit ws) (records-below live (live-ascends limit ws f) ms (members-all ws f j h ms e));
    })

-- ---- pairs of places

module _ {n c : ℕ} {places : List ℕ} (p : Places n c places (take c places)) where
  places-long : c ≤ length places
  places-long = let e : c ≡ length (take c places) = p.count in omega (arith, length-take c places)

  pub places-at : (i : ℕ) → i < c → get_or places i 0 < n
  places-at i h =
      subst (λ (x : ℕ). x < n) (get_or-take c places i 0 h) (below-memb n (take c places) p.below (get_or (take c places) i 0) (memb-getD (take c places) i (omega (arith, p.count))))

  take_more : (i : ℕ) → i < c → take (i + 1) places ≡ take i places ++ (get_or places i 0 ∷ [])
  take_more i h = rw (add-one i) (take-suc places i 0 (omega (arith, places-long)))

row_snoc : (a : ℕ) (bs : List ℕ) (b : ℕ) (m : List ℕ) → with_row a (bs ++ (b ∷ [])) m ≡ set (with_row a bs m) (cell a b) 1
unfolding with_row
row_snoc a [] b m = refl
row_snoc a (x ∷ bs) b m = row_snoc a bs b (set m (cell a x) 1)

pairs-snoc : (xs : List ℕ) (a : ℕ) (bs m : List ℕ) → with_pairs (xs ++ (a ∷ [])) bs m ≡ with_row a bs (with_pairs xs bs m)
unfolding with_pairs
pairs-snoc [] a bs m = refl
pairs-snoc (x ∷ xs) a bs m = pairs-snoc xs a bs (with_row x bs m)

pub row-none : (a : ℕ) (m : List ℕ) → m ≡ with_row a [] m
unfolding with_row
row-none a m = refl

pub pairs-none : (bs m : List ℕ) → m ≡ with_pairs [] bs m
unfolding with_pairs
pairs-none bs m = refl

module _ {n c : ℕ} {places : List ℕ} (p : Places n c places (take c places)) (i : ℕ) (m₀ m next : List ℕ) where
  pub row_more : (a : ℕ) → m ≡ with_row a (take i places) m₀ → i < c → next ≡ set m (cell a (get_or places i 0)) 1 → next ≡ with_row a (take (i + 1) places) m₀
  row_more a e h q = rw (q, e, take_more p i h) (sym (row_snoc a (take i places) (get_or places i 0) m₀))

  pub pairs-more : (bs : List ℕ) → m ≡ with_pairs (take i places) bs m₀ → i < c → next ≡ with_row (get_or places i 0) bs m → next ≡ with_pairs (take (i + 1) places) bs m₀
  pairs-more bs e h q = rw (q, e, take_more p i h) (sym (pairs-snoc (take i places) (get_or places i 0) bs m₀))

-- the loops' ends
pub row-end : (a i c : ℕ) (places m₀ m : List ℕ) → m ≡ with_row a (take i places) m₀ → i ≤ c → c ≤ i → m ≡ with_row a (take c places) m₀
row-end a i c places m₀ m e l r = e ∙ ap (λ (k : ℕ). with_row a (take k places) m₀) (le_antisymm l r)

pub pairs_end : (i c : ℕ) (places bs m₀ m : List ℕ) → m ≡ with_pairs (take i places) bs m₀ → i ≤ c → c ≤ i → m ≡ with_pairs (take c places) bs m₀
pairs_end i c places bs m₀ m e l r = e ∙ ap (λ (k : ℕ). with_pairs (take k places) bs m₀) (le_antisymm l r)

-- ---- what the matrix then holds

one_more_lem : (p a b c : Bool) → ((p || (a and b)) || (a and c)) ≡ (p || (a and (b || c)))
unfolding ◌and◌
one_more_lem p true b c = or_assoc p b c
one_more_lem p false b c = or-false (p || false)

row-joins : (p a b c : Bool) → ((p || (a and c)) || (b and c)) ≡ (p || ((a || b) and c))
unfolding ◌and◌
row-joins true a b c = refl
row-joins false true true true = refl
row-joins false true true false = refl
row-joins false true false true = refl
row-joins false true false false = refl
row-joins false false b c = refl

module _ {n : ℕ} (le : n ≤ vertex_limit) where
  row-holds : (a : ℕ) → a < n → (bs : List ℕ) → Below n bs → {E : ℕ → ℕ → Bool} {m : List ℕ} → Holds E n m → Holds (λ i j. E i j || (eqb i a and memb j bs)) n (with_row a bs m)
  unfolding with_row
  row-holds a la [] bl {E} w = holds-ext (λ i j _ _. sym (rw (and-false-right (eqb i a) false refl) (or-false (E i j)))) w
  row-holds a la (b ∷ bs) bl {E} w =
      holds-ext (λ i j _ _. one_more_lem (E i j) (eqb i a) (eqb j b) (memb j bs))
      (row-holds a la bs bl.1 (holds-set w {F = λ i j. E i j || (eqb i a and eqb j b)} a b le la bl.0 (λ i j _ _. refl)))

  pairs-holds : (xs : List ℕ) → Below n xs → (bs : List ℕ) → Below n bs → {E : ℕ → ℕ → Bool} {m : List ℕ} → Holds E n m → Holds (λ i j. E i j || (memb i xs and memb j bs)) n (with_pairs xs bs m)
  unfolding with_pairs ◌and◌
  pairs-holds [] xl bs bl {E} w = holds-ext (λ i j _ _. sym (or-false (E i j))) w
  pairs-holds (a ∷ xs) xl bs bl {E} w =
      holds-ext (λ i j _ _. row-joins (E i j) (eqb i a) (memb i xs) (memb j bs)) (pairs-holds xs xl.1 bs bl (row-holds a xl.0 bs bl w))

-- one list more
pub gathered-more : (ws : List ℕ) → Formed limit ws → (j : ℕ) → j < hyperedge_count ws → (m : List ℕ) → Gathered ws j m → (c : ℕ) (places : List ℕ)
    → Places (vertex_count ws) c places (map (record_of (live_vertices (read limit ws))) (members_at limit ws j))
    → (next : List ℕ) → next ≡ with_pairs (take c places) (take c places) m → Gathered ws (j + 1) next
unfolding first_together lists_both
gathered-more ws f j h m w c places p next e =
    let live : List ℕ = live_vertices (read limit ws) in
    let ms : List ℕ = members_at limit ws j in
    let len : length live ≡ vertex_count ws = live-length limit ws in
    let in_list : (i : ℕ) → i < vertex_count ws → memb i (map (record_of live) ms) ≡ memb (get_or live i 0) ms =
    λ i l. member-record live (live-ascends limit ws f) ms (members-all ws f j h ms refl) i (rw len l) in
    rw (e, p.first)
    (holds-ext
    (λ i k li lk.
    ap (λ (b : Bool). first_together (read limit ws) j (get_or live i 0) (get_or live k 0) || b) (ap₂ ◌and◌ (in_list i li) (in_list k lk))
    ∙ sym (any-more (lists_both (get_or live i 0) (get_or live k 0)) (read_hyperedges limit ws) j (hyperedge_at limit ws j) (rw length-tab h)
    ∙ ap (λ (b : Bool). any (lists_both (get_or live i 0) (get_or live k 0)) (take j (read_hyperedges limit ws)) || b)
    (ap (lists_both (get_or live i 0) (get_or live k 0)) (getD-tab (hyperedge_at limit ws) (hyperedge_count ws) j (hyperedge_at limit ws j) h))))
    (pairs-holds f.shape.vertices-le (map (record_of live) ms) p.below (map (record_of live) ms) p.below w))

-- the places as the code lends them
pub places-lent : (ws : List ℕ) → Formed limit ws → (c : ℕ) (places l : List ℕ) → Places (vertex_count ws) c places l → Places vertex_limit c places (take c places)
places-lent ws f c places l p = record {
  first = refl;
  count = p.count ∙ ap length (sym p.first);
  short = p.short;
  below = rw p.first (wider l p.below);
}
  where
    wider : (xs : List ℕ) → Below (vertex_count ws) xs → Below vertex_limit xs
    wider [] b = tt
    wider (x ∷ xs) b = (omega (arith, b.0, f.shape.vertices-le), wider xs b.1)

-- ---- all lists: k is what `hyperedge_count` found

pub gathered_none : (ws : List ℕ) → Gathered ws 0 (replicate (vertex_limit * vertex_limit) 0)
unfolding first_together any
gathered_none ws = holds-none (between (read limit ws) (first_together (read limit ws) 0)) (vertex_count ws) (λ i j. refl)

pub gathered-end : (ws : List ℕ) (j k : ℕ) (m : List ℕ) → Gathered ws j m → k ≡ hyperedge_count ws → j ≤ k → k ≤ j → Gathered ws (hyperedge_count ws) m
gathered-end ws j k m w e a b = subst (λ (i : ℕ). Gathered ws i m) (le_antisymm a b ∙ e) w

pub gathered-all : (ws m : List ℕ) → Gathered ws (hyperedge_count ws) m → Holds (together_between (read limit ws)) (vertex_count ws) m
unfolding first_together together
gathered-all ws m w =
    holds-ext (λ i j _ _. ap (any (lists_both (number_of (read limit ws) i) (number_of (read limit ws) j))) (take_all (hyperedge_count ws) (read_hyperedges limit ws) (rw length-tab (omega arith)))) w
