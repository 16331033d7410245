-- The content after an addition or an update is one that a table can hold; a number is not given twice. Assumes nothing.
use mathlib.Core.Path.{◌≡◌, refl, ap₂, ◌∙◌}
use mathlib.Core.Bool.{Bool, true}
use mathlib.Core.List.{List, [], ◌∷◌, ◌++◌, map}
use Prim.Native.Nat.{ℕ, ◌+◌, ◌≤◌, ◌<◌}
use native.Mathlib.Omega.{arith}
use lib.Dec.{ltb, eqb}
use lib.ListN.{length, length-append}
use borrow.Author.Tests.{lt-ltb, le-leb, ltb-true}
use Rattle.lists.specs.Lists.{all, memb, is_below, ascending}
use Rattle.lists.proofs.Cases.{on, and_left, and_right, and_both}
use Rattle.lists.proofs.All.{all-at, all_snoc}
use Rattle.lists.proofs.Kept.{all_then}
use Rattle.lists.proofs.Maps.{map-length, map_snoc}
use Rattle.lists.proofs.Memb.{memb-left, memb-at}
use Rattle.layout.specs.Content.{Hyperedge, Table, vertex_number, hyperedge_number, live_vertices, live_hyperedges, is_live, numbered, members_live}
use Rattle.layout.specs.Layout.{vertex_limit, hyperedge_limit}
use Rattle.layout.specs.WellFormed.{count_fits, holdable}
use Rattle.layout.proofs.Holdable.{Holdable, holdable-of, holdable-by}
use Rattle.edits.specs.Edits.{add_vertex, add_hyperedge, with_members, update_hyperedge}

-- ---- tests of every element

all-kept : {A : Type 0} (f : A → Bool) (k : A → A) (xs : List A) → ((x : A) → f x ≡ true → f (k x) ≡ true) → all f xs ≡ true → all f (map k xs) ≡ true
unfolding all
all-kept f k [] h e = refl
all-kept f k (x ∷ xs) h e = and_both _ _ (h x (and_left _ _ e)) (all-kept f k xs h (and_right _ _ e))

all_more : {A : Type 0} (f : A → Bool) (xs : List A) (x : A) → all f xs ≡ true → f x ≡ true → all f (xs ++ (x ∷ [])) ≡ true
all_more f xs x e h = all_snoc f xs x ∙ and_both _ _ e h

-- ---- the next number comes last

ascending-more : (xs : List ℕ) (n : ℕ) → ascending xs ≡ true → all (is_below n) xs ≡ true → ascending (xs ++ (n ∷ [])) ≡ true
unfolding ascending all
ascending-more [] n a b = and_both true true refl refl
ascending-more (x ∷ xs) n a b =
    and_both _ _ (all_more (ltb x) xs n (and_left _ _ a) (and_left _ _ b)) (ascending-more xs n (and_right _ _ a) (and_right _ _ b))

pub numbered_more : (xs : List ℕ) (n : ℕ) → numbered xs n ≡ true → numbered (xs ++ (n ∷ [])) (n + 1) ≡ true
unfolding numbered
numbered_more xs n e =
    and_both _ _ (ascending-more xs n (and_left _ _ e) (and_right _ _ e))
    (all_more (is_below (n + 1)) xs n (all_then (is_below n) (is_below (n + 1)) xs (λ x h. lt-ltb x (n + 1) (omega (arith, ltb-true x n h))) (and_right _ _ e)) (lt-ltb n (n + 1) (omega arith)))

length_more : {A : Type 0} (xs : List A) (x : A) (most : ℕ) → length xs < most → length (xs ++ (x ∷ [])) ≤ most
length_more xs x most h = rw (length-append xs (x ∷ [])) (omega arith)

-- a member list that passes 2, 6 and 3
list_counted : (L : ℕ) (e : Hyperedge) → 0 < length e.members → length e.members ≤ L → count_fits L e ≡ true
unfolding count_fits
list_counted L e pos le = and_both _ _ (lt-ltb 0 _ pos) (le-leb _ L le)

-- ---- add_vertex

pub add-vertex-live : (w : ℕ) (t : Table) → live_vertices (add_vertex w t) ≡ live_vertices t ++ (t.next_vertex ∷ [])
unfolding add_vertex
add-vertex-live w t = map_snoc vertex_number t.vertices (record { number = t.next_vertex; weight = w })

still-live : (live : List ℕ) (n : ℕ) (e : Hyperedge) → members_live live e ≡ true → members_live (live ++ (n ∷ [])) e ≡ true
unfolding members_live
still-live live n e h = all_then (is_live live) (is_live (live ++ (n ∷ []))) e.members (λ x m. memb-left x live (n ∷ []) m) h

pub add-vertex-holdable : (L w : ℕ) (t : Table) → holdable L t ≡ true → length t.vertices < vertex_limit → holdable L (add_vertex w t) ≡ true
unfolding add_vertex
add-vertex-holdable L w t h room =
    let p : Holdable L t = holdable-of h in
    holdable-by (record {
      vertices-le = length_more t.vertices (record { number = t.next_vertex; weight = w }) vertex_limit room;
      hyperedges-le = p.hyperedges-le;
      counts = p.counts;
      vertices-numbered = rw (add-vertex-live w t) (numbered_more (live_vertices t) t.next_vertex p.vertices-numbered);
      hyperedges-numbered = p.hyperedges-numbered;
      members-live = rw (add-vertex-live w t) (all_then (members_live (live_vertices t)) (members_live (live_vertices t ++ (t.next_vertex ∷ []))) t.hyperedges
          (still-live (live_vertices t) t.next_vertex) p.members-live);
    })

-- ---- add_hyperedge

pub add-hyperedge-live : (ms : List ℕ) (w : ℕ) (t : Table) → live_hyperedges (add_hyperedge ms w t) ≡ live_hyperedges t ++ (t.next_hyperedge ∷ [])
unfolding add_hyperedge
add-hyperedge-live ms w t = map_snoc hyperedge_number t.hyperedges (record { number = t.next_hyperedge; weight = w; members = ms })

-- ---- update_hyperedge_vertices

same_number : (x : ℕ) (ms : List ℕ) (e : Hyperedge) → (with_members x ms e).number ≡ e.number
unfolding with_members
same_number x ms e = on (eqb e.number x) (λ q. rw q) (λ q. rw q)

same_numbers : (x : ℕ) (ms : List ℕ) (es : List Hyperedge) → map hyperedge_number (map (with_members x ms) es) ≡ map hyperedge_number es
same_numbers x ms [] = refl
same_numbers x ms (e ∷ es) = ap₂ ◌∷◌ (same_number x ms e) (same_numbers x ms es)

pub update-live : (x : ℕ) (ms : List ℕ) (t : Table) → live_hyperedges (update_hyperedge x ms t) ≡ live_hyperedges t
unfolding update_hyperedge
update-live x ms t = same_numbers x ms t.hyperedges

-- what holds of each hyperedge with the new list
with-either : (f : Hyperedge → Bool) (x : ℕ) (ms : List ℕ) → ((e : Hyperedge) → f (record { number = e.number; weight = e.weight; members = ms }) ≡ true)
    → (e : Hyperedge) → f e ≡ true → f (with_members x ms e) ≡ true
unfolding with_members
with-either f x ms new e old = on (eqb e.number x) (λ q. rw q (new e)) (λ q. rw q old)

-- ---- a list that 2, 6 and 3 do not refuse

module _ (L : ℕ) (ms : List ℕ) (t : Table) (h : holdable L t ≡ true) (pos : 0 < length ms) (le : length ms ≤ L) (live : all (is_live (live_vertices t)) ms ≡ true) where
  pub add-hyperedge-holdable : (w : ℕ) → length t.hyperedges < hyperedge_limit → holdable L (add_hyperedge ms w t) ≡ true
  unfolding add_hyperedge members_live
  add-hyperedge-holdable w room =
      let p : Holdable L t = holdable-of h in
      let e : Hyperedge = record { number = t.next_hyperedge; weight = w; members = ms } in
      holdable-by (record {
        vertices-le = p.vertices-le;
        hyperedges-le = length_more t.hyperedges e hyperedge_limit room;
        counts = all_more (count_fits L) t.hyperedges e p.counts (list_counted L e pos le);
        vertices-numbered = p.vertices-numbered;
        hyperedges-numbered = rw (add-hyperedge-live ms w t) (numbered_more (live_hyperedges t) t.next_hyperedge p.hyperedges-numbered);
        members-live = all_more (members_live (live_vertices t)) t.hyperedges e p.members-live live;
      })

  -- a hyperedge's number stays, and what holds of one with the new list holds of it
  pub update-holdable : (x : ℕ) → holdable L (update_hyperedge x ms t) ≡ true
  unfolding update_hyperedge members_live
  update-holdable x =
      let p : Holdable L t = holdable-of h in
      holdable-by (record {
        vertices-le = p.vertices-le;
        hyperedges-le = rw map-length p.hyperedges-le;
        counts = all-kept (count_fits L) (with_members x ms) t.hyperedges (with-either (count_fits L) x ms (λ e. list_counted L _ pos le)) p.counts;
        vertices-numbered = p.vertices-numbered;
        hyperedges-numbered = rw (update-live x ms t) p.hyperedges-numbered;
        members-live = all-kept (members_live (live_vertices t)) (with_members x ms) t.hyperedges (with-either (members_live (live_vertices t)) x ms (λ e. live)) p.members-live;
      })

-- those that are numbered are below the next number
pub below_next : (numbers : List ℕ) (next : ℕ) → numbered numbers next ≡ true → (x : ℕ) → memb x numbers ≡ true → x < next
unfolding numbered
below_next numbers next e x m =
    let a = memb-at x numbers m in
    rw a.2 at (ltb-true _ next (all-at (is_below next) numbers a.0 0 (and_right _ _ e) a.1))
