-- Laws of the loops that count places by the record of a vertex: what is left to be counted, and what a place counts. Assumes nothing.
use Rattle.std.specs.Prelude.{Option, Some, None}
use mathlib.Core.Path.{◌≡◌, refl, sym, ap, ◌∙◌}
use mathlib.Core.Bool.{Bool, true, false, cond}
use mathlib.Core.List.{List, ◌∷◌, ◌++◌}
use Prim.Native.Nat.{ℕ, zero, suc, ◌+◌, ◌*◌, ◌≤◌, ◌<◌}
use native.Mathlib.Nat.{mul-le-mul_right}
use native.Mathlib.Omega.{arith}
use lib.Dec.{eqb}
use lib.ListN.{length, get_or, drop, set, replicate, length-set, length-replicate, get_or-replicate}
use lib.Seq.{get_or-set_same, get_or-set_other}
use borrow.Author.Tests.{eq-eqb, ne_eqb}
use Rattle.lists.specs.Lists.{flat, tab, Ascending}
use Rattle.lists.proofs.Cases.{on, on_same}
use Rattle.lists.proofs.Flat.{flat-more}
use Rattle.lists.proofs.Ascend.{ascending-apart}
use Rattle.layout.specs.Content.{Hyperedge, Table, live_vertices, position}
use Rattle.layout.specs.Layout.{limit, vertex_limit, vertex_count, hyperedge_count, hyperedge_at, members_at, read_hyperedges, read}
use Rattle.layout.specs.Inner.{Formed, step_at}
use Rattle.layout.specs.Steps.{is_step}
use Rattle.layout.proofs.Position.{position-found, position-missing}
use Rattle.layout.proofs.Read.{live-length, vertex-found}
use Rattle.lookups.specs.declared.Direction.{Direction}
use Rattle.lookups.specs.declared.Direction.TheVariants.{From, To}
use Rattle.lookups.specs.declared.Ends.{Ends}
use Rattle.lookups.specs.declared.Listing.{Listing}
use Rattle.lookups.specs.declared.Listing.TheVariants.{Connecting}
use Rattle.lookups.specs.Lookups.{oriented, places, places_in, block, listing, connecting}
use Rattle.lookups.specs.State.{ends_of, block_length, listing_most, listing_ahead, nothing, tallying, Tallied}
use Rattle.lookups.proofs.Places.{places-more, places-none, records-more, records-none}
use Rattle.lookups.proofs.Marking.{step-yes, step-no}
use Rattle.lookups.proofs.Laid.{block-most}

-- ---- what a listing has left: of record j's list from place i on, and then of the records behind

unfoldable pub passing : Direction → ℕ → ℕ → List ℕ → ℕ → (ℕ → List ℕ) → ℕ → List ℕ
passing dir v e ms i rest y = replicate (places (oriented dir is_step v y) (drop i ms)) e ++ rest y

block-along : (dir : Direction) (v y : ℕ) (e : Hyperedge) → block (oriented dir Connecting v y) e ≡ replicate (places_in (oriented dir is_step v y) e) e.number
unfolding block
block-along From v y e = refl
block-along To v y e = refl

-- ms and e are what `members_formed` and `hyperedge_number` gave
pub passing-first : (L : ℕ) (ws : List ℕ) (j v : ℕ) (dir : Direction) (ms : List ℕ) (e : ℕ) → j < hyperedge_count ws → ms ≡ members_at L ws j
    → e ≡ (hyperedge_at L ws j).number → (y : ℕ) → listing_ahead dir (read L ws) v j y ≡ passing dir v e ms 0 (listing_ahead dir (read L ws) v (j + 1)) y
unfolding listing_ahead passing flat places_in
passing-first L ws j v dir ms e h q s y =
    ap (flat (block (oriented dir Connecting v y))) (records-more L ws {j = j} refl h)
    ∙ ap (λ (xs : List ℕ). xs ++ flat (block (oriented dir Connecting v y)) (drop (j + 1) (read_hyperedges L ws))) (block-along dir v y (hyperedge_at L ws j))
    ∙ rw (q, s)

module _ (dir : Direction) (v e : ℕ) (ms : List ℕ) (i : ℕ) (rest : ℕ → List ℕ) where
  -- x is the ends of the step at place i, and the code compared the near one with v
  pub passing-yes : (x : Ends) → i + 1 < length ms → x ≡ ends_of dir (step_at ms i) → x.near ≡ v
      → (y : ℕ) → passing dir v e ms i rest y ≡ cond (eqb y x.far) (e ∷ passing dir v e ms (i + 1) rest y) (passing dir v e ms (i + 1) rest y)
  unfolding passing
  passing-yes x h a b y = on (eqb y x.far)
      (λ q. rw (q, one_more_lem true (sym (step-yes v (step_at ms i) dir a b y) ∙ q)))
      (λ q. rw (q, one_more_lem false (sym (step-yes v (step_at ms i) dir a b y) ∙ q)))
    where
      one_more_lem : (b : Bool) → oriented dir is_step v y (step_at ms i) ≡ b
          → places (oriented dir is_step v y) (drop i ms) ≡ cond b (suc (places (oriented dir is_step v y) (drop (i + 1) ms))) (places (oriented dir is_step v y) (drop (i + 1) ms))
      one_more_lem true q = omega (arith, places-more (oriented dir is_step v y) ms i true h q)
      one_more_lem false q = omega (arith, places-more (oriented dir is_step v y) ms i false h q)

  pub passing-no : (x : Ends) → i + 1 < length ms → x ≡ ends_of dir (step_at ms i) → (x.near ≡ v → ⊥)
      → (y : ℕ) → passing dir v e ms i rest y ≡ passing dir v e ms (i + 1) rest y
  unfolding passing
  passing-no x h a b y =
      let q : places (oriented dir is_step v y) (drop i ms) ≡ places (oriented dir is_step v y) (drop (i + 1) ms) =
      omega (arith, places-more (oriented dir is_step v y) ms i false h (step-no v (step_at ms i) dir a b y)) in
      rw q

  pub passing-end : length ms ≤ i + 1 → (y : ℕ) → passing dir v e ms i rest y ≡ rest y
  unfolding passing
  passing-end h y = rw (places-none (oriented dir is_step v y) ms i h)

pub ahead-first : (dir : Direction) (t : Table) (v y : ℕ) → connecting dir t v y ≡ listing_ahead dir t v 0 y
unfolding listing_ahead connecting listing
ahead-first dir t v y = refl

pub ahead-end : (L : ℕ) (ws : List ℕ) (v j : ℕ) (dir : Direction) → hyperedge_count ws ≤ j → (y : ℕ) → listing_ahead dir (read L ws) v j y ≡ nothing y
unfolding listing_ahead flat
ahead-end L ws v j dir h y = ap (flat (block (oriented dir Connecting v y))) (records-none L ws {j = j} refl h)

-- ---- how long a list can be

blocks-most : (L : ℕ) (ws : List ℕ) (q : Listing) → Formed L ws → (j : ℕ) → j ≤ hyperedge_count ws → length (flat (block q) (tab (hyperedge_at L ws) j)) ≤ j * suc L
unfolding flat tab block_length
blocks-most L ws q f zero h = omega arith
blocks-most L ws q f (suc j) h = omega (arith, flat-more (block q) (hyperedge_at L ws) j, blocks-most L ws q f j (omega arith), block-most L ws j q f (omega arith))

pub connecting-most : (ws : List ℕ) (dir : Direction) (v y : ℕ) → Formed limit ws → length (connecting dir (read limit ws) v y) ≤ listing_most
unfolding connecting listing
connecting-most ws dir v y f =
    omega (arith, blocks-most limit ws (oriented dir Connecting v y) f (hyperedge_count ws) (omega arith), mul-le-mul_right (suc limit) f.shape.hyperedges-le)

-- ---- a search for x found p, and the record found counts one more

module _ (L : ℕ) (ws : List ℕ) (x : ℕ) (counts : List ℕ) (p : Option ℕ) (e : p ≡ position x (live_vertices (read L ws))) where
  pub tally-none : p ≡ None → counts ≡ tallying (position x (live_vertices (read L ws))) counts
  tally-none h = rw (← e, h)

  pub tally-one : (k : ℕ) → p ≡ Some k → set counts k (get_or counts k 0 + 1) ≡ tallying (position x (live_vertices (read L ws))) counts
  tally-one k h = rw (← e, h)

  tally-at : (k : ℕ) → p ≡ Some k → k < vertex_count ws
  tally-at k h = (vertex-found L ws x k (sym e ∙ h)).0

  pub tally-in : (k : ℕ) → Formed L ws → p ≡ Some k → k < vertex_limit
  tally-in k f h = omega (arith, tally-at k h, f.shape.vertices-le)

  pub tally-most : (most k : ℕ) → ((i : ℕ) → i < vertex_count ws → get_or counts i 0 ≤ most) → p ≡ Some k → get_or counts k 0 ≤ most
  tally-most most k b h = b k (tally-at k h)

-- ---- the counts

module _ {live : List ℕ} {whole left : ℕ → List ℕ} {counts : List ℕ} (t : Tallied live whole left counts) where
  pub tallied-as : {left' : ℕ → List ℕ} {next : List ℕ} → ((y : ℕ) → left y ≡ left' y) → next ≡ counts → Tallied live whole left' next
  tallied-as {left'} s e = rw e (record {
    sized = t.sized;
    each = λ k h. ap (λ (xs : List ℕ). get_or counts k 0 + length xs) (sym (s (get_or live k 0))) ∙ t.each k h;
  })

  -- x had the word e next
  pub tallied-one : {left' : ℕ → List ℕ} {next : List ℕ} (x e : ℕ) → Ascending live → length live ≤ vertex_limit
      → ((y : ℕ) → left y ≡ cond (eqb y x) (e ∷ left' y) (left' y)) → next ≡ tallying (position x live) counts → Tallied live whole left' next
  tallied-one {left'} {next} x e asc fit s q = go (position x live) refl q
    where
      skip : (y : ℕ) → (y ≡ x → ⊥) → left y ≡ left' y
      skip y n = s y ∙ rw (ne_eqb y x n)

      here : (y : ℕ) → y ≡ x → left y ≡ e ∷ left' y
      here y w = s y ∙ rw (eq-eqb y x w)

      go : (p : Option ℕ) → position x live ≡ p → next ≡ tallying p counts → Tallied live whole left' next
      go None f q = rw q (record {
        sized = t.sized;
        each = λ k h. ap (λ (xs : List ℕ). get_or counts k 0 + length xs) (sym (skip (get_or live k 0) (position-missing x live f k h))) ∙ t.each k h;
      })
      go (Some i) f q =
          let r = position-found x live i f in
          rw q (record {
            sized = length-set counts i (get_or counts i 0 + 1) ∙ t.sized;
            each = λ k h. on_same k i
                (λ w. rw (w, get_or-set_same counts i (get_or counts i 0 + 1) 0 (omega (arith, t.sized, r.0)))
                (omega (arith, t.each i r.0, ap length (here (get_or live i 0) r.1))))
                (λ n. rw (get_or-set_other counts i k (get_or counts i 0 + 1) 0 n)
                (ap (λ (xs : List ℕ). get_or counts k 0 + length xs) (sym (skip (get_or live k 0) (λ w. ascending-apart live asc k i h r.0 n (w ∙ sym r.1)))) ∙ t.each k h));
          })

  pub tallied-most : (most : ℕ) → ((y : ℕ) → length (whole y) ≤ most) → (k : ℕ) → k < length live → get_or counts k 0 ≤ most
  tallied-most most b k h = omega (arith, t.each k h, b (get_or live k 0))

-- from no counts on
unfoldable pub no_counts : List ℕ
no_counts = replicate vertex_limit 0

pub tallied-none : (L : ℕ) (ws : List ℕ) (whole : ℕ → List ℕ) → Formed L ws → Tallied (live_vertices (read L ws)) whole whole no_counts
unfolding no_counts
tallied-none L ws whole f = record {
  sized = length-replicate {A = ℕ} vertex_limit 0;
  each = λ k h. omega (arith, get_or-replicate {A = ℕ} vertex_limit k 0 0 (omega (arith, live-length L ws, f.shape.vertices-le)));
}
