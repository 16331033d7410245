-- Laws of the hyperedges that list a vertex: which they are, their total weight, the first whose running sum is greater. Assumes nothing.
use Rattle.std.proofs.Common.{◌≡◌, ℕ, zero, suc, ◌+◌, ◌-◌, ◌*◌, ◌<◌, ◌≤◌, Bool, true, false, cond, List, [], ◌∷◌, ◌++◌, length, get_or, drop, sym, refl, ap, ◌∙◌, add-zero, add_assoc, zero-add, add-one, arith, drop_of_length-le, drop-cons}
use lib.Ieee.{Float, lt}
use Rattle.lists.specs.Lists.{filter, tab, sum_over}
use Rattle.lists.proofs.Cases.{on}
use Rattle.lists.proofs.Maps.{map_snoc}
use Rattle.lists.proofs.Tab.{tab-suc}
use Rattle.lists.proofs.Filter.{filter-snoc}
use Rattle.layout.specs.Content.{Hyperedge, lists, hyperedges_of}
use Rattle.layout.specs.Layout.{limit, hyperedge_limit, hyperedge_count, hyperedge_at, read}
use Rattle.layout.specs.Inner.{Formed}
use Rattle.steps.specs.Matrices.{number_of}
use Rattle.walk.specs.Walk.{float, sample, total_weight, first_greater}
use Rattle.walk.specs.Passes.{largest_word, lists_at, listers, listers_of, records_at, Greater}
use Rattle.walk.proofs.Entered.{listers-none, listers-in, listers-out, listers-few}

-- ---- which they are

listed-are : (ws : List ℕ) (i k : ℕ) → records_at ws (listers ws k i) ≡ filter (lists (number_of (read limit ws) i)) (tab (hyperedge_at limit ws) k)
unfolding filter tab
listed-are ws i zero = ap (records_at ws) (listers-none ws i)
listed-are ws i (suc k) =
    on (lists_at ws (number_of (read limit ws) i) k)
    (λ q. ap (records_at ws) (ap (λ (n : ℕ). listers ws n i) (sym (add-one k)) ∙ listers-in ws k i q) ∙ map_snoc (hyperedge_at limit ws) (listers ws k i) k
    ∙ ap (λ (es : List Hyperedge). es ++ (hyperedge_at limit ws k ∷ [])) (listed-are ws i k) ∙ sym (last true q))
    (λ q. ap (records_at ws) (ap (λ (n : ℕ). listers ws n i) (sym (add-one k)) ∙ listers-out ws k i q) ∙ listed-are ws i k ∙ sym (last false q))
  where
    es : List Hyperedge
    es = filter (lists (number_of (read limit ws) i)) (tab (hyperedge_at limit ws) k)

    last : (b : Bool) → lists_at ws (number_of (read limit ws) i) k ≡ b → filter (lists (number_of (read limit ws) i)) (tab (hyperedge_at limit ws) (suc k)) ≡ cond b (es ++ (hyperedge_at limit ws k ∷ [])) es
    last b q =
        ap (filter (lists (number_of (read limit ws) i))) (tab-suc (hyperedge_at limit ws) k)
        ∙ filter-snoc (lists (number_of (read limit ws) i)) (tab (hyperedge_at limit ws) k) (hyperedge_at limit ws k)
        ∙ ap (λ (b : Bool). cond b (es ++ (hyperedge_at limit ws k ∷ [])) es) q

pub hyperedges-are : (ws : List ℕ) (i : ℕ) → records_at ws (listers_of ws i) ≡ hyperedges_of (read limit ws) (number_of (read limit ws) i)
unfolding hyperedges_of
hyperedges-are ws i = listed-are ws i (hyperedge_count ws)

pub listers-limit : (ws : List ℕ) → Formed limit ws → (i : ℕ) → length (listers_of ws i) ≤ hyperedge_limit
listers-limit ws f i = omega (arith, listers-few ws (hyperedge_count ws) i, f.shape.hyperedges-le)

-- ---- what is left of them from place k on

rest : (ws js : List ℕ) (k : ℕ) → k < length js → records_at ws (drop k js) ≡ hyperedge_at limit ws (get_or js k 0) ∷ records_at ws (drop (k + 1) js)
rest ws js k h = rw (add-one k) (ap (records_at ws) (drop-cons js k 0 h))

-- ---- the loop that sums the weights: total is that of the first k

pub record Summed (ws js : List ℕ) (total k : ℕ) : Type 0 where
  pub few : length js ≤ hyperedge_limit
  pub within : k ≤ length js
  pub small : total ≤ k * largest_word
  pub ahead : total + total_weight (records_at ws (drop k js)) ≡ total_weight (records_at ws js)

pub summed-none : (ws js : List ℕ) → length js ≤ hyperedge_limit → Summed ws js 0 0
summed-none ws js h = record { few = h; within = omega arith; small = omega arith; ahead = zero-add _ }

module _ (ws js : List ℕ) (total k n : ℕ) (inv : Summed ws js total k) (en : n ≡ length js) where
  -- record j is the k-th, and x its weight
  pub summed-more : k < n → (j y x : ℕ) → j ≡ get_or js k 0 → y ≡ (hyperedge_at limit ws j).weight → x ≡ y → x ≤ largest_word → Summed ws js (total + x) (k + 1)
  unfolding sum_over
  summed-more h j y x ej ey ex l = record {
    few = inv.few;
    within = omega arith;
    small = omega (arith, inv.small);
    ahead = rw (ex, ey, ej, add_assoc) (sym (ap (λ (es : List Hyperedge). total + total_weight es) (rest ws js k (omega arith))) ∙ inv.ahead);
  }

  pub summed-end : n ≤ k → total ≡ total_weight (records_at ws js)
  unfolding sum_over
  summed-end h = sym (add-zero total) ∙ (rw (drop_of_length-le js {i = k} (rw en at h)) at inv.ahead)

-- ---- the loop that looks for the first whose running sum is greater: sum is the running sum of the first k

pub record Left (ws js : List ℕ) (x : Float) (sum k : ℕ) : Type 0 where
  pub few : length js ≤ hyperedge_limit
  pub within : k ≤ length js
  pub small : sum ≤ k * largest_word
  pub ahead : first_greater x (hyperedge_at limit ws (get_or js (length js - 1) 0)) sum (records_at ws (drop k js))
      ≡ first_greater x (hyperedge_at limit ws (get_or js (length js - 1) 0)) 0 (records_at ws js)

pub left-all : (ws js : List ℕ) (x : Float) → length js ≤ hyperedge_limit → Left ws js x 0 0
left-all ws js x h = record { few = h; within = omega arith; small = omega arith; ahead = refl }

module _ (ws js : List ℕ) (x : Float) (sum k n : ℕ) (inv : Left ws js x sum k) (en : n ≡ length js) where
  -- record j is the last
  pub left_end : n ≤ k → (j : ℕ) → (j ≡ get_or js (n - 1) 0) × (j < hyperedge_count ws) → Greater ws js x j
  unfolding first_greater
  left_end h j e = record {
    within = e.1;
    taken = rw (e.0, en) (rw (drop_of_length-le js {i = k} (rw en at h)) at inv.ahead);
  }

  -- record j is the k-th, c its weight, and r says whether its running sum is greater
  module _ (h : k < n) (j y c : ℕ) (ej : (j ≡ get_or js k 0) × (j < hyperedge_count ws)) (ey : y ≡ (hyperedge_at limit ws j).weight) (ec : (c ≡ y) × (c ≤ largest_word)) (r : Bool) (er : r ≡ lt x (float (sum + c))) where
    turn : cond r (hyperedge_at limit ws j) (first_greater x (hyperedge_at limit ws (get_or js (length js - 1) 0)) (sum + c) (records_at ws (drop (k + 1) js)))
        ≡ first_greater x (hyperedge_at limit ws (get_or js (length js - 1) 0)) 0 (records_at ws js)
    unfolding first_greater
    turn = rw (er, ec.0, ey, ej.0) (rw (rest ws js k (omega arith)) at inv.ahead)

    pub left-take : r ≡ true → Greater ws js x j
    left-take q = record { within = ej.1; taken = rw q at turn }

    pub left-on : r ≡ false → Left ws js x (sum + c) (k + 1)
    left-on q = record { few = inv.few; within = omega arith; small = omega (arith, inv.small, ec.1); ahead = rw q at turn }

-- x is the draw's sample, made with the total that was found
pub greater-drawn : (ws js : List ℕ) (draw total : ℕ) (x : Float) (j : ℕ) → total ≡ total_weight (records_at ws js) → x ≡ sample draw total
    → Greater ws js x j → Greater ws js (sample draw (total_weight (records_at ws js))) j
greater-drawn ws js draw total x j e q g = rw (← e, ← q) g
