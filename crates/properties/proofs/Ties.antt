-- What the definitions come to: the profile counts the first members of the listed pairs, sets by record are the lists' members, endpoints have no step. Assumes nothing.
use mathlib.Core.Path.{◌≡◌, refl, sym, ap, ap₂, ◌∙◌}
use mathlib.Core.Bool.{Bool, true, false, not, cond, ◌||◌}
use mathlib.Core.List.{List, [], ◌∷◌, ◌++◌, map}
use Prim.Native.Nat.{ℕ, zero, suc, ◌<◌, suc-le-suc}
use native.Mathlib.Nat.{not-suc-le-zero, le_of_suc-le-suc, zero-lt-suc}
use lib.Dec.{eqb}
use lib.ListN.{length, get_or}
use borrow.Author.Tests.{eqb-true, eq-eqb}
use Rattle.lists.specs.Tests.{◌and◌}
use Rattle.lists.specs.Lists.{all, any, memb, filter, flat}
use Rattle.lists.proofs.Cases.{on, on_same, clash, test-ext, and_left, and_right, and_both}
use Rattle.lists.proofs.Maps.{map-length}
use Rattle.lists.proofs.All.{all-at, all_of}
use Rattle.lists.proofs.Memb.{memb-getD, memb-at}
use Rattle.lists.proofs.Ascend.{ascending-apart}
use Rattle.layout.specs.Content.{Hyperedge, Table, hyperedge_number, live_vertices, live_hyperedges, is_live, members_live, lists, valid, no_hyperedge}
use Rattle.layout.specs.Steps.{Step, steps_of, is_step, makes_step, has_step}
use Rattle.layout.proofs.Read.{numbered-ascends}
use Rattle.steps.specs.Matrices.{number_of}
use Rattle.lists.proofs.Any.{any_at, any_of}
use Rattle.lookups.specs.declared.Direction.TheVariants.{From, To}
use Rattle.lookups.specs.Lookups.{has_end}
use Rattle.properties.specs.Properties.{steps_at, is_endpoint, member_set, within, is_within, pair, pairs_of, inclusions, has_size, is_included, included_of_size, included}
use Rattle.properties.proofs.Subsets.{within-at, within_of}

-- ---- the profile and the listing

-- the first of each two words
unfoldable pub firsts : List ℕ → List ℕ
firsts [] = []
firsts (x ∷ []) = []
firsts (x ∷ y ∷ r) = x ∷ firsts r

module _ (t : Table) (x : ℕ) where
  -- the pairs of a, before other words
  pairs_first : (a : Hyperedge) (bs : List Hyperedge) (r : List ℕ)
      → memb x (firsts (flat (pair t a) bs ++ r)) ≡ ((eqb x a.number and any (is_within t a) bs) || memb x (firsts r))
  unfolding flat any pair firsts ◌and◌
  pairs_first a [] r = on (eqb x a.number) (λ e. rw e) (λ e. rw e)
  pairs_first a (b ∷ bs) r =
      on (is_within t a b)
      (λ e. rw e (ap (λ (c : Bool). eqb x a.number || c) (pairs_first a bs r) ∙ on (eqb x a.number) (λ f. rw f) (λ f. rw f)))
      (λ e. rw e (pairs_first a bs r))

  listing-first : (es : List Hyperedge) → memb x (firsts (flat (pairs_of t) es)) ≡ any (λ a. eqb x a.number and is_included t a) es
  unfolding flat any pairs_of is_included firsts
  listing-first [] = refl
  listing-first (a ∷ es) =
      pairs_first a t.hyperedges (flat (pairs_of t) es) ∙ ap (λ (c : Bool). (eqb x a.number and any (is_within t a) t.hyperedges) || c) (listing-first es)

get_d_map : {A : Type 0} (f : A → ℕ) (xs : List A) (i : ℕ) (d : A) → i < length xs → get_or (map f xs) i 0 ≡ f (get_or xs i d)
get_d_map f [] i d h = absurd (not-suc-le-zero h)
get_d_map f (x ∷ xs) zero d h = refl
get_d_map f (x ∷ xs) (suc i) d h = get_d_map f xs i d (le_of_suc-le-suc h)

filter-at : {A : Type 0} (p q : A → Bool) (xs : List A) (d : A) → ((i : ℕ) → i < length xs → p (get_or xs i d) ≡ q (get_or xs i d)) → filter p xs ≡ filter q xs
unfolding filter
filter-at p q [] d h = refl
filter-at {A} p q (x ∷ xs) d h =
    ap₂ (λ (b : Bool) (r : List A). cond b (x ∷ r) r) (h zero (zero-lt-suc (length xs))) (filter-at p q xs d (λ i l. h (suc i) (suc-le-suc l)))

module _ (t : Table) (v : valid t ≡ true) where
  -- a number has one hyperedge
  hyperedge-once : (i j : ℕ) → i < length t.hyperedges → j < length t.hyperedges
      → (get_or t.hyperedges i no_hyperedge).number ≡ (get_or t.hyperedges j no_hyperedge).number → i ≡ j
  unfolding valid
  hyperedge-once i j hi hj e =
      on_same i j (λ q. q)
      (λ q. absurd (ascending-apart (live_hyperedges t) (numbered-ascends _ _ (and_left _ _ (and_right _ _ v))) i j (rw map-length hi) (rw map-length hj) q
      (get_d_map hyperedge_number t.hyperedges i no_hyperedge hi ∙ e ∙ sym (get_d_map hyperedge_number t.hyperedges j no_hyperedge hj))))

  -- a hyperedge is included exactly where the listing has a pair whose first member it is
  pub included-listed : (j : ℕ) → j < length t.hyperedges
      → is_included t (get_or t.hyperedges j no_hyperedge) ≡ memb (get_or t.hyperedges j no_hyperedge).number (firsts (inclusions t))
  unfolding inclusions
  included-listed j h =
      let e : Hyperedge = get_or t.hyperedges j no_hyperedge in
      let first : Hyperedge → Bool = λ a. eqb e.number a.number and is_included t a in
      test-ext (is_included t e) (any first t.hyperedges)
      (λ y. any_of first t.hyperedges no_hyperedge j h (and_both _ _ (eq-eqb e.number e.number refl) y))
      (λ y.
      let r = any_at first t.hyperedges no_hyperedge y in
      let same : j ≡ r.0 = hyperedge-once j r.0 h r.1 (eqb-true _ _ (and_left _ _ r.2)) in
      ap (λ (k : ℕ). is_included t (get_or t.hyperedges k no_hyperedge)) same ∙ and_right _ _ r.2)
      ∙ sym (listing-first t e.number t.hyperedges)

  -- of the size, and the first member of a listed pair
  pub first_of_size : ℕ → Hyperedge → Bool
  first_of_size s e = has_size t s e and memb e.number (firsts (inclusions t))

  -- the profile counts the hyperedges of a size that are the first member of a listed pair, each once
  pub included-counts : (s : ℕ) → included t s ≡ length (filter (first_of_size s) t.hyperedges)
  unfolding included included_of_size first_of_size
  included-counts s =
      ap length (filter-at (included_of_size t s) (first_of_size s) t.hyperedges no_hyperedge
      (λ i h. ap (λ (b : Bool). has_size t s (get_or t.hyperedges i no_hyperedge) and b) (included-listed i h)))

-- ---- sets by record, and lists

-- of a hyperedge whose members are live: its set is within another's exactly where each of its members is a member of the other
pub within-members : (t : Table) (a b : Hyperedge) → members_live (live_vertices t) a ≡ true
    → within (length (live_vertices t)) (member_set t a) (member_set t b) ≡ all (λ v. lists v b) a.members
unfolding members_live member_set
within-members t a b l =
    test-ext (within (length (live_vertices t)) (member_set t a) (member_set t b)) (all (λ v. lists v b) a.members)
    (λ e. all_of (λ v. lists v b) a.members 0 (λ i h.
    let r = memb-at (get_or a.members i 0) (live_vertices t) (all-at (is_live (live_vertices t)) a.members i 0 l h) in
    ap (λ (v : ℕ). lists v b) (sym r.2)
    ∙ within-at (length (live_vertices t)) (member_set t a) (member_set t b) e r.0 r.1 (ap (λ (v : ℕ). lists v a) r.2 ∙ memb-getD a.members i h)))
    (λ e. within_of (length (live_vertices t)) (member_set t a) (member_set t b) (λ i h p.
    let r = memb-at (number_of t i) a.members p in
    ap (λ (v : ℕ). lists v b) (sym r.2) ∙ all-at (λ v. lists v b) a.members r.0 0 e r.1))

-- ---- endpoints, and steps

no_step : Step
no_step = record { from = 0; to = 0 }

module _ (t : Table) (v : ℕ) where
  -- a source has no step in, and what has none is a source
  pub source-stepless : is_endpoint To t v ≡ true → (x : ℕ) → has_step t x v ≡ false
  unfolding is_endpoint steps_at has_end has_step makes_step is_step
  source-stepless e x =
      on (has_step t x v)
      (λ h.
      let r = any_at (makes_step x v) t.hyperedges no_hyperedge h in
      let s = any_at (is_step x v) (steps_of (get_or t.hyperedges r.0 no_hyperedge).members) no_step r.2 in
      clash e (ap not (any_of (steps_at To v) t.hyperedges no_hyperedge r.0 r.1 (any_of (has_end To v) (steps_of (get_or t.hyperedges r.0 no_hyperedge).members) no_step s.0 s.1 (and_right _ _ s.2)))))
      (λ h. h)

  pub stepless-source : ((x : ℕ) → has_step t x v ≡ false) → is_endpoint To t v ≡ true
  unfolding is_endpoint steps_at has_end has_step makes_step is_step
  stepless-source n =
      on (any (steps_at To v) t.hyperedges)
      (λ h.
      let r = any_at (steps_at To v) t.hyperedges no_hyperedge h in
      let ms : List ℕ = (get_or t.hyperedges r.0 no_hyperedge).members in
      let s = any_at (has_end To v) (steps_of ms) no_step r.2 in
      let x : ℕ = (get_or (steps_of ms) s.0 no_step).from in
      clash (any_of (makes_step x v) t.hyperedges no_hyperedge r.0 r.1 (any_of (is_step x v) (steps_of ms) no_step s.0 s.1 (and_both _ _ (eq-eqb x x refl) s.2))) (n x))
      (λ h. ap not h)

  -- a sink has no step out, and what has none is a sink
  pub sink-stepless : is_endpoint From t v ≡ true → (y : ℕ) → has_step t v y ≡ false
  unfolding is_endpoint steps_at has_end has_step makes_step is_step
  sink-stepless e y =
      on (has_step t v y)
      (λ h.
      let r = any_at (makes_step v y) t.hyperedges no_hyperedge h in
      let s = any_at (is_step v y) (steps_of (get_or t.hyperedges r.0 no_hyperedge).members) no_step r.2 in
      clash e (ap not (any_of (steps_at From v) t.hyperedges no_hyperedge r.0 r.1 (any_of (has_end From v) (steps_of (get_or t.hyperedges r.0 no_hyperedge).members) no_step s.0 s.1 (and_left _ _ s.2)))))
      (λ h. h)

  pub stepless-sink : ((y : ℕ) → has_step t v y ≡ false) → is_endpoint From t v ≡ true
  unfolding is_endpoint steps_at has_end has_step makes_step is_step
  stepless-sink n =
      on (any (steps_at From v) t.hyperedges)
      (λ h.
      let r = any_at (steps_at From v) t.hyperedges no_hyperedge h in
      let ms : List ℕ = (get_or t.hyperedges r.0 no_hyperedge).members in
      let s = any_at (has_end From v) (steps_of ms) no_step r.2 in
      let y : ℕ = (get_or (steps_of ms) s.0 no_step).to in
      clash (any_of (makes_step v y) t.hyperedges no_hyperedge r.0 r.1 (any_of (is_step v y) (steps_of ms) no_step s.0 s.1 (and_both _ _ s.2 (eq-eqb y y refl)))) (n y))
      (λ h. ap not h)
