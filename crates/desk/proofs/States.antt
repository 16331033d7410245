-- Laws of the states: that they fit, the state of a vertex by its number, and states laid out for the live vertices. Assumes nothing.
use Rattle.std.specs.Prelude.{Option, Some, None}
use mathlib.Core.Path.{◌≡◌, refl, sym, ap, ◌∙◌}
use mathlib.Core.Bool.{true, false}
use mathlib.Core.List.{List, [], ◌∷◌, ◌++◌, map}
use Prim.Native.Nat.{ℕ, zero, suc, ◌-◌, ◌≤◌, ◌<◌}
use native.Mathlib.Omega.{arith}
use lib.Dec.{eqb}
use lib.ListN.{length, get_or, take, drop, replicate, length-append, length-replicate, take-append-drop, get_or-eq_default}
use lib.Seq.{length-take-le, get_or-take, take_all, append_snoc, drop_at, ext_get_or}
use borrow.Author.Tests.{eqb-true, eq-eqb, lt-ltb, ltb-true}
use Rattle.lists.specs.Lists.{all, zeros, memb, is_below, pad, Ascending}
use Rattle.lists.proofs.Cases.{clash, on_below, and_left, and_right, and_both}
use Rattle.lists.proofs.All.{all-at, all_join, all_append}
use Rattle.lists.proofs.Kept.{all-always, all_map}
use Rattle.lists.proofs.Maps.{map-length, map_snoc}
use Rattle.lists.proofs.Memb.{memb-getD}
use Rattle.lists.proofs.Tab.{map-tab, getD-tab}
use Rattle.lists.proofs.Flat.{pad-front, zero-end, tab-getD, length-pad}
use Rattle.lists.proofs.Parts.{part-tail}
use Rattle.layout.specs.Content.{position}
use Rattle.layout.specs.Layout.{vertex_limit}
use Rattle.layout.proofs.Position.{position-none, position-found, missing-dead, position_here}
use Rattle.desk.specs.States.{waiting, released, states_fit, state_at, state_in, states_by, all_waiting}

-- ---- states that fit, taken apart

pub record StatesFit (n : ℕ) (ss : List ℕ) : Type 0 where
  pub sized : length ss ≡ vertex_limit
  pub known : all (is_below (suc released)) ss ≡ true
  pub unused : zeros (drop n ss) ≡ true

pub states-fit-of : {n : ℕ} {ss : List ℕ} → states_fit n ss ≡ true → StatesFit n ss
unfolding states_fit
states-fit-of h =
    let a = and_right _ _ h in record { sized = eqb-true _ _ (and_left _ _ h); known = and_left _ _ a; unused = and_right _ _ a }

pub states-fit-by : {n : ℕ} {ss : List ℕ} → StatesFit n ss → states_fit n ss ≡ true
unfolding states_fit
states-fit-by f = and_both _ _ (eq-eqb _ _ f.sized) (and_both _ _ f.known f.unused)

-- ---- the state of a vertex

-- the vertex at place i has word i
pub state-at : (live ss : List ℕ) (i : ℕ) → Ascending live → i < length live → state_in live ss (get_or live i 0) ≡ get_or ss i 0
unfolding state_in
state-at live ss i asc h = ap (λ (p : Option ℕ). state_at p ss) (sym (position_here (get_or live i 0) live i asc h refl))

-- one that is not live waits
pub state-dead : (live ss : List ℕ) (v : ℕ) → memb v live ≡ false → state_in live ss v ≡ waiting
unfolding state_in
state-dead live ss v d =
    ap (λ (p : Option ℕ). state_at p ss)
    (position-none v live (λ k l q. clash (ap (λ (x : ℕ). memb x live) (sym q) ∙ memb-getD live k l) d))

-- the word at any place is a state
word_below : (ss : List ℕ) (i : ℕ) → all (is_below (suc released)) ss ≡ true → get_or ss i 0 < suc released
word_below ss i k =
    on_below i (length ss)
    (λ h. ltb-true _ _ (all-at (is_below (suc released)) ss i 0 k h))
    (λ h. omega (arith, get_or-eq_default ss 0 {n = i} h))

found_below : (ss : List ℕ) (p : Option ℕ) → all (is_below (suc released)) ss ≡ true → state_at p ss < suc released
found_below ss (Some i) k = word_below ss i k
found_below ss None k = omega arith

-- of states that fit, each is waiting, reviewed or released
pub state-below : (n : ℕ) (live ss : List ℕ) → states_fit n ss ≡ true → (v : ℕ) → state_in live ss v < suc released
unfolding state_in
state-below n live ss fit v = found_below ss (position v live) (states-fit-of fit).known

-- ---- states laid out for the live vertices

map_at : (f : ℕ → ℕ) (xs : List ℕ) (i : ℕ) → i < length xs → get_or (map f xs) i 0 ≡ f (get_or xs i 0)
map_at f xs i h =
    ap (λ (r : List ℕ). get_or r i 0) (ap (map f) (sym (tab-getD xs 0)) ∙ map-tab f (λ i. get_or xs i 0) (length xs))
    ∙ getD-tab (λ i. f (get_or xs i 0)) (length xs) i 0 h

-- two that say the same of the live vertices
pub states-by-ext : (f g : ℕ → ℕ) (live : List ℕ) → ((v : ℕ) → memb v live ≡ true → f v ≡ g v) → states_by f live ≡ states_by g live
unfolding states_by
states-by-ext f g live h =
    ap (pad vertex_limit) (ext_get_or 0 (map f live) (map g live) (map-length f live ∙ sym (map-length g live)) (λ i l.
    let l' : i < length live = rw map-length at l in
    map_at f live i l' ∙ h (get_or live i 0) (memb-getD live i l') ∙ sym (map_at g live i l')))

by-found : (f : ℕ → ℕ) (live : List ℕ) (v : ℕ) (p : Option ℕ) → position v live ≡ p → memb v live ≡ true → state_at p (states_by f live) ≡ f v
unfolding states_by
by-found f live v (Some i) e m =
    let r = position-found v live i e in zero-end (map f live) (vertex_limit - length (map f live)) i ∙ map_at f live i r.0 ∙ ap f r.1
by-found f live v None e m = clash m (missing-dead v live e)

-- a live vertex has the state that was laid out for it
pub state-by : (f : ℕ → ℕ) (live : List ℕ) (v : ℕ) → memb v live ≡ true → state_in live (states_by f live) v ≡ f v
unfolding state_in
state-by f live v m = by-found f live v (position v live) refl m

-- laid out for some, and from there for a part of them
pub states-part : (f : ℕ → ℕ) (live part : List ℕ) → ((v : ℕ) → memb v part ≡ true → memb v live ≡ true)
    → states_by (state_in live (states_by f live)) part ≡ states_by f part
states-part f live part within = states-by-ext _ f part (λ v m. state-by f live v (within v m))

blank-known : (k : ℕ) → all (is_below (suc released)) (replicate k 0) ≡ true
unfolding all
blank-known zero = refl
blank-known (suc k) = and_both _ _ refl (blank-known k)

blank-zeros : (k : ℕ) → zeros (replicate k 0) ≡ true
unfolding zeros all
blank-zeros zero = refl
blank-zeros (suc k) = and_both _ _ refl (blank-zeros k)

-- they fit where each is a state
pub states-by-fit : (f : ℕ → ℕ) (live : List ℕ) → ((v : ℕ) → f v < suc released) → length live ≤ vertex_limit
    → states_fit (length live) (states_by f live) ≡ true
unfolding states_by
states-by-fit f live h few =
    let k : ℕ = vertex_limit - length (map f live) in
    states-fit-by (record {
      sized = length-pad vertex_limit (map f live) (rw map-length few);
      known = all_join (is_below (suc released)) (map f live) (replicate k 0)
          (all_map f (is_below (suc released)) live ∙ all-always _ live (λ v. lt-ltb (f v) (suc released) (h v))) (blank-known k);
      unused = ap zeros (drop_at (map f live) (replicate k 0) (length live) (map-length f live)) ∙ blank-zeros k;
    })

-- so do those of fitting states that follow their vertices
pub states-follow-fit : (n : ℕ) (old ss live : List ℕ) → states_fit n ss ≡ true → length live ≤ vertex_limit
    → states_fit (length live) (states_by (state_in old ss) live) ≡ true
states-follow-fit n old ss live fit few = states-by-fit (state_in old ss) live (state-below n old ss fit) few

-- ---- every record waits

pub waiting-fits : (n : ℕ) → states_fit n all_waiting ≡ true
unfolding zeros
waiting-fits n =
    states-fit-by (record {
      sized = length-replicate vertex_limit waiting;
      known = blank-known vertex_limit;
      unused = (all_append (eqb 0) (take n all_waiting) (drop n all_waiting) (ap (all (eqb 0)) (take-append-drop n all_waiting) ∙ blank-zeros vertex_limit)).1;
    })

found-waiting : (p : Option ℕ) → state_at p all_waiting ≡ waiting
found-waiting (Some i) = zero-end [] vertex_limit i
found-waiting None = refl

pub waiting-all : (live : List ℕ) (v : ℕ) → state_in live all_waiting v ≡ waiting
unfolding state_in
waiting-all live v = found-waiting (position v live)

-- ---- states that fit, laid out again

-- a 0 more before the 0s
pad-more : (n : ℕ) (xs : List ℕ) → length xs < n → pad n (xs ++ (0 ∷ [])) ≡ pad n xs
pad-more n xs h =
    let k : ℕ = n - length (xs ++ (0 ∷ [])) in
    let e : n - length xs ≡ suc k = omega (arith, length-append xs (0 ∷ [])) in
    append_snoc xs 0 (replicate k 0) ∙ ap (λ (m : ℕ). xs ++ replicate m 0) (sym e)

module _ (live ss : List ℕ) (asc : Ascending live) (few : length live ≤ vertex_limit) (fit : states_fit (length live) ss ≡ true) where
  sized : length ss ≡ vertex_limit
  sized = (states-fit-of fit).sized

  front_same : map (state_in live ss) live ≡ take (length live) ss
  front_same =
      ext_get_or 0 _ _ (map-length (state_in live ss) live ∙ sym (length-take-le (length live) ss (omega (arith, sized, few)))) (λ i h.
      let h' : i < length live = rw map-length at h in
      map_at (state_in live ss) live i h' ∙ state-at live ss i asc h' ∙ sym (get_or-take (length live) ss i 0 h'))

  rest-zeros : zeros (take (vertex_limit - length live) (drop (length live) ss)) ≡ true
  rest-zeros =
      ap (λ (m : ℕ). zeros (take (m - length live) (drop (length live) ss))) (sym sized)
      ∙ ap zeros (part-tail (length live) ss) ∙ (states-fit-of fit).unused

  -- for the same live vertices they are the same words
  pub states-same : states_by (state_in live ss) live ≡ ss
  unfolding states_by
  states-same =
      ap (pad vertex_limit) front_same ∙ pad-front ss (length live) vertex_limit few (omega (arith, sized)) rest-zeros
      ∙ take_all vertex_limit ss (omega (arith, sized))

  -- and with one vertex more, which waits
  pub states-one-more : (x : ℕ) → memb x live ≡ false → length live < vertex_limit → states_by (state_in live ss) (live ++ (x ∷ [])) ≡ ss
  unfolding states_by
  states-one-more x d room =
      let f : ℕ → ℕ = state_in live ss in
      ap (pad vertex_limit) (map_snoc f live x ∙ ap (λ (s : ℕ). map f live ++ (s ∷ [])) (state-dead live ss x d))
      ∙ pad-more vertex_limit (map f live) (rw map-length room) ∙ states-same
