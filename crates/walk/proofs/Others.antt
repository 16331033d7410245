-- Laws of the distinct other members. Assumes nothing.
use Rattle.std.proofs.Common.{◌≡◌, ℕ, ◌+◌, ◌%◌, ◌<◌, ◌≤◌, Bool, true, false, List, [], ◌∷◌, map, length, get_or, take, set, sym, refl, ap, ◌∙◌, mod-lt, le_antisymm, suc-ne-zero, add-one, arith, length-set, get_or-take, take-suc, get_or-set_same, eq-eqb, ne_eqb}
use lib.Seq.{take-set-le}
use Rattle.lists.specs.Tests.{count, chosen}
use Rattle.lists.proofs.Maps.{map-length, map_snoc}
use Rattle.lists.proofs.Count.{count-le, count-in, count-out}
use Rattle.lists.proofs.Chosen.{chosen-count, chosen-in, chosen-out}
use Rattle.layout.specs.Layout.{limit, vertex_limit, hyperedge_count, members_at}
use Rattle.layout.specs.Inner.{Formed}
use Rattle.layout.proofs.Read.{members-le}
use Rattle.steps.specs.Inner.{cell}
use Rattle.lists.proofs.Cases.{not_none}
use Rattle.lists.specs.Lists.{word_at}
use Rattle.walk.specs.Walk.{is_first_other, other_members, walker, xorshift, to_one_of}
use Rattle.walk.specs.Passes.{is_first, Firsts}
use Rattle.walk.proofs.FirstPlaces.{first-mark}

-- ---- one place: x stands there

module _ (ms : List ℕ) (v i x : ℕ) (e : x ≡ get_or ms i 0) where
  pub other-same : x ≡ v → false ≡ is_first_other v ms i
  unfolding is_first_other
  other-same q = rw (← e, eq-eqb x v q)

-- ms are the members of record j
pub other-first : (ms : List ℕ) (v i : ℕ) → (get_or ms i 0 ≡ v → ⊥) → (ws : List ℕ) (j : ℕ) {firsts : List Bool} → Firsts ws firsts → ms ≡ members_at limit ws j → j < hyperedge_count ws
    → i < length ms → get_or firsts (cell j i) false ≡ is_first_other v ms i
unfolding is_first is_first_other
other-first ms v i n ws j w em lj li = first-mark ws w j i ms em lj li ∙ rw (ne_eqb (get_or ms i 0) v n)

-- ---- their number

others-count : (v : ℕ) (ms : List ℕ) → length (other_members v ms) ≡ count (is_first_other v ms) (length ms)
unfolding other_members
others-count v ms = map-length (word_at ms) (chosen (is_first_other v ms) (length ms)) ∙ chosen-count (is_first_other v ms) (length ms)

counted-all : (v : ℕ) (ms : List ℕ) (c i : ℕ) → c ≡ count (is_first_other v ms) i → i ≤ length ms → length ms ≤ i → c ≡ length (other_members v ms)
counted-all v ms c i inv a b = inv ∙ ap (count (is_first_other v ms)) (le_antisymm a b) ∙ sym (others-count v ms)

-- ---- the loop that lists them: the first c places of found are those before place i

pub record Picked (v : ℕ) (ms found : List ℕ) (c i : ℕ) : Type 0 where
  pub few : length ms ≤ vertex_limit
  pub within : i ≤ length ms
  pub at_most : c ≤ i
  pub counted : c ≡ count (is_first_other v ms) i
  pub sized : length found ≡ vertex_limit
  pub taken : take c found ≡ map (word_at ms) (chosen (is_first_other v ms) i)

-- ms are the members of record j
pub members-fit : (ws : List ℕ) → Formed limit ws → (j : ℕ) → j < hyperedge_count ws → (ms : List ℕ) → ms ≡ members_at limit ws j → length ms ≤ vertex_limit
members-fit ws f j h ms e = omega (arith, ap length e, members-le limit ws f j h)

pub picked_none : (v : ℕ) (ms found : List ℕ) → length ms ≤ vertex_limit → length found ≡ vertex_limit → Picked v ms found 0 0
unfolding chosen
picked_none v ms found h l = record { few = h; within = omega arith; at_most = omega arith; counted = refl; sized = l; taken = refl }

module _ (v : ℕ) (ms found : List ℕ) (c i : ℕ) (inv : Picked v ms found c i) where
  module _ (h : i < length ms) (r : Bool) (e : r ≡ is_first_other v ms i) where
    pub picked-skip : r ≡ false → {k : ℕ} {next : List ℕ} → k ≡ c → next ≡ found → Picked v ms next k (i + 1)
    picked-skip q ek en =
        let o : is_first_other v ms i ≡ false = sym e ∙ q in
        rw (ek, en) record {
          few = inv.few;
          within = omega arith;
          at_most = omega (arith, inv.at_most);
          counted = count-out (is_first_other v ms) i c inv.counted c o refl;
          sized = inv.sized;
          taken = rw (chosen-out (is_first_other v ms) i o) inv.taken;
        }

    pub picked-on : r ≡ true → (x : ℕ) → x ≡ get_or ms i 0 → {k : ℕ} {next : List ℕ} → k ≡ c + 1 → next ≡ set found c x → Picked v ms next k (i + 1)
    picked-on q x ex ek en =
        let o : is_first_other v ms i ≡ true = sym e ∙ q in
        let s : c < length found = omega (arith, inv.few, inv.sized, inv.at_most) in
        rw (ek, en) record {
          few = inv.few;
          within = omega arith;
          at_most = omega (arith, inv.at_most);
          counted = count-in (is_first_other v ms) i c inv.counted (c + 1) o refl;
          sized = length-set found c x ∙ inv.sized;
          taken = rw (
            add-one c,
            take-suc (set found c x) c 0 (rw length-set s),
            take-set-le c found c x (omega arith),
            get_or-set_same found c x 0 s,
            chosen-in (is_first_other v ms) i o,
            map_snoc,
            inv.taken,
            ex,
          );
        }

  -- they are the members ks
  module _ (h : length ms ≤ i) (ks : List ℕ) (e : ms ≡ ks) where
    pub picked_all : take c found ≡ other_members v ks
    unfolding other_members
    picked_all = inv.taken ∙ ap (λ (k : ℕ). map (word_at ms) (chosen (is_first_other v ms) k)) (le_antisymm inv.within h) ∙ ap (other_members v) e

    pub picked-many : c ≡ length (other_members v ks)
    picked-many = counted-all v ms c i inv.counted inv.within h ∙ ap (λ (l : List ℕ). length (other_members v l)) e

-- ---- the pick: n is their number

module _ (v state : ℕ) where
  none_left : (os : List ℕ) → length os ≡ 0 → walker v state ≡ to_one_of v state os
  unfolding to_one_of
  none_left [] z = refl
  none_left (o ∷ os) z = absurd (suc-ne-zero (length os) z)

  some_left : (os : List ℕ) → (length os ≡ 0 → ⊥) → walker (get_or os (xorshift state % length os) 0) (xorshift state) ≡ to_one_of v state os
  unfolding to_one_of
  some_left [] z = absurd (z refl)
  some_left (o ∷ os) z = refl

  module _ (os : List ℕ) (n : ℕ) (e : n ≡ length os) where
    pub stays : n ≡ 0 → walker v state ≡ to_one_of v state os
    stays q = none_left os (sym e ∙ q)

    -- the k-th of them stands in the first n places of found
    pub goes : (n ≡ 0 → ⊥) → (draw k x : ℕ) (found : List ℕ) → draw ≡ xorshift state → k ≡ draw % n → take n found ≡ os → x ≡ get_or found k 0 → walker x draw ≡ to_one_of v state os
    goes q draw k x found d m t g =
        let l : k < n = rw m (mod-lt draw (not_none n q)) in
        rw (g, ← get_or-take n found k 0 l, t, m, d, e) (some_left os (λ z. q (e ∙ z)))

pub picked-below : (ws : List ℕ) → Formed limit ws → (v j : ℕ) → j < hyperedge_count ws → (n : ℕ) → n ≡ length (other_members v (members_at limit ws j)) → (n ≡ 0 → ⊥)
    → (draw : ℕ) → draw % n < vertex_limit
picked-below ws f v j h n e q draw =
    omega (arith, mod-lt draw (not_none n q), e, others-count v (members_at limit ws j), count-le (is_first_other v (members_at limit ws j)) (length (members_at limit ws j)), members-le limit ws f j h)
