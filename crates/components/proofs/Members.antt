-- The classes part what they are made of: each number is in one and in no other, and two of one class are joined. Assumes nothing.
use mathlib.Core.Path.{◌≡◌, refl}
use mathlib.Core.Bool.{Bool, true}
use mathlib.Core.Logic.{⊎_elim}
use mathlib.Core.List.{List, [], ◌∷◌, map}
use Prim.Native.Nat.{ℕ, zero, suc, ◌<◌}
use native.Mathlib.Nat.{lt_irrefl, not-suc-le-zero, le_of_suc-le-suc}
use native.Mathlib.Omega.{arith}
use lib.ListN.{length, get_or}
use Rattle.lists.specs.Tests.{chosen}
use Rattle.lists.specs.Lists.{memb, Ascending, turned}
use Rattle.lists.specs.Inner.{Below}
use Rattle.lists.proofs.Cases.{on, on_same, on_below, clash}
use Rattle.lists.proofs.Memb.{memb-snoc, memb-snoc-self, memb-left, memb-getD, below-memb}
use Rattle.lists.proofs.Any.{any_at}
use Rattle.components.specs.Classes.{roots_of}
use Rattle.components.proofs.Roots.{Equivalence, roots-cover, roots-below, roots-apart}
use Rattle.components.proofs.Ranked.{ranked-snoc}

-- ---- the numbers that pass a test

pub chosen-passes : (p : ℕ → Bool) (n v : ℕ) → memb v (chosen p n) ≡ true → (v < n) × (p v ≡ true)
unfolding chosen
chosen-passes p zero v e = clash e refl
chosen-passes p (suc n) v e =
    on (p n)
    (λ q. ⊎_elim
    (λ a. let r = chosen-passes p n v a in (omega (arith, r.0), r.1))
    (λ a. (omega arith, rw a q))
    (memb-snoc v n (chosen p n) (rw q at e)))
    (λ q. let r = chosen-passes p n v (rw q at e) in (omega (arith, r.0), r.1))

pub chosen-has : (p : ℕ → Bool) (n v : ℕ) → v < n → p v ≡ true → memb v (chosen p n) ≡ true
unfolding chosen
chosen-has p zero v l e = absurd (not-suc-le-zero l)
chosen-has p (suc n) v l e =
    on_same v n
    (λ s. rw (← s, e) (memb-snoc-self v (chosen p v)))
    (λ s.
    let r = chosen-has p n v (omega arith) e in
    on (p n) (λ q. rw q (memb-left v (chosen p n) (n ∷ []) r)) (λ q. rw q r))

pub get_d_map : {A B : Type 0} (g : A → B) (l : List A) (k : ℕ) (a : A) (b : B) → k < length l → get_or (map g l) k b ≡ g (get_or l k a)
get_d_map g [] k a b h = absurd (not-suc-le-zero h)
get_d_map g (x ∷ l) zero a b h = refl
get_d_map g (x ∷ l) (suc k) a b h = get_d_map g l k a b (le_of_suc-le-suc h)

pub chosen-ascends : (p : ℕ → Bool) (n : ℕ) → Ascending (chosen p n)
unfolding chosen
chosen-ascends p zero = λ i j l k. absurd (not-suc-le-zero k)
chosen-ascends p (suc n) =
    on (p n)
    (λ q. rw q (ranked-snoc (λ i j. i < j) (chosen p n) n (chosen-ascends p n) (λ i l. (chosen-passes p n (get_or (chosen p n) i 0) (memb-getD (chosen p n) i l)).0)))
    (λ q. rw q (chosen-ascends p n))

-- ---- classes

module _ {P : ℕ → ℕ → Bool} {n : ℕ} (q : Equivalence P n) where
  pub joined-swap : (a b : ℕ) → a < n → b < n → P a b ≡ true → P b a ≡ true
  joined-swap a b la lb e = q.meet b a b lb la lb (q.alike b lb) e

  module _ (order : List ℕ) (b : Below n order) where
    pub root_in : (k : ℕ) → k < length (roots_of P order) → get_or (roots_of P order) k 0 < n
    root_in k l = below-memb n (roots_of P order) (roots-below P n order b) (get_or (roots_of P order) k 0) (memb-getD (roots_of P order) k l)

    pub class-some : ((v : ℕ) → v < n → memb v order ≡ true) → (v : ℕ) → v < n → (k : ℕ) × (k < length (roots_of P order)) × (P (get_or (roots_of P order) k 0) v ≡ true)
    class-some all v l = any_at (turned P v) (roots_of P order) 0 (roots-cover P n q.alike order b [] v (all v l))

    apart : (j k v : ℕ) → j < k → k < length (roots_of P order) → v < n → P (get_or (roots_of P order) j 0) v ≡ true → P (get_or (roots_of P order) k 0) v ≡ true → ⊥
    apart j k v l lk lv p s =
        let roots : List ℕ = roots_of P order in
        let z : ◌≡◌ {A = ℕ} 0 1 = clash (q.meet (get_or roots j 0) (get_or roots k 0) v (root_in j (omega arith)) (root_in k lk) lv p s) (roots-apart P n order b j k l lk) in
        lt_irrefl 0 (omega (arith, z))

    pub class-only : (j k v : ℕ) → j < length (roots_of P order) → k < length (roots_of P order) → v < n → P (get_or (roots_of P order) j 0) v ≡ true → P (get_or (roots_of P order) k 0) v ≡ true → j ≡ k
    class-only j k v lj lk lv p s =
        on_same j k (λ e. e)
        (λ ne. on_below j k (λ l. absurd (apart j k v l lk lv p s)) (λ l. absurd (apart k j v (omega arith) lj lv s p)))

    pub class-joined : (k u v : ℕ) → k < length (roots_of P order) → u < n → v < n → P (get_or (roots_of P order) k 0) u ≡ true → P (get_or (roots_of P order) k 0) v ≡ true → P u v ≡ true
    class-joined k u v l lu lv p s =
        let r : ℕ = get_or (roots_of P order) k 0 in
        q.meet u v r lu lv (root_in k l) (joined-swap r u (root_in k l) lu p) (joined-swap r v (root_in k l) lv s)

    pub class-whole : (k u v : ℕ) → k < length (roots_of P order) → u < n → v < n → P (get_or (roots_of P order) k 0) u ≡ true → P u v ≡ true → P (get_or (roots_of P order) k 0) v ≡ true
    class-whole k u v l lu lv p s = q.meet (get_or (roots_of P order) k 0) v u (root_in k l) lv lu p (joined-swap u v lu lv s)
