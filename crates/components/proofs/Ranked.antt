-- An order in which each number comes before all after it: so do its roots, and each root is the first of its class. Assumes nothing.
use mathlib.Core.Path.{◌≡◌, refl, sym, ◌∙◌, subst}
use mathlib.Core.Bool.{Bool, true, false}
use mathlib.Core.Logic.{⊎_elim}
use mathlib.Core.List.{List, [], ◌∷◌, ◌++◌, append-nil}
use Prim.Native.Nat.{ℕ, zero, suc, ◌<◌, suc-le-suc}
use native.Mathlib.Nat.{not-suc-le-zero, zero-lt-suc}
use native.Mathlib.Omega.{arith}
use lib.Dec.{eqb}
use lib.ListN.{length, get_or, length-append, get_or-append}
use lib.Seq.{get_or-append_seam, append_snoc}
use Rattle.lists.specs.Lists.{memb, any, turned}
use Rattle.lists.specs.Inner.{Below}
use Rattle.lists.proofs.Cases.{on, on_same, clash, or_right}
use Rattle.lists.proofs.Memb.{memb-self, memb-snoc, memb-snoc-self, memb-left, memb-getD, memb-at, below-memb, below-snoc}
use Rattle.lists.proofs.Any.{any_snoc, any_at, any_of}
use Rattle.components.specs.Classes.{rooted, roots_from, roots_of}
use Rattle.components.proofs.Roots.{Equivalence, rooted-old, rooted-new, joined-more}

-- each comes before all that stand after it
abbrev pub Ranked : (ℕ → ℕ → Type 0) → List ℕ → Type 0
Ranked Before l = (i j : ℕ) → i < j → j < length l → Before (get_or l i 0) (get_or l j 0)

pub ranked-snoc : (Before : ℕ → ℕ → Type 0) (l : List ℕ) (y : ℕ) → Ranked Before l → ((i : ℕ) → i < length l → Before (get_or l i 0) y) → Ranked Before (l ++ (y ∷ []))
ranked-snoc Before l y h b i j k lj =
    let li : i < length l = omega (arith, length-append l (y ∷ [])) in
    on_same j (length l)
    (λ s. rw (s, get_or-append_seam l y [] 0, get_or-append l (y ∷ []) 0 i li) (b i li))
    (λ s.
    let m : j < length l = omega (arith, length-append l (y ∷ [])) in
    rw (get_or-append l (y ∷ []) 0 j m, get_or-append l (y ∷ []) 0 i li) (h i j k m))

-- the roots of what is passed of an order
pub record Led (P : ℕ → ℕ → Bool) (n : ℕ) (Before : ℕ → ℕ → Type 0) (passed roots : List ℕ) : Type 0 where
  pub below : Below n passed
  pub among : (r : ℕ) → memb r roots ≡ true → memb r passed ≡ true
  pub cover : (v : ℕ) → memb v passed ≡ true → any (turned P v) roots ≡ true
  pub first : (r v : ℕ) → memb r roots ≡ true → memb v passed ≡ true → P r v ≡ true → (r ≡ v → ⊥) → Before r v
  pub ranked : Ranked Before roots

module _ {P : ℕ → ℕ → Bool} {n : ℕ} (q : Equivalence P n) (Before : ℕ → ℕ → Type 0) where
  led-none : Led P n Before [] []
  led-none = record {
    below = tt;
    among = λ r m. m;
    cover = λ v m. clash m refl;
    first = λ r v m. clash m refl;
    ranked = λ i j l k. absurd (not-suc-le-zero k);
  }

  module _ {passed roots : List ℕ} (h : Led P n Before passed roots) (r : ℕ) (lr : r < n) (after : (p : ℕ) → memb p passed ≡ true → Before p r) where
    root-after : (x v : ℕ) → memb x roots ≡ true → v ≡ r → Before x v
    root-after x v m s = subst (Before x) (sym s) (after x (h.among x m))

    led-old : any (turned P r) roots ≡ true → Led P n Before (passed ++ (r ∷ [])) roots
    led-old e = record {
      below = below-snoc n passed r h.below lr;
      among = λ x m. memb-left x passed (r ∷ []) (h.among x m);
      cover = λ v m. ⊎_elim (λ a. h.cover v a) (λ s. rw s e) (memb-snoc v r passed m);
      first = λ x v m w p ne. ⊎_elim (λ a. h.first x v m a p ne) (λ s. root-after x v m s) (memb-snoc v r passed w);
      ranked = h.ranked;
    }

    -- what is passed is in the class of an old root
    apart : (v : ℕ) → any (turned P r) roots ≡ false → memb v passed ≡ true → P r v ≡ true → ⊥
    apart v e m p =
        let k = any_at (turned P v) roots 0 (h.cover v m) in
        let x : ℕ = get_or roots k.0 0 in
        let lx : x < n = below-memb n passed h.below x (h.among x (memb-getD roots k.0 k.1)) in
        clash (any_of (turned P r) roots 0 k.0 k.1 (q.meet x r v lx lr (below-memb n passed h.below v m) k.2 p)) e

    led-new : any (turned P r) roots ≡ false → Led P n Before (passed ++ (r ∷ [])) (roots ++ (r ∷ []))
    led-new e = record {
      below = below-snoc n passed r h.below lr;
      among = λ x m. ⊎_elim (λ a. memb-left x passed (r ∷ []) (h.among x a)) (λ s. rw s (memb-snoc-self r passed)) (memb-snoc x r roots m);
      cover = λ v m. ⊎_elim
          (λ a. joined-more P v roots r (h.cover v a))
          (λ s. rw s (any_snoc (turned P r) roots r ∙ or_right (any (turned P r) roots) (P r r) (q.alike r lr)))
          (memb-snoc v r passed m);
      first = λ x v m w p ne. ⊎_elim
          (λ a. ⊎_elim (λ b. h.first x v a b p ne) (λ s. root-after x v a s) (memb-snoc v r passed w))
          (λ t. ⊎_elim (λ b. absurd (apart v e b (subst (λ (z : ℕ). P z v ≡ true) t p))) (λ s. absurd (ne (t ∙ sym s))) (memb-snoc v r passed w))
          (memb-snoc x r roots m);
      ranked = ranked-snoc Before roots r h.ranked (λ i l. after (get_or roots i 0) (h.among (get_or roots i 0) (memb-getD roots i l)));
    }

    led-more : Led P n Before (passed ++ (r ∷ [])) (rooted P roots r)
    led-more = on (any (turned P r) roots) (λ e. rw (rooted-old P roots r e) (led-old e)) (λ e. rw (rooted-new P roots r e) (led-new e))

  led-rest : (rs : List ℕ) → Below n rs → Ranked Before rs → (passed roots : List ℕ) → Led P n Before passed roots
      → ((p v : ℕ) → memb p passed ≡ true → memb v rs ≡ true → Before p v) → Led P n Before (passed ++ rs) (roots_from P roots rs)
  unfolding roots_from
  led-rest [] b k passed roots h a = subst (λ (l : List ℕ). Led P n Before l roots) (sym (append-nil passed)) h
  led-rest (r ∷ rs) b k passed roots h a =
      let next : (v : ℕ) → memb v rs ≡ true → Before r v =
      λ v m. let i = memb-at v rs m in subst (Before r) i.2 (k zero (suc i.0) (zero-lt-suc i.0) (suc-le-suc i.1)) in
      subst (λ (l : List ℕ). Led P n Before l (roots_from P (rooted P roots r) rs)) (append_snoc passed r rs)
      (led-rest rs b.1 (λ i j l lj. k (suc i) (suc j) (suc-le-suc l) (suc-le-suc lj)) (passed ++ (r ∷ [])) (rooted P roots r)
      (led-more h r b.0 (λ p m. a p r m (memb-self r rs)))
      (λ p v m w. ⊎_elim (λ c. a p v c (or_right (eqb v r) (memb v rs) w)) (λ s. subst (λ (z : ℕ). Before z v) (sym s) (next v w)) (memb-snoc p r passed m)))

  -- all of it is passed
  pub roots-led : (order : List ℕ) → Below n order → Ranked Before order → Led P n Before order (roots_of P order)
  roots-led order b k = led-rest order b k [] [] led-none (λ p v m. clash m refl)
