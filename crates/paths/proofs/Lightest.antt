-- The hyperedge of a step: where there is a step it is the lightest, and the only one. Assumes nothing.
use mathlib.Core.Path.{◌≡◌, refl, sym, ap, ◌∙◌, subst}
use mathlib.Core.Bool.{Bool, true, false, not}
use mathlib.Core.Logic.{◌⊎◌, inl, inr, ⊎_elim}
use mathlib.Core.List.{List, [], ◌∷◌, map}
use Prim.Native.Nat.{ℕ, zero, suc, ◌≤◌, ◌<◌}
use native.Mathlib.Nat.{lt_irrefl, not-suc-le-zero}
use native.Mathlib.Omega.{arith}
use lib.Dec.{eqb, ltb}
use lib.ListN.{length, get_or}
use borrow.Author.Tests.{ne_eqb, eqb-false, ltb-true, ltb-false, not-true}
use Rattle.lists.specs.Lists.{Ascending}
use Rattle.lists.proofs.Cases.{on, on_same, on_below, clash, test-ext, and_left, and_right}
use Rattle.lists.proofs.Maps.{map-length}
use Rattle.lists.proofs.Ascend.{ascending-apart}
use Rattle.layout.specs.Content.{Hyperedge, Table, hyperedge_number, live_hyperedges, valid, no_hyperedge}
use Rattle.layout.specs.Steps.{makes_step, has_step}
use Rattle.layout.proofs.Read.{numbered-ascends}
use Rattle.lists.proofs.Any.{any_at, any_of}
use Rattle.paths.specs.Paths.{Lightest, hyperedge_by, weight_by, lighter, choice_among, choice, step_hyperedge, step_cost}

number_at : (es : List Hyperedge) (j : ℕ) → get_or (map hyperedge_number es) j 0 ≡ (get_or es j no_hyperedge).number
number_at [] j = refl
number_at (e ∷ es) zero = refl
number_at (e ∷ es) (suc j) = number_at es j

-- c is the choice among the first k hyperedges
record Among (t : Table) (x y k c : ℕ) : Type 0 where
  some : (i : ℕ) → c ≡ suc i → (i < k) × (makes_step x y (hyperedge_by t (suc i)) ≡ true)
  none : c ≡ 0 → (j : ℕ) → j < k → makes_step x y (hyperedge_by t (suc j)) ≡ false
  least : (i : ℕ) → c ≡ suc i → (j : ℕ) → j < k → makes_step x y (hyperedge_by t (suc j)) ≡ true
      → (weight_by t (suc i) < weight_by t (suc j)) ⊎ ((weight_by t (suc i) ≡ weight_by t (suc j)) × (i ≤ j))

module _ (t : Table) (x y : ℕ) where
  abbrev made : ℕ → Bool
  made j = makes_step x y (hyperedge_by t (suc j))

  among-out : {k c : ℕ} → Among t x y k c → made k ≡ false → Among t x y (suc k) c
  among-out {k} {c} a f = record {
    some = λ i e. let r = a.some i e in (omega (arith, r.0), r.1);
    none = λ e j l. on_same j k (λ q. ap made q ∙ f) (λ q. a.none e j (omega arith));
    least = λ i e j l m. on_same j k (λ q. clash (sym (ap made q) ∙ m) f) (λ q. a.least i e j (omega arith) m);
  }

  -- the new one is chosen: all that make the step among those before it weigh more
  among-new : {k : ℕ} → made k ≡ true → ((j : ℕ) → j < k → made j ≡ true → weight_by t (suc k) < weight_by t (suc j)) → Among t x y (suc k) (suc k)
  among-new {k} m h = record {
    some = λ i e. let q : k ≡ i = cc in (omega arith, ap made (sym q) ∙ m);
    none = λ e. absurd (lt_irrefl 0 (omega arith));
    least = λ i e j l n. let q : k ≡ i = cc in on_same j k
        (λ p. inr (ap (λ (z : ℕ). weight_by t (suc z)) (sym q ∙ sym p), omega arith))
        (λ p. inl (subst (λ (z : ℕ). weight_by t (suc z) < weight_by t (suc j)) q (h j (omega arith) n)));
  }

  -- the old one is kept: the new one weighs no less
  among-old : {k i : ℕ} → Among t x y k (suc i) → weight_by t (suc i) ≤ weight_by t (suc k) → Among t x y (suc k) (suc i)
  among-old {k} {i} a le = record {
    some = λ z e. let r = a.some z e in (omega (arith, r.0), r.1);
    none = λ e. absurd (lt_irrefl 0 (omega arith));
    least = λ z e j l m. let q : i ≡ z = cc in on_same j k
        (λ p. on_below (weight_by t (suc i)) (weight_by t (suc k))
        (λ u. inl (omega (arith, ap (λ (b : ℕ). weight_by t (suc b)) p, ap (λ (b : ℕ). weight_by t (suc b)) q)))
        (λ u. inr (omega (arith, ap (λ (b : ℕ). weight_by t (suc b)) p, ap (λ (b : ℕ). weight_by t (suc b)) q), omega (arith, (a.some i refl).0))))
        (λ p. a.least z e j (omega arith) m);
  }

  among_in : (k c : ℕ) → Among t x y k c → made k ≡ true → Among t x y (suc k) (lighter (weight_by t) c (suc k))
  unfolding lighter
  among_in k zero a m = among-new m (λ j l n. clash n (a.none refl j l))
  among_in k (suc i) a m =
      on (ltb (weight_by t (suc k)) (weight_by t (suc i)))
      (λ e. rw e (among-new m (λ j l n. ⊎_elim
      (λ (p : weight_by t (suc i) < weight_by t (suc j)). omega (arith, ltb-true (weight_by t (suc k)) (weight_by t (suc i)) e))
      (λ (p : (weight_by t (suc i) ≡ weight_by t (suc j)) × (i ≤ j)). omega (arith, p.0, ltb-true (weight_by t (suc k)) (weight_by t (suc i)) e))
      (a.least i refl j l n))))
      (λ e. rw e (among-old a (ltb-false (weight_by t (suc k)) (weight_by t (suc i)) e)))

  among-is : (k : ℕ) → Among t x y k (choice_among t k x y)
  unfolding choice_among
  among-is zero = record {
    some = λ i e. absurd (lt_irrefl 0 (omega arith));
    none = λ e j l. absurd (not-suc-le-zero l);
    least = λ i e. absurd (lt_irrefl 0 (omega arith));
  }
  among-is (suc k) =
      on (made k)
      (λ e. rw e (among_in k (choice_among t k x y) (among-is k) e))
      (λ e. rw e (among-out (among-is k) e))

  chosen_is : Among t x y (length t.hyperedges) (choice t x y)
  unfolding choice
  chosen_is = among-is (length t.hyperedges)

  positive : (c : ℕ) → (c ≡ 0 → ⊥) → (i : ℕ) × (c ≡ suc i)
  positive zero h = absurd (h refl)
  positive (suc i) h = (i, refl)

  -- where there is a step there is a choice
  choice-some : has_step t x y ≡ true → (i : ℕ) × (choice t x y ≡ suc i)
  unfolding has_step
  choice-some e =
      let r = any_at (makes_step x y) t.hyperedges no_hyperedge e in
      positive (choice t x y) (λ z. clash r.2 (chosen_is.none z r.0 r.1))

  made-step : (i : ℕ) → i < length t.hyperedges → made i ≡ true → has_step t x y ≡ true
  unfolding has_step
  made-step i l m = any_of (makes_step x y) t.hyperedges no_hyperedge i l m

  pub choice-step : not (eqb (choice t x y) 0) ≡ has_step t x y
  choice-step =
      test-ext (not (eqb (choice t x y) 0)) (has_step t x y)
      (λ e. let r = positive (choice t x y) (eqb-false (choice t x y) 0 (not-true (eqb (choice t x y) 0) e)) in
      let s = chosen_is.some r.0 r.1 in made-step r.0 s.0 s.1)
      (λ e. let r = choice-some e in ap not (ne_eqb (choice t x y) 0 (λ z. lt_irrefl 0 (omega (arith, r.1)))))

  module _ (v : valid t ≡ true) where
    rises : Ascending (live_hyperedges t)
    unfolding valid
    rises = numbered-ascends (live_hyperedges t) t.next_hyperedge (and_left _ _ (and_right _ _ v))

    live-number : (j : ℕ) → get_or (live_hyperedges t) j 0 ≡ (get_or t.hyperedges j no_hyperedge).number
    live-number j = number_at t.hyperedges j

    in_order : (i j : ℕ) → i ≤ j → j < length t.hyperedges → (get_or t.hyperedges i no_hyperedge).number ≤ (get_or t.hyperedges j no_hyperedge).number
    in_order i j le l =
        on_same i j
        (λ q. omega (arith, ap (λ (z : ℕ). (get_or t.hyperedges z no_hyperedge).number) q))
        (λ q. omega (arith, live-number i, live-number j, rises i j (omega arith) (rw (map-length hyperedge_number t.hyperedges) l)))

    -- the choice is the lightest
    pub lightest-is : has_step t x y ≡ true → Lightest t x y (hyperedge_by t (choice t x y))
    lightest-is e =
        let r = choice-some e in
        let i : ℕ = r.0 in
        let a = chosen_is in
        let s = a.some i r.1 in
        subst (λ (c : ℕ). Lightest t x y (hyperedge_by t c)) (sym r.1) (record {
          place = i;
          within = s.0;
          here = refl;
          makes = s.1;
          least = λ j l m. ⊎_elim
              (λ (p : weight_by t (suc i) < weight_by t (suc j)). omega arith)
              (λ (p : (weight_by t (suc i) ≡ weight_by t (suc j)) × (i ≤ j)). omega (arith, p.0))
              (a.least i r.1 j l m);
          lowest = λ j l m q. ⊎_elim
              (λ (p : weight_by t (suc i) < weight_by t (suc j)). absurd (lt_irrefl (weight_by t (suc i)) (omega (arith, q))))
              (λ (p : (weight_by t (suc i) ≡ weight_by t (suc j)) × (i ≤ j)). in_order i j p.1 l)
              (a.least i r.1 j l m);
        })

    -- no two are the lightest
    lightest-one : {e f : Hyperedge} → Lightest t x y e → Lightest t x y f → e ≡ f
    lightest-one {e} {f} a b =
        let ea : makes_step x y (get_or t.hyperedges a.place no_hyperedge) ≡ true = ap (makes_step x y) a.here ∙ a.makes in
        let eb : makes_step x y (get_or t.hyperedges b.place no_hyperedge) ≡ true = ap (makes_step x y) b.here ∙ b.makes in
        let wa : (get_or t.hyperedges a.place no_hyperedge).weight ≡ e.weight = ap (λ (h : Hyperedge). h.weight) a.here in
        let wb : (get_or t.hyperedges b.place no_hyperedge).weight ≡ f.weight = ap (λ (h : Hyperedge). h.weight) b.here in
        let na : (get_or t.hyperedges a.place no_hyperedge).number ≡ e.number = ap (λ (h : Hyperedge). h.number) a.here in
        let nb : (get_or t.hyperedges b.place no_hyperedge).number ≡ f.number = ap (λ (h : Hyperedge). h.number) b.here in
        let w : e.weight ≡ f.weight = omega (arith, a.least b.place b.within eb, b.least a.place a.within ea) in
        let n : e.number ≡ f.number =
        omega (arith, a.lowest b.place b.within eb (wb ∙ sym w), b.lowest a.place a.within ea (wa ∙ w)) in
        on_same a.place b.place
        (λ q. sym a.here ∙ ap (λ (z : ℕ). get_or t.hyperedges z no_hyperedge) q ∙ b.here)
        (λ q. absurd (ascending-apart (live_hyperedges t) rises a.place b.place (rw (map-length hyperedge_number t.hyperedges) a.within) (rw (map-length hyperedge_number t.hyperedges) b.within) q
        (live-number a.place ∙ na ∙ n ∙ sym nb ∙ sym (live-number b.place))))

    -- what is the lightest gives the step its hyperedge and its cost
    pub lightest-only : {e : Hyperedge} → Lightest t x y e → (e.number ≡ step_hyperedge t x y) × (e.weight ≡ step_cost t x y)
    unfolding step_hyperedge step_cost
    lightest-only {e} a =
        let s : has_step t x y ≡ true = made-step a.place a.within (ap (makes_step x y) a.here ∙ a.makes) in
        let q : e ≡ hyperedge_by t (choice t x y) = lightest-one a (lightest-is s) in
        (ap (λ (h : Hyperedge). h.number) q, ap (λ (h : Hyperedge). h.weight) q)
