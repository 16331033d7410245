-- A record is cut where its first mate does not reach every mate without it. Assumes nothing.
use mathlib.Core.Path.{◌≡◌, refl, sym, ap, ◌∙◌, subst}
use mathlib.Core.Bool.{Bool, true, false, not}
use mathlib.Core.Logic.{◌⊎◌, inl, inr, ⊎_elim}
use mathlib.Core.List.{List}
use Prim.Native.Nat.{ℕ, ◌≤◌, ◌<◌}
use native.Mathlib.Omega.{arith}
use lib.Dec.{eqb}
use lib.ListN.{get_or}
use borrow.Author.Tests.{ne_eqb, eqb-true, eqb-false, not-true, not-false}
use Rattle.lists.specs.Tests.{◌and◌, every}
use Rattle.lists.proofs.Cases.{on, on_same, clash, and_left, and_right, and_both, or-true, or-false-left, or-false-right}
use Rattle.lists.proofs.Count.{find}
use Rattle.lists.proofs.Every.{every-at, every_of}
use Rattle.walks.specs.Walks.{Reach, here, step}
use Rattle.walks.proofs.Walks.{reach-trans, reach-map}
use Rattle.graph.specs.Reach.{Edge, Symmetric}
use Rattle.graph.specs.Post.{Reached}
use Rattle.steps.proofs.Together.{reach-swap}
use Rattle.cut.specs.State.{avoiding, stopping, is_mate, FirstMate, is_kept, CutIn, Decides}

other : (x v : ℕ) → (x ≡ v → ⊥) → not (eqb x v) ≡ true
other x v ne = rw (ne_eqb x v ne)

other-has : (x v : ℕ) → not (eqb x v) ≡ true → x ≡ v → ⊥
other-has x v e = eqb-false x v (not-true (eqb x v) e)

module _ (E : ℕ → ℕ → Bool) (n v : ℕ) where
  -- ---- steps without v

  avoid : {x y : ℕ} → (x ≡ v → ⊥) → (y ≡ v → ⊥) → Edge E n x y → Edge (avoiding E v) n x y
  unfolding avoiding
  avoid {x} {y} nx ny e = (e.0, e.1, and_both _ _ (and_both _ _ (other x v nx) (other y v ny)) e.2)

  avoid-ends : {x y : ℕ} → Edge (avoiding E v) n x y → (x ≡ v → ⊥) × (y ≡ v → ⊥) × (E x y ≡ true)
  unfolding avoiding
  avoid-ends {x} {y} e =
      let r = and_left (not (eqb x v) and not (eqb y v)) (E x y) e.2 in
      (other-has x v (and_left _ _ r), other-has y v (and_right _ _ r), and_right _ _ e.2)

  -- a walk without v does not come to v
  clear : {x y : ℕ} → (x ≡ v → ⊥) → Reach (Edge (avoiding E v) n) x y → y ≡ v → ⊥
  clear ne here = ne
  clear ne (step w e) = (avoid-ends e).1

  -- where nothing leads on from v, every other record is reached without v
  stop-avoid : {x y : ℕ} → Reach (Edge (stopping E v) n) x y → (y ≡ v → ⊥) → Reach (Edge (avoiding E v) n) x y
  unfolding stopping
  stop-avoid here ny = here
  stop-avoid (step {y = u} {z = y} w e) ny =
      let nu : u ≡ v → ⊥ = other-has u v (and_left _ _ e.2) in
      step (stop-avoid w nu) (avoid nu ny (e.0, e.1, and_right _ _ e.2))

  avoid-stop : {x y : ℕ} → Reach (Edge (avoiding E v) n) x y → Reach (Edge (stopping E v) n) x y
  unfolding stopping
  avoid-stop w = reach-map (λ x y e. let r = avoid-ends e in (e.0, e.1, and_both _ _ (other x v r.0) r.2)) w

  -- ---- mates

  mate-has : {j : ℕ} → is_mate E v j ≡ true → (j ≡ v → ⊥) × (E v j ≡ true)
  unfolding is_mate
  mate-has {j} e = (other-has j v (and_left _ _ e), and_right _ _ e)

  mate-of : {j : ℕ} → (j ≡ v → ⊥) → E v j ≡ true → is_mate E v j ≡ true
  unfolding is_mate
  mate-of {j} ne e = and_both _ _ (other j v ne) e

  kept-marked : (marks : List ℕ) (j : ℕ) → is_kept E v marks j ≡ true → is_mate E v j ≡ true → get_or marks j 0 ≡ 1
  unfolding is_kept
  kept-marked marks j e m =
      ⊎_elim (λ (p : not (is_mate E v j) ≡ true). clash m (not-true (is_mate E v j) p)) (λ p. eqb-true (get_or marks j 0) 1 p) (or-true (not (is_mate E v j)) (eqb (get_or marks j 0) 1) e)

  lost-mate : (marks : List ℕ) (j : ℕ) → is_kept E v marks j ≡ false → (is_mate E v j ≡ true) × (get_or marks j 0 ≡ 1 → ⊥)
  unfolding is_kept
  lost-mate marks j e = (
    on (is_mate E v j) (λ p. p) (λ p. clash (ap not p) (or-false-left (not (is_mate E v j)) (eqb (get_or marks j 0) 1) e)),
    eqb-false (get_or marks j 0) 1 (or-false-right (not (is_mate E v j)) (eqb (get_or marks j 0) 1) e),
  )

  module _ (both : Symmetric E n) where
    back : {x y : ℕ} → Reach (Edge (avoiding E v) n) x y → Reach (Edge (avoiding E v) n) y x
    back w = reach-swap (λ x y e. let r = avoid-ends e in avoid r.1 r.0 (e.1, e.0, sym (both x y e.0 e.1) ∙ r.2)) w

    -- a walk from another record goes without v, or comes without v to a mate of v
    meets : {x y : ℕ} → (x ≡ v → ⊥) → Reach (Edge E n) x y
        → Reach (Edge (avoiding E v) n) x y ⊎ ((u : ℕ) × (u < n) × (is_mate E v u ≡ true) × Reach (Edge (avoiding E v) n) x u)
    meets nx here = inl here
    meets {x} nx (step {y = a} {z = b} w e) =
        ⊎_elim
        (λ (p : Reach (Edge (avoiding E v) n) x a). on_same b v
        (λ s. inr (a, e.0, mate-of (clear nx p) (sym (both a v e.0 (subst (λ (i : ℕ). i < n) s e.1)) ∙ subst (λ (i : ℕ). E a i ≡ true) s e.2), p))
        (λ nb. inl (step p (avoid (clear nx p) nb e))))
        (λ (p : (u : ℕ) × (u < n) × (is_mate E v u ≡ true) × Reach (Edge (avoiding E v) n) x u). inr p)
        (meets nx w)

    -- the two that v parts both come to a mate of v
    mate-met : {x y : ℕ} → (x ≡ v → ⊥) → Reach (Edge E n) x y → (Reach (Edge (avoiding E v) n) x y → ⊥)
        → (u : ℕ) × (u < n) × (is_mate E v u ≡ true) × Reach (Edge (avoiding E v) n) x u
    mate-met {x} {y} nx w apart =
        ⊎_elim (λ (p : Reach (Edge (avoiding E v) n) x y). absurd (apart p)) (λ (p : (u : ℕ) × (u < n) × (is_mate E v u ≡ true) × Reach (Edge (avoiding E v) n) x u). p) (meets nx w)

    -- without a mate, v is not cut
    pub cut-none : {r : ℕ} → FirstMate E n v r → n ≤ r → Decides false (CutIn E n v)
    cut-none f l = record {
      yes = λ c. clash c refl;
      no = λ _ c.
          let p = mate-met c.a-other c.linked c.parted in
          clash p.2 (f.none p.0 (omega (arith, p.1)));
    }

    module _ {a : ℕ} (f : FirstMate E n v a) (a-below : a < n) (lv : v < n) {marks : List ℕ} (m : Reached (stopping E v) n a marks) where
      -- a marked mate is not out of reach
      marked-near : (u : ℕ) → u < n → is_mate E v u ≡ true → get_or marks u 0 ≡ 1 → (Reach (Edge (avoiding E v) n) a u → ⊥) → ⊥
      marked-near u l p e h =
          let z : get_or marks u 0 ≡ 0 = m.no u l (λ w. h (stop-avoid w (mate-has p).0)) in
          omega arith

      all_near : every (is_kept E v marks) n ≡ true → CutIn E n v → ⊥
      all_near k c =
          let p = mate-met c.a-other c.linked c.parted in
          let q = mate-met c.b-other (reach-swap (λ x y e. (e.1, e.0, sym (both x y e.0 e.1) ∙ e.2)) c.linked) (λ w. c.parted (back w)) in
          marked-near p.0 p.1 p.2 (kept-marked marks p.0 (every-at (is_kept E v marks) n p.0 k p.1) p.2)
          (λ x. marked-near q.0 q.1 q.2 (kept-marked marks q.0 (every-at (is_kept E v marks) n q.0 k q.1) q.2)
          (λ y. c.parted (reach-trans p.3 (reach-trans (back x) (reach-trans y (back q.3))))))

      parted-by : (j : ℕ) → j < n → is_kept E v marks j ≡ false → CutIn E n v
      parted-by j l e =
          let b = lost-mate marks j e in
          let p = mate-has (f.found a-below) in
          let q = mate-has b.0 in
          record {
            a = a;
            b = j;
            a-other = p.0;
            b-other = q.0;
            linked = step (step here (a-below, lv, sym (both v a lv a-below) ∙ p.1)) (lv, l, q.1);
            parted = λ w. b.1 (m.yes j l (avoid-stop w));
          }

      -- r is what `all_kept` found
      pub cut-found : (r : Bool) → r ≡ every (is_kept E v marks) n → Decides (not r) (CutIn E n v)
      cut-found r e = record {
        yes = λ c. ⊎_elim
            (λ (p : (x : ℕ) × (x < n) × (is_kept E v marks x ≡ false)). parted-by p.0 p.1 p.2)
            (λ (h : (i : ℕ) → i < n → is_kept E v marks i ≡ true). clash (e ∙ every_of (is_kept E v marks) n h) (not-true r c))
            (find (is_kept E v marks) n);
        no = λ c. all_near (sym e ∙ not-false r c);
      }
