-- Relations that hold of live vertices alone: steps, turned steps, links, co-membership. Assumes nothing.
use mathlib.Core.Path.{◌≡◌, refl, sym, ap, ◌∙◌}
use mathlib.Core.Bool.{Bool, true}
use mathlib.Core.Logic.{⊎_elim}
use mathlib.Core.List.{List, [], ◌∷◌}
use Prim.Native.Nat.{ℕ, ◌<◌}
use lib.Dec.{eqb}
use lib.ListN.{length, get_or}
use borrow.Author.Tests.{eqb-true}
use Rattle.lists.specs.Tests.{◌and◌}
use Rattle.lists.specs.Lists.{any, memb, turned}
use Rattle.lists.proofs.Cases.{clash, or-true, or_right, and_left, and_right, and_both}
use Rattle.lists.proofs.All.{all-at}
use Rattle.lists.proofs.Memb.{memb-self, memb-at}
use Rattle.layout.specs.Content.{Table, live_vertices, is_live, members_live, valid, no_hyperedge}
use Rattle.layout.specs.Steps.{steps_of, is_step, makes_step, has_step}
use Rattle.steps.specs.Matrices.{undirected, lists_both, together}
use Rattle.lists.proofs.Any.{any_at, any_of}

-- both ends of the relation are live
abbrev pub Among : List ℕ → (ℕ → ℕ → Bool) → Type 0
Among live R = (x y : ℕ) → R x y ≡ true → (is_live live x ≡ true) × (is_live live y ≡ true)

-- both ends of a list's step are in the list
pub step-members : (x y : ℕ) (ms : List ℕ) → any (is_step x y) (steps_of ms) ≡ true → (memb x ms ≡ true) × (memb y ms ≡ true)
unfolding any steps_of is_step
step-members x y [] e = clash e refl
step-members x y (a ∷ []) e = clash e refl
step-members x y (a ∷ b ∷ ms) e =
    ⊎_elim
    (λ p.
    let pa : a ≡ x = eqb-true a x (and_left (eqb a x) (eqb b y) p) in
    let pb : b ≡ y = eqb-true b y (and_right (eqb a x) (eqb b y) p) in
    (rw pa (memb-self x (b ∷ ms)), or_right (eqb y a) (memb y (b ∷ ms)) (rw pb (memb-self y ms))))
    (λ p. let r = step-members x y (b ∷ ms) p in (or_right (eqb x a) (memb x (b ∷ ms)) r.0, or_right (eqb y a) (memb y (b ∷ ms)) r.1))
    (or-true (eqb a x and eqb b y) (any (is_step x y) (steps_of (b ∷ ms))) e)

-- what stands past the end of the hyperedges
module _ (t : Table) where
  -- a step joins two members of a list
  pub step-together : (x y : ℕ) → has_step t x y ≡ true → together t x y ≡ true
  unfolding has_step makes_step together lists_both
  step-together x y e =
      let r = any_at (makes_step x y) t.hyperedges no_hyperedge e in
      let p = step-members x y (get_or t.hyperedges r.0 no_hyperedge).members r.2 in
      any_of (lists_both x y) t.hyperedges no_hyperedge r.0 r.1 (and_both _ _ p.0 p.1)

  pub together-swap : (x y : ℕ) → together t x y ≡ true → together t y x ≡ true
  unfolding together lists_both
  together-swap x y e =
      let r = any_at (lists_both x y) t.hyperedges no_hyperedge e in
      any_of (lists_both y x) t.hyperedges no_hyperedge r.0 r.1 (and_both _ _ (and_right _ _ r.2) (and_left _ _ r.2))

  module _ (v : valid t ≡ true) where
    -- every member is live
    listed-live : (k : ℕ) → k < length t.hyperedges → (x : ℕ) → memb x (get_or t.hyperedges k no_hyperedge).members ≡ true → is_live (live_vertices t) x ≡ true
    unfolding valid members_live
    listed-live k h x e =
        let ms : List ℕ = (get_or t.hyperedges k no_hyperedge).members in
        let r = memb-at x ms e in
        let l = all-at (members_live (live_vertices t)) t.hyperedges k no_hyperedge (and_right _ _ (and_right _ _ v)) h in
        ap (λ (z : ℕ). memb z (live_vertices t)) (sym r.2) ∙ all-at (is_live (live_vertices t)) ms r.0 0 l r.1

    pub together-among : Among (live_vertices t) (together t)
    unfolding together lists_both
    together-among x y e =
        let r = any_at (lists_both x y) t.hyperedges no_hyperedge e in
        (listed-live r.0 r.1 x (and_left _ _ r.2), listed-live r.0 r.1 y (and_right _ _ r.2))

    pub steps-among : Among (live_vertices t) (has_step t)
    steps-among x y e = together-among x y (step-together x y e)

    pub turned-among : Among (live_vertices t) (turned (has_step t))
    turned-among x y e = let r = steps-among y x e in (r.1, r.0)

    pub links-among : Among (live_vertices t) (undirected t)
    unfolding undirected
    links-among x y e = ⊎_elim (λ p. steps-among x y p) (λ p. turned-among x y p) (or-true (has_step t x y) (has_step t y x) e)
