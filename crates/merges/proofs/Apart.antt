-- What no step joins, before and after w is read as v, over any relation. Assumes nothing.
use mathlib.Core.Path.{◌≡◌, refl, sym, ◌∙◌, subst₂}
use mathlib.Core.Logic.{◌⊎◌, inl, inr}
use Prim.Native.Nat.{ℕ}
use Rattle.lists.proofs.Cases.{on_same}
use Rattle.edits.specs.Edits.{read_as}
use Rattle.edits.proofs.Merged.{read-gone, read-other}
use Rattle.merges.specs.Merges.{StepReadAs}
use Rattle.merges.proofs.Walks.{read_kept}

-- no step joins a and b, either way
abbrev pub Apart : (ℕ → ℕ → Type 0) → ℕ → ℕ → Type 0
Apart R a b = (R a b → ⊥) × (R b a → ⊥)

pub apart-map : {R S : ℕ → ℕ → Type 0} → ((a b : ℕ) → S a b → R a b) → (a b : ℕ) → Apart R a b → Apart S a b
apart-map f a b h = (λ s. h.0 (f a b s), λ s. h.1 (f b a s))

-- what is read as another than v is itself
read_back : (v w x y : ℕ) → (v ≡ y → ⊥) → read_as v w x ≡ y → x ≡ y
read_back v w x y ne e = on_same x w (λ p. absurd (ne (sym (read-gone v w x p) ∙ e))) (λ np. sym (read-other v w x np) ∙ e)

module _ (R : ℕ → ℕ → Type 0) (v w : ℕ) where
  -- where no step joins v and w, a step of x to itself was one of w to itself, or of x
  pub self-step : Apart R v w → (x : ℕ) → StepReadAs v w R x x → R w w ⊎ R x x
  self-step a x s =
      on_same s.from w
      (λ p. on_same s.to w
      (λ q. inl (subst₂ R p q s.step))
      (λ nq. absurd (a.1 (subst₂ R p (sym (read-other v w s.to nq) ∙ s.to_reads ∙ sym s.from-reads ∙ read-gone v w s.from p) s.step))))
      (λ np. on_same s.to w
      (λ q. absurd (a.0 (subst₂ R (sym (read-other v w s.from np) ∙ s.from-reads ∙ sym s.to_reads ∙ read-gone v w s.to q) q s.step)))
      (λ nq. inr (subst₂ R (sym (read-other v w s.from np) ∙ s.from-reads) (sym (read-other v w s.to nq) ∙ s.to_reads) s.step)))

  module _ (x : ℕ) (other : x ≡ w → ⊥) (b : Apart (StepReadAs v w R) v x) where
    -- v and x, apart with w read as v, were apart
    pub was-apart : Apart R v x
    was-apart = (
      λ r. b.0 (record { from = v; to = x; step = r; from-reads = read_kept v w; to_reads = read-other v w x other }),
      λ r. b.1 (record { from = x; to = v; step = r; from-reads = read-other v w x other; to_reads = read_kept v w }),
    )

    -- and w is apart from x as from v
    third-apart : Apart R w x
    third-apart = (
      λ r. b.0 (record { from = w; to = x; step = r; from-reads = read-gone v w w refl; to_reads = read-other v w x other }),
      λ r. b.1 (record { from = x; to = w; step = r; from-reads = read-other v w x other; to_reads = read-gone v w w refl }),
    )

    -- so v and w, where they were apart, are apart with x read as v
    pub stays-apart : (v ≡ w → ⊥) → Apart R v w → Apart (StepReadAs v x R) v w
    stays-apart two a = (
      λ s. let q : s.to ≡ w = read_back v x s.to w two s.to_reads in
          on_same s.from x
          (λ p. third-apart.1 (subst₂ R p q s.step))
          (λ np. a.0 (subst₂ R (sym (read-other v x s.from np) ∙ s.from-reads) q s.step)),
      λ s. let p : s.from ≡ w = read_back v x s.from w two s.from-reads in
          on_same s.to x
          (λ q. third-apart.0 (subst₂ R p q s.step))
          (λ nq. a.1 (subst₂ R p (sym (read-other v x s.to nq) ∙ s.to_reads) s.step)),
    )
