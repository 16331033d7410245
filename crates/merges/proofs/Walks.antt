-- Walks along a relation whose numbers are read through a function, and along one with v and w taken as one. Assumes nothing.
use mathlib.Core.Path.{◌≡◌, refl, sym, ◌∙◌, subst, subst₂}
use Prim.Native.Nat.{ℕ}
use Rattle.lists.proofs.Cases.{on_same}
use Rattle.walks.specs.Walks.{Reach, here, step}
use Rattle.walks.proofs.Walks.{reach-trans}
use Rattle.edits.specs.Edits.{read_as}
use Rattle.edits.proofs.Merged.{read-gone, read-other}
use Rattle.merges.specs.Merges.{StepReadAs, AsOne, own, there, back}

-- a walk whose steps, read through f, are themselves walks
reach-read : {R S : ℕ → ℕ → Type 0} {x y : ℕ} (f : ℕ → ℕ) → ((a b : ℕ) → R a b → Reach S (f a) (f b)) → Reach R x y → Reach S (f x) (f y)
reach-read f h here = here
reach-read f h (step {y = a} {z = b} k r) = reach-trans (reach-read f h k) (h a b r)

module _ (v w : ℕ) where
  -- v and w are both read as v
  pub read_kept : read_as v w v ≡ v
  read_kept = on_same v w (read-gone v w v) (read-other v w v)

  read_same : read_as v w v ≡ read_as v w w
  read_same = read_kept ∙ sym (read-gone v w w refl)

  module _ (R : ℕ → ℕ → Type 0) where
    -- two that are read alike are the same, or are v and w
    alike-reached : (x y : ℕ) → read_as v w x ≡ read_as v w y → Reach (AsOne v w R) x y
    alike-reached x y e =
        on_same x w
        (λ p. on_same y w
        (λ q. subst (Reach (AsOne v w R) x) (p ∙ sym q) here)
        (λ nq. subst₂ (Reach (AsOne v w R)) (sym p) (sym (read-gone v w x p) ∙ e ∙ read-other v w y nq) (step here back)))
        (λ np. on_same y w
        (λ q. subst₂ (Reach (AsOne v w R)) (sym (sym (read-other v w x np) ∙ e ∙ read-gone v w y q)) (sym q) (step here there))
        (λ nq. subst (Reach (AsOne v w R) x) (sym (read-other v w x np) ∙ e ∙ read-other v w y nq) here))

    step-one : (x y : ℕ) → AsOne v w R x y → Reach (StepReadAs v w R) (read_as v w x) (read_as v w y)
    step-one x y (own r) = step here (record { from = x; to = y; step = r; from-reads = refl; to_reads = refl })
    step-one x y there = subst (Reach (StepReadAs v w R) (read_as v w v)) read_same here
    step-one x y back = subst (Reach (StepReadAs v w R) (read_as v w w)) (sym read_same) here

    pub reach-one : {x y : ℕ} → Reach (AsOne v w R) x y → Reach (StepReadAs v w R) (read_as v w x) (read_as v w y)
    reach-one k = reach-read (read_as v w) step-one k

    pub one-reach : {a b : ℕ} → Reach (StepReadAs v w R) a b → (x y : ℕ) → read_as v w x ≡ a → read_as v w y ≡ b → Reach (AsOne v w R) x y
    one-reach here x y p q = alike-reached x y (p ∙ sym q)
    one-reach (step k s) x y p q =
        reach-trans (step (one-reach k x s.from p s.from-reads) (own s.step)) (alike-reached s.to y (s.to_reads ∙ sym q))
