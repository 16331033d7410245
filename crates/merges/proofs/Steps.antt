-- The steps of lists changed element by element, and of hyperedges whose lists have w read as v. Assumes nothing.
use mathlib.Core.Path.{◌≡◌, refl, sym, ap, ◌∙◌}
use mathlib.Core.Bool.{true}
use mathlib.Core.List.{List, [], ◌∷◌, map}
use Prim.Native.Nat.{ℕ}
use borrow.Author.Tests.{eqb-true, eq-eqb}
use Rattle.lists.specs.Lists.{any}
use Rattle.lists.proofs.Cases.{and_left, and_right, and_both}
use Rattle.lists.proofs.Kept.{any-map, any_at}
use Rattle.layout.specs.Content.{Hyperedge, Table}
use Rattle.layout.specs.Steps.{Step, steps_of, is_step, makes_step, has_step, StepIn}
use Rattle.edits.specs.Edits.{read_as, renamed}
use Rattle.merges.specs.Merges.{StepReadAs}

-- the steps of a changed list are those of the list, both ends changed
abbrev both : (ℕ → ℕ) → Step → Step
both f s = record { from = f s.from; to = f s.to }

steps_map : (f : ℕ → ℕ) (ms : List ℕ) → steps_of (map f ms) ≡ map (both f) (steps_of ms)
unfolding steps_of
steps_map f [] = refl
steps_map f (a ∷ []) = refl
steps_map f (a ∷ b ∷ ms) = ap (λ (r : List Step). record { from = f a; to = f b } ∷ r) (steps_map f (b ∷ ms))

is-itself : (s : Step) → is_step s.from s.to s ≡ true
unfolding is_step
is-itself s = and_both _ _ (eq-eqb s.from s.from refl) (eq-eqb s.to s.to refl)

module _ (v w x y : ℕ) where
  -- ---- one hyperedge

  module _ (e : Hyperedge) where
    abbrev Makes : ℕ → ℕ → Type 0
    Makes a b = makes_step a b e ≡ true

    makes-is : makes_step x y (renamed v w e) ≡ any (λ s. is_step x y (both (read_as v w) s)) (steps_of e.members)
    unfolding makes_step renamed
    makes-is = ap (any (is_step x y)) (steps_map (read_as v w) e.members) ∙ any-map (both (read_as v w)) (is_step x y) (steps_of e.members)

    makes-was : makes_step x y (renamed v w e) ≡ true → StepReadAs v w Makes x y
    unfolding makes_step is_step
    makes-was h =
        let s = any_at (λ s. is_step x y (both (read_as v w) s)) (steps_of e.members) (sym makes-is ∙ h) in
        record {
          from = s.0.from;
          to = s.0.to;
          step = s.2 (is_step s.0.from s.0.to) (is-itself s.0);
          from-reads = eqb-true _ x (and_left _ _ s.1);
          to_reads = eqb-true _ y (and_right _ _ s.1);
        }

    makes-stays : StepReadAs v w Makes x y → makes_step x y (renamed v w e) ≡ true
    unfolding makes_step is_step
    makes-stays r =
        let s = any_at (is_step r.from r.to) (steps_of e.members) r.step in
        makes-is ∙ s.2 (λ s. is_step x y (both (read_as v w) s)) (and_both _ _
        (eq-eqb _ x (ap (read_as v w) (eqb-true _ r.from (and_left _ _ s.1)) ∙ r.from-reads))
        (eq-eqb _ y (ap (read_as v w) (eqb-true _ r.to (and_right _ _ s.1)) ∙ r.to_reads)))

  -- ---- a table u whose hyperedges are those of t, with w read as v

  module _ (t u : Table) (lists : u.hyperedges ≡ map (renamed v w) t.hyperedges) where
    has-is : has_step u x y ≡ any (λ e. makes_step x y (renamed v w e)) t.hyperedges
    unfolding has_step
    has-is = ap (any (makes_step x y)) lists ∙ any-map (renamed v w) (makes_step x y) t.hyperedges

    pub renamed-was : StepIn u x y → StepReadAs v w (StepIn t) x y
    unfolding has_step
    renamed-was h =
        let e = any_at (λ e. makes_step x y (renamed v w e)) t.hyperedges (sym has-is ∙ h) in
        let r = makes-was e.0 e.1 in
        record {
          from = r.from;
          to = r.to;
          step = e.2 (makes_step r.from r.to) r.step;
          from-reads = r.from-reads;
          to_reads = r.to_reads;
        }

    pub renamed-stays : StepReadAs v w (StepIn t) x y → StepIn u x y
    unfolding has_step
    renamed-stays r =
        let e = any_at (makes_step r.from r.to) t.hyperedges r.step in
        has-is ∙ e.2 (λ e. makes_step x y (renamed v w e)) (makes-stays e.0
        (record { from = r.from; to = r.to; step = e.1; from-reads = r.from-reads; to_reads = r.to_reads }))
