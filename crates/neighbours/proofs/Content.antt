-- Equal neighbours and steps from a vertex to itself, and what each edit leaves of a content without them. Assumes nothing.
use mathlib.Core.Path.{◌≡◌, refl, sym, ap, ◌∙◌}
use mathlib.Core.Bool.{Bool, true, false, not}
use mathlib.Core.Logic.{⊎_elim}
use mathlib.Core.List.{List, [], ◌∷◌}
use Prim.Native.Nat.{ℕ}
use lib.Dec.{eqb}
use borrow.Author.Tests.{eqb-true, eq-eqb, not-true, not-false}
use Rattle.lists.specs.Tests.{◌and◌}
use Rattle.lists.specs.Lists.{all, any, other_than}
use Rattle.lists.proofs.Cases.{on, clash, and_left, and_right, and_both}
use Rattle.lists.proofs.All.{all_join}
use Rattle.lists.proofs.Kept.{all_then, all_map, all-kept, any_at}
use Rattle.layout.specs.Content.{Hyperedge, Table, hyperedge_number}
use Rattle.layout.specs.WellFormed.{holdable}
use Rattle.layout.specs.Steps.{Step, steps_of, same_ends, equal_neighbours, is_step, makes_step, has_step, StepIn}
use Rattle.edits.specs.Edits.{add_vertex, add_hyperedge, with_members, update_hyperedge, merge_vertices, remove_hyperedge}
use Rattle.edits.proofs.Merged.{Mergeable}
use Rattle.merges.proofs.Apart.{self-step}
use Rattle.merges.proofs.Content.{apart_of, step_left}
use Rattle.neighbours.specs.Neighbours.{neighbours_differ, none_twice}

-- all fail the test exactly when none passes it
all-not : {A : Type 0} (p : A → Bool) (xs : List A) → all (λ x. not (p x)) xs ≡ not (any p xs)
unfolding all any ◌and◌
all-not p [] = refl
all-not p (x ∷ xs) = on (p x) (λ e. rw e) (λ e. rw e (all-not p xs))

-- ---- a step to itself is a place with two equal neighbours

-- a step of x to x has the same ends, and a step with the same ends is one of its first end to itself
same-is : (x : ℕ) (s : Step) → is_step x x s ≡ true → same_ends s ≡ true
unfolding is_step same_ends
same-is x s h = eq-eqb s.from s.to (eqb-true s.from x (and_left _ _ h) ∙ sym (eqb-true s.to x (and_right _ _ h)))

is_same_lem : (s : Step) → same_ends s ≡ true → is_step s.from s.from s ≡ true
unfolding is_step same_ends
is_same_lem s h = and_both _ _ (eq-eqb s.from s.from refl) (eq-eqb s.to s.from (sym (eqb-true s.from s.to h)))

module _ (t : Table) where
  -- the list of a hyperedge has two equal neighbours
  abbrev has_twice : Hyperedge → Bool
  has_twice e = equal_neighbours e.members

  none_is : none_twice t ≡ not (any has_twice t.hyperedges)
  unfolding none_twice neighbours_differ
  none_is = all-not has_twice t.hyperedges

  -- where no list has two equal neighbours, no vertex has a step to itself
  pub no-self-step : none_twice t ≡ true → (x : ℕ) → StepIn t x x → ⊥
  unfolding has_step makes_step equal_neighbours
  no-self-step n x h =
      let e = any_at (makes_step x x) t.hyperedges h in
      let s = any_at (is_step x x) (steps_of e.0.members) e.1 in
      clash (e.2 has_twice (s.2 same_ends (same-is x s.0 s.1))) (not-true (any has_twice t.hyperedges) (sym none_is ∙ n))

  -- and where none has, no list has two
  pub none-twice-by-steps : ((x : ℕ) → StepIn t x x → ⊥) → none_twice t ≡ true
  unfolding has_step makes_step equal_neighbours
  none-twice-by-steps none =
      on (none_twice t) (λ n. n)
      (λ n. let e = any_at has_twice t.hyperedges (not-false (any has_twice t.hyperedges) (sym none_is ∙ n)) in
      let s = any_at same_ends (steps_of e.0.members) e.1 in
      let x : ℕ = s.0.from in
      absurd (none x (e.2 (makes_step x x) (s.2 (is_step x x) (is_same_lem s.0 s.1)))))

-- ---- the edits

module _ (t : Table) (n : none_twice t ≡ true) where
  pub vertex-added : (w : ℕ) → none_twice (add_vertex w t) ≡ true
  unfolding none_twice add_vertex
  vertex-added w = n

  -- a list without two equal neighbours, added or in place of another
  module _ (ms : List ℕ) (differ : equal_neighbours ms ≡ false) where
    pub hyperedge-added : (w : ℕ) → none_twice (add_hyperedge ms w t) ≡ true
    unfolding none_twice neighbours_differ add_hyperedge all
    hyperedge-added w = all_join neighbours_differ t.hyperedges _ n (and_both _ _ (ap not differ) refl)

    pub hyperedge-updated : (x : ℕ) → none_twice (update_hyperedge x ms t) ≡ true
    unfolding none_twice neighbours_differ update_hyperedge with_members
    hyperedge-updated x =
        all_map (with_members x ms) neighbours_differ t.hyperedges
        ∙ all_then neighbours_differ _ t.hyperedges (λ e k. on (eqb e.number x) (λ q. rw q (ap not differ)) (λ q. rw q k)) n

  pub vertices-merged : (L v w : ℕ) → holdable L t ≡ true → Mergeable v w t → none_twice (merge_vertices v w t) ≡ true
  vertices-merged L v w h m =
      none-twice-by-steps (merge_vertices v w t) (λ x s. ⊎_elim (no-self-step t n w) (no-self-step t n x)
      (self-step (StepIn t) v w (apart_of v w t m.apart) x (step_left L v w t h m.two x x s)))

  pub hyperedge-removed : (x : ℕ) → none_twice (remove_hyperedge x t) ≡ true
  unfolding none_twice remove_hyperedge
  hyperedge-removed x = all-kept (other_than hyperedge_number x) neighbours_differ t.hyperedges n
