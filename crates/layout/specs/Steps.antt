-- Steps. Assumes nothing.
use Rattle.std.specs.Prelude.{◌≡◌, Bool, true, List, [], ◌∷◌, ℕ, eqb}
use Rattle.lists.specs.Tests.{◌and◌}
use Rattle.lists.specs.Lists.{any}
use Rattle.layout.specs.Content.{Hyperedge, Table}

-- a step x to y
pub record Step : Type 0 where
  pub from : ℕ
  pub to : ℕ

-- y standing right after x in a list: each such place, in the list's order
unfoldable pub steps_of : List ℕ → List Step
steps_of [] = []
steps_of (x ∷ []) = []
steps_of (x ∷ y ∷ ms) = record { from = x; to = y } ∷ steps_of (y ∷ ms)

-- the step is from a vertex to itself
unfoldable pub same_ends : Step → Bool
same_ends s = eqb s.from s.to

-- the list has two equal neighbours: a place that equals the place after it
unfoldable pub equal_neighbours : List ℕ → Bool
equal_neighbours ms = any same_ends (steps_of ms)

-- the step is x to y
unfoldable pub is_step : ℕ → ℕ → Step → Bool
is_step x y s = eqb s.from x and eqb s.to y

-- the hyperedge makes the step
unfoldable pub makes_step : ℕ → ℕ → Hyperedge → Bool
makes_step x y e = any (is_step x y) (steps_of e.members)

-- there is a step x to y
unfoldable pub has_step : Table → ℕ → ℕ → Bool
has_step t x y = any (makes_step x y) t.hyperedges

-- the same as a relation
abbrev pub StepIn : Table → ℕ → ℕ → Type 0
StepIn t x y = has_step t x y ≡ true
