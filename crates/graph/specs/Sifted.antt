-- What the loop over the unmarked numbers holds. Assumes nothing.
use Rattle.std.specs.Prelude.{◌≡◌, Bool, not, List, ◌++◌, ℕ, ◌+◌, ◌-◌, ◌≤◌, ◌<◌, length, get_or, take}
use Rattle.lists.specs.Lists.{filter}
use Rattle.lists.specs.Tests.{chosen}
use Rattle.graph.specs.Held.{Held, outside}

-- there is no step from x to j
unfoldable pub stays : (ℕ → ℕ → Bool) → ℕ → ℕ → Bool
stays E x j = not (E x j)

-- of the numbers outside q, whose count was t, the first k have been looked at: those with a step from x have joined, the others stand in the first places of r
pub record Sifted (E : ℕ → ℕ → Bool) (n x t : ℕ) (q m o r : List ℕ) (e k : ℕ) : Type 0 where
  pub held : Held n m o e (q ++ filter (E x) (take k (chosen (outside q) n)))
  pub left : k ≤ n - t
  pub count : length (chosen (outside q) n) ≡ n - t
  pub grew : t ≤ e
  pub upto : e ≤ t + k
  pub long : length r ≡ 256
  pub stay : take (t + k - e) r ≡ filter (stays E x) (take k (chosen (outside q) n))
  pub ahead : (i : ℕ) → k ≤ i → i < n - t → get_or r i 0 ≡ get_or (chosen (outside q) n) i 0
