-- The strong components of a relation among the numbers below n. Assumes nothing.
use Rattle.std.specs.Prelude.{Bool, List, reverse, ℕ}
use Rattle.lists.specs.Tests.{◌and◌}
use Rattle.depth.specs.Finish.{finished}
use Rattle.components.specs.Classes.{reached, classes}

-- each is reached from the other
unfoldable pub mutually_reached : (ℕ → ℕ → Bool) → ℕ → ℕ → ℕ → Bool
mutually_reached E n x y = reached E n x y and reached E n y x

-- the latest finished first
unfoldable pub latest_first : (ℕ → ℕ → Bool) → ℕ → List ℕ
latest_first E n = reverse (finished E n)

-- the strong components: the classes of mutual reachability, by the latest finished root
abbrev pub strong : (ℕ → ℕ → Bool) → ℕ → List (List ℕ)
strong E n = classes (mutually_reached E n) n (latest_first E n)
