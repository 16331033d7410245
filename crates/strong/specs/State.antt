-- What the code of the strong components works on. Assumes nothing.
use Rattle.std.specs.Prelude.{◌≡◌, Bool, true, List, ℕ, ◌<◌, eqb, get_or}
use Rattle.lists.specs.Tests.{bit, ◌and◌}
use Rattle.strong.specs.Strong.{mutually_reached}

-- F has the steps of E turned
abbrev pub Turned : (ℕ → ℕ → Bool) → (ℕ → ℕ → Bool) → ℕ → Type 0
Turned E F n = (i j : ℕ) → i < n → j < n → F i j ≡ E j i

-- a step to a number that passes the test
unfoldable pub inside : (ℕ → ℕ → Bool) → (ℕ → Bool) → ℕ → ℕ → Bool
inside E p x y = E x y and p y

-- m marks what is in no class
abbrev pub Opened : ℕ → List ℕ → List ℕ → Type 0
Opened n ids m = (v : ℕ) → v < n → get_or m v 0 ≡ bit (eqb (get_or ids v 0) 0)

-- what is mutually reached with a number in no class is in no class
abbrev pub Unparted : (ℕ → ℕ → Bool) → ℕ → List ℕ → Type 0
Unparted E n ids = (a b : ℕ) → a < n → b < n → mutually_reached E n a b ≡ true → get_or ids a 0 ≡ 0 → get_or ids b 0 ≡ 0
