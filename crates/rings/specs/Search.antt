-- A ring among the numbers below n, found by going back along steps. By `ring-is` and `ring-found` (rings/proofs/Found) what is found is
-- a ring, and one is found wherever a walk is closed. Assumes nothing.
use Rattle.std.specs.Prelude.{Bool, cond, List, [], ◌∷◌, ℕ, zero, suc, eqb, ltb}
use Rattle.lists.specs.Tests.{◌and◌}
use Rattle.lists.specs.Lists.{memb}
use Rattle.order.specs.Least.{least}
use Rattle.components.specs.Classes.{reached}

-- j has a step to y, and passes the test
unfoldable pub leads_to : (ℕ → ℕ → Bool) → (ℕ → Bool) → ℕ → ℕ → Bool
leads_to E p y j = E j y and p j

-- the lowest such number, or n
unfoldable pub before : (ℕ → ℕ → Bool) → ℕ → (ℕ → Bool) → ℕ → ℕ
before E n p y = least (leads_to E p y) n 0

-- x lies on a closed walk: what is reached from it has a step to it
unfoldable pub comes_back : (ℕ → ℕ → Bool) → ℕ → ℕ → Bool
comes_back E n x = ltb (before E n (reached E n x) x) n

-- the lowest such number, or n
unfoldable pub lowest : (ℕ → ℕ → Bool) → ℕ → ℕ
lowest E n = least (comes_back E n) n 0

-- w up to its first x
unfoldable pub up_through : ℕ → List ℕ → List ℕ
up_through x [] = []
up_through x (y ∷ w) = let r = up_through x w in y ∷ cond (eqb x y) [] r

-- back from x along g, in f turns at most, till a number comes again; w are those passed, the latest first
unfoldable pub go_back : (ℕ → ℕ) → ℕ → List ℕ → ℕ → List ℕ
go_back g zero w x = []
go_back g (suc f) w x = let r = go_back g f (x ∷ w) (g x) in cond (memb x w) (up_through x w) r

-- back from x, each time to the lowest number that is reached from x
abbrev pub ring_from : (ℕ → ℕ → Bool) → ℕ → ℕ → List ℕ
ring_from E n x = go_back (before E n (reached E n x)) (suc n) [] x

-- the ring that is found from the lowest number on a closed walk; none where there is no such number
unfoldable pub ring_of : (ℕ → ℕ → Bool) → ℕ → List ℕ
ring_of E n = let r = ring_from E n (lowest E n) in cond (ltb (lowest E n) n) r []
