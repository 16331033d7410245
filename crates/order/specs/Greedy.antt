-- The sort as it is made, of the numbers below n: of those that are not placed and to which no such number has a step, the smallest is
-- placed next. By `closed-or-smallest`, `smallest-answers` and `closed-answers` (structural/proofs/Sorting) it is the order that `Smallest`
-- describes, and there is none exactly where there is a closed walk: who believes Sort.antt need not believe this file. Assumes nothing.
use Rattle.std.specs.Prelude.{Bool, ◌&&◌, not, cond, List, [], ◌∷◌, ◌++◌, ℕ, zero, suc, eqb, ltb}
use Rattle.lists.specs.Lists.{memb}
use Rattle.lists.specs.Tests.{count}
use Rattle.order.specs.Least.{least}

-- u is not placed, and has a step to v
abbrev pub waits : (ℕ → ℕ → Bool) → List ℕ → ℕ → ℕ → Bool
waits E p v u = E u v && not (memb u p)

-- v is not placed, and waits for none
unfoldable pub available : (ℕ → ℕ → Bool) → ℕ → List ℕ → ℕ → Bool
available E n p v = not (memb v p) && eqb (count (waits E p v) n) 0

-- the smallest such number, or n where there is none
unfoldable pub next : (ℕ → ℕ → Bool) → ℕ → List ℕ → ℕ
next E n p = least (available E n p) n 0

-- what follows the placed numbers p, in f turns at most
unfoldable pub rest : (ℕ → ℕ → Bool) → ℕ → ℕ → List ℕ → List ℕ
rest E n zero p = []
rest E n (suc f) p =
    let r = next E n p ∷ rest E n f (p ++ (next E n p ∷ [])) in
    cond (ltb (next E n p) n) r []

-- as many as can be placed
unfoldable pub greedy : (ℕ → ℕ → Bool) → ℕ → List ℕ
greedy E n = rest E n n []
