-- Depth first, largest neighbour first: a number is marked when it is visited, and listed when its steps are tried. Assumes nothing.
use Rattle.std.specs.Prelude.{Bool, ◌&&◌, cond, List, [], ◌∷◌, ◌++◌, ℕ, zero, suc, eqb, get_or, set}

-- the marks, and the listing so far
pub record Progress : Type 0 where
  pub marks : List ℕ
  pub out : List ℕ

-- k is not marked
abbrev pub unmarked : List ℕ → ℕ → Bool
unmarked m k = eqb (get_or m k 0) 0

-- x is marked
abbrev pub mark : ℕ → Progress → Progress
mark x s = record { marks = set s.marks x 1; out = s.out }

-- x comes last in the listing
abbrev pub enlist : ℕ → Progress → Progress
enlist x s = record { marks = s.marks; out = s.out ++ (x ∷ []) }

-- the step from x to k is tried: where there is one, and k is not marked, k is visited
unfoldable pub tried : (ℕ → ℕ → Bool) → (ℕ → Progress → Progress) → ℕ → ℕ → Progress → Progress
tried E v x k s = let r = v k s in cond (E x k && unmarked s.marks k) r s

-- the steps from x to the numbers below k are tried, the largest first
unfoldable pub tries : (ℕ → ℕ → Bool) → (ℕ → Progress → Progress) → ℕ → ℕ → Progress → Progress
tries E v x zero s = s
tries E v x (suc k) s = tries E v x k (tried E v x k s)

-- x is visited; f is at least the numbers that are not marked
unfoldable pub visits : (ℕ → ℕ → Bool) → ℕ → ℕ → ℕ → Progress → Progress
visits E n zero x s = s
visits E n (suc f) x s = enlist x (tries E (visits E n f) x n (mark x s))
