-- A listing of records, in the first places of an array. Assumes nothing.
use Rattle.std.specs.Prelude.{◌≡◌, List, ℕ, ◌≤◌, length, take}
use Rattle.lists.specs.Inner.{Below}

-- the c records l, each below n, stand in the first places of an array; they are not more than most
pub record Standing (n most c : ℕ) (array l : List ℕ) : Type 0 where
  pub first : take c array ≡ l
  pub count : c ≡ length l
  pub short : c ≤ most
  pub below : Below n l

-- a listing of the records below n
abbrev pub Ordered : ℕ → ℕ → List ℕ → List ℕ → Type 0
Ordered n c order l = Standing n n c order l
