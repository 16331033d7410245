-- What the code of the closure holds. Assumes nothing.
use Rattle.std.specs.Prelude.{◌≡◌, Bool, List, ℕ, ◌+◌, ◌*◌, ◌<◌, length, get_or}
use Rattle.lists.specs.Tests.{bit}
use Rattle.lists.specs.Lists.{flat, up_to}
use Rattle.components.specs.Classes.{reached}
use Rattle.closure.specs.Pairs.{seconds_of}

-- the first v entries of row x are the marks, and no row before it is changed
pub record Copied (x v : ℕ) (marks c₀ c : List ℕ) : Type 0 where
  pub long : length c ≡ 65536
  pub row : (i : ℕ) → i < v → get_or c (x * 256 + i) 0 ≡ get_or marks i 0
  pub above : (i : ℕ) → i < x * 256 → get_or c i 0 ≡ get_or c₀ i 0

-- what is reached from the numbers below x
pub record Closure (E : ℕ → ℕ → Bool) (n x : ℕ) (c : List ℕ) : Type 0 where
  pub long : length c ≡ 65536
  pub is : (u v : ℕ) → u < x → v < n → get_or c (u * 256 + v) 0 ≡ bit (reached E n u v)

-- how many pairs have a first below k
abbrev pub pairs_below : (ℕ → ℕ → Bool) → ℕ → ℕ → ℕ
pairs_below E n k = length (flat (seconds_of E n) (up_to k))
