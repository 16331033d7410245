-- Blocks of 16 numbers, and the least key of each. Assumes nothing.
use Rattle.std.specs.Prelude.{◌≡◌, Bool, ◌&&◌, cond, List, ℕ, ◌/◌, ◌≤◌, ◌<◌, eqb, length, get_or}

-- 0 for the mark of a labelled number, above every key for any other
unfoldable pub far_key : ℕ → ℕ
far_key mark = cond (eqb mark 1) 0 9223372036854775808

-- the key of a labelled number; above every key where it is not labelled or is settled
pub record Open (mark key r : ℕ) : Type 0 where
  pub yes : mark ≡ 1 → r ≡ key
  pub no : (mark ≡ 1 → ⊥) → 9223372036854775808 ≤ r

-- the least key of the labelled numbers below n that are in block j; above every key where there is none
pub record Block (n : ℕ) (m d : List ℕ) (j key : ℕ) : Type 0 where
  pub under : (v : ℕ) → v < n → v / 16 ≡ j → get_or m v 0 ≡ 1 → key ≤ get_or d v 0
  pub some : key < 9223372036854775808 → (v : ℕ) × (v < n) × (v / 16 ≡ j) × (get_or m v 0 ≡ 1) × (get_or d v 0 ≡ key)

-- the least key of each block
pub record Blocks (n : ℕ) (m d b : List ℕ) : Type 0 where
  pub sized : length b ≡ 16
  pub block : (j : ℕ) → j < 16 → Block n m d j (get_or b j 0)

-- of a place and the place v, each with its key, the one of the lesser key, the first on a tie
pub record Nearer (at key v k next least : ℕ) : Type 0 where
  pub less : k < key → (next ≡ v) × (least ≡ k)
  pub kept : key ≤ k → (next ≡ at) × (least ≡ key)

-- of the blocks below i the one of least key
pub record Lowest (b : List ℕ) (i at key : ℕ) : Type 0 where
  pub within : at < 16
  pub here : key ≡ get_or b at 0
  pub least : (j : ℕ) → j < i → key ≤ get_or b j 0

-- v is labelled with the key
unfoldable pub has_key : List ℕ → List ℕ → ℕ → ℕ → Bool
has_key m d key v = eqb (get_or m v 0) 1 && eqb (get_or d v 0) key
