-- What the code of the sort holds. Assumes nothing.
use Rattle.std.specs.Prelude.{◌≡◌, Bool, true, not, List, ◌++◌, ℕ, ◌+◌, ◌-◌, ◌*◌, ◌≤◌, ◌<◌, eqb, length, get_or, take}
use Rattle.lists.specs.Lists.{memb, Distinct, over}
use Rattle.lists.specs.Inner.{Below, blank}
use Rattle.lists.specs.Tests.{count, bit}
use Rattle.order.specs.Greedy.{waits, next, rest, greedy}

-- how many of the numbers below u have a step to each number
pub record Degrees (E : ℕ → ℕ → Bool) (n u : ℕ) (d : List ℕ) : Type 0 where
  pub long : length d ≡ 256
  pub is : (v : ℕ) → v < n → get_or d v 0 ≡ count (λ x. E x v) u

-- d' has one more than d at each number to which v has a step
pub record Row (E : ℕ → ℕ → Bool) (n v : ℕ) (d d' : List ℕ) : Type 0 where
  pub long : length d ≡ 256
  pub longer : length d' ≡ 256
  pub is : (w : ℕ) → w < n → get_or d' w 0 ≡ get_or d w 0 + bit (E v w)

-- the same of the numbers below w, while the rest is equal
pub record Part (E : ℕ → ℕ → Bool) (v w : ℕ) (d d' : List ℕ) : Type 0 where
  pub long : length d ≡ 256
  pub longer : length d' ≡ 256
  pub is : (i : ℕ) → i < w → get_or d' i 0 ≡ get_or d i 0 + bit (E v i)
  pub same : (i : ℕ) → w ≤ i → get_or d' i 0 ≡ get_or d i 0

-- each number to which v has a step waits for one at least
pub record Owed (E : ℕ → ℕ → Bool) (n v : ℕ) (d : List ℕ) : Type 0 where
  pub long : length d ≡ 256
  pub is : (w : ℕ) → w < n → E v w ≡ true → 0 < get_or d w 0

-- the number waits for none and is not placed
abbrev pub is_free : List ℕ → ℕ → Bool
is_free d j = eqb (get_or d j 0) 0

-- the number i places on from j is not free
abbrev pub busy : List ℕ → ℕ → ℕ → Bool
busy d j i = not (is_free d (j + i))

-- what stands in place of a placed number's count
abbrev pub placed_mark : ℕ
placed_mark = 512

-- for how many numbers that are not placed each number waits, and which numbers are placed
pub record Needs (E : ℕ → ℕ → Bool) (n : ℕ) (d : List ℕ) (p : List ℕ) : Type 0 where
  pub long : length d ≡ 256
  pub is : (v : ℕ) → v < n → get_or d v 0 ≡ count (waits E p v) n + bit (memb v p) * placed_mark

-- what the sort's loop holds: what is placed and what is left of the sort make the whole, and v is next
pub record Sorting (E : ℕ → ℕ → Bool) (n : ℕ) (d o : List ℕ) (t v : ℕ) : Type 0 where
  pub array : o ≡ over (take t o) (blank 256)
  pub long : length o ≡ 256
  pub count : t ≡ length (take t o)
  pub once : Distinct (take t o)
  pub below : Below n (take t o)
  pub needs : Needs E n d (take t o)
  pub turn : v ≡ next E n (take t o)
  pub left : take t o ++ rest E n (n - t) (take t o) ≡ greedy E n
