-- Components of what is live by a relation, in the order of their first members. Assumes nothing.
use Rattle.std.specs.Prelude.{◌≡◌, Bool, true, List, [], ℕ, ◌<◌, length, get_or}
use Rattle.lists.specs.Lists.{memb, Ascending}

-- x is the first member of c: it comes before every other
pub record First (Before : ℕ → ℕ → Type 0) (c : List ℕ) (x : ℕ) : Type 0 where
  pub member : memb x c ≡ true
  pub before : (y : ℕ) → memb y c ≡ true → (x ≡ y → ⊥) → Before x y

-- c comes before d: the first member of c before the first member of d
pub record Precedes (Before : ℕ → ℕ → Type 0) (c d : List ℕ) : Type 0 where
  pub one : ℕ
  pub other : ℕ
  pub one-first : First Before c one
  pub other-first : First Before d other
  pub before : Before one other

-- cs are the components by R: every live number is in one and in no other, two of one component are related, and whatever is
-- related to a member is a member; none is empty, each is sorted, and they come in the order of their first members
pub record Components (live : ℕ → Bool) (R Before : ℕ → ℕ → Type 0) (cs : List (List ℕ)) : Type 0 where
  pub some : (x : ℕ) → live x ≡ true → (k : ℕ) × (k < length cs) × (memb x (get_or cs k []) ≡ true)
  pub only : (j k x : ℕ) → j < length cs → k < length cs → memb x (get_or cs j []) ≡ true → memb x (get_or cs k []) ≡ true → j ≡ k
  pub alive : (k x : ℕ) → k < length cs → memb x (get_or cs k []) ≡ true → live x ≡ true
  pub related : (k x y : ℕ) → k < length cs → memb x (get_or cs k []) ≡ true → memb y (get_or cs k []) ≡ true → R x y
  pub whole : (k x y : ℕ) → k < length cs → memb x (get_or cs k []) ≡ true → live y ≡ true → R x y → memb y (get_or cs k []) ≡ true
  pub inhabited : (k : ℕ) → k < length cs → 0 < length (get_or cs k [])
  pub sorted : (k : ℕ) → k < length cs → Ascending (get_or cs k [])
  pub ordered : (j k : ℕ) → j < k → k < length cs → Precedes Before (get_or cs j []) (get_or cs k [])
