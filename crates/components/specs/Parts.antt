-- What the code of the classes holds: for each number the class that it is in, counted from 1, and 0 where it is in none. Assumes nothing.
use Rattle.std.specs.Prelude.{◌≡◌, Bool, cond, List, map, ℕ, suc, ◌+◌, ◌≤◌, ◌<◌, eqb, length, get_or}
use Rattle.lists.specs.Tests.{chosen}
use Rattle.lists.specs.Lists.{flat, counted, up_to}
use Rattle.lists.specs.Inner.{Below}
use Rattle.components.specs.Classes.{roots_of, roots_from}

-- v has a mark
abbrev pub flagged : List ℕ → ℕ → Bool
flagged m v = eqb (get_or m v 0) 1

-- v is in class k
abbrev pub in_class : List ℕ → ℕ → ℕ → Bool
in_class ids k v = eqb (get_or ids v 0) k

-- every number below n that passes the test joins class k
pub record Joined (p : ℕ → Bool) (n k : ℕ) (ids ids' : List ℕ) : Type 0 where
  pub wide : length ids' ≡ 256
  pub is : (v : ℕ) → v < n → get_or ids' v 0 ≡ cond (p v) k (get_or ids v 0)

-- r is tried as a root, after c classes
pub record Tried (P : ℕ → ℕ → Bool) (n r : ℕ) (ids : List ℕ) (c : ℕ) (ids' : List ℕ) (c' : ℕ) : Type 0 where
  pub wide : length ids' ≡ 256
  pub old : (get_or ids r 0 ≡ 0 → ⊥) → ((v : ℕ) → v < n → get_or ids' v 0 ≡ get_or ids v 0) × (c' ≡ c)
  pub new : get_or ids r 0 ≡ 0 → ((v : ℕ) → v < n → get_or ids' v 0 ≡ cond (P r v) (suc c) (get_or ids v 0)) × (c' ≡ suc c)

-- the classes of the roots, of which there are c
pub record Parted (P : ℕ → ℕ → Bool) (n : ℕ) (roots ids : List ℕ) (c : ℕ) : Type 0 where
  pub wide : length ids ≡ 256
  pub number : c ≡ length roots
  pub below : Below n roots
  pub small : (v : ℕ) → v < n → get_or ids v 0 ≤ c
  pub is : (k v : ℕ) → k < length roots → v < n → in_class ids (suc k) v ≡ P (get_or roots k 0) v

-- while the rest of an order is to be tried
pub record Parting (P : ℕ → ℕ → Bool) (n : ℕ) (whole rest ids : List ℕ) (c : ℕ) : Type 0 where
  pub roots : List ℕ
  pub parted : Parted P n roots ids c
  pub left : roots_from P roots rest ≡ whole
  pub few : c + length rest ≤ n

-- every number below n is in one of c classes
abbrev pub Filled : ℕ → ℕ → List ℕ → Type 0
Filled n c ids = (v : ℕ) → v < n → (0 < get_or ids v 0) × (get_or ids v 0 ≤ c)

-- the classes of an order's roots, with every number below n in one
pub record Partition (P : ℕ → ℕ → Bool) (n : ℕ) (order ids : List ℕ) (c : ℕ) : Type 0 where
  pub parted : Parted P n (roots_of P order) ids c
  pub filled : Filled n c ids

-- ---- what is written: f gives each member its word

-- class k + 1, as its length and its members
unfoldable pub class_words : (ℕ → ℕ) → List ℕ → ℕ → ℕ → List ℕ
class_words f ids n k = counted (map f (chosen (in_class ids (k + 1)) n))

-- the first c classes
abbrev pub part_words : (ℕ → ℕ) → List ℕ → ℕ → ℕ → List ℕ
part_words f ids n c = flat (class_words f ids n) (up_to c)
