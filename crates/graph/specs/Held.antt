-- What the code's arrays hold while the queue is served: marks m, one for each number, and the queue itself in the first t places of o. Assumes nothing.
use Rattle.std.specs.Prelude.{◌≡◌, Bool, not, List, ℕ, ◌-◌, ◌<◌, length, get_or, take}
use Rattle.lists.specs.Lists.{memb, Distinct}
use Rattle.lists.specs.Inner.{Below}
use Rattle.lists.specs.Tests.{bit, chosen}

-- m marks exactly what is in q
abbrev pub Marks : ℕ → List ℕ → List ℕ → Type 0
Marks n m q = (j : ℕ) → j < n → get_or m j 0 ≡ bit (memb j q)

-- the queue and its marks
pub record Held (n : ℕ) (m o : List ℕ) (t : ℕ) (q : List ℕ) : Type 0 where
  pub wide : length m ≡ 256
  pub long : length o ≡ 256
  pub queue : take t o ≡ q
  pub count : t ≡ length q
  pub marks : Marks n m q
  pub once : Distinct q
  pub below : Below n q

-- i is not in q
unfoldable pub outside : List ℕ → ℕ → Bool
outside q i = not (memb i q)

-- the numbers below n that are not in q, ascending, in the first places of r; t are in q
pub record Rest (n t : ℕ) (r q : List ℕ) : Type 0 where
  pub long : length r ≡ 256
  pub is : take (n - t) r ≡ chosen (outside q) n

-- the queue, its marks, and the numbers outside it
pub record Queued (n : ℕ) (m o r : List ℕ) (t : ℕ) (q : List ℕ) : Type 0 where
  pub held : Held n m o t q
  pub rest : Rest n t r q
