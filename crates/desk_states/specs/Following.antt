-- The numbers that are noted before vertices are removed, and the states moved down to the records that are left. Assumes nothing.
use Rattle.std.specs.Prelude.{◌≡◌, Bool, true, cond, List, [], ◌∷◌, ℕ, ◌+◌, ◌≤◌, ◌<◌, eqb, length, take}
use Rattle.lists.specs.Lists.{filter, Ascending}
use Rattle.layout.specs.Answers.{Answer}
use Rattle.layout.specs.Layout.{limit, vertex_limit, size, vertex_count}
use Rattle.layout.specs.Inner.{vertex_column}
use Rattle.layout.specs.Answers.{number}
use Rattle.edits.specs.Rewriting.{Relaid}
use Rattle.desk.specs.States.{state_in, states_by}
use Rattle.desk.specs.Desk.{desk_of}
use Rattle.desk_states.specs.Open.{is_open}

-- the numbers of the vertex records of ws stand at the front of 256 words
pub record Noted (ws numbers : List ℕ) : Type 0 where
  pub room : length numbers ≡ vertex_limit
  pub front : take (vertex_count ws) numbers ≡ vertex_column ws

-- the desk was found open, and the numbers of its n vertices are noted
pub record Opened (ws ss : List ℕ) (n : ℕ) (numbers : List ℕ) : Type 0 where
  pub is_open : is_open (desk_of ws ss) ≡ true
  pub count : n ≡ vertex_count ws
  pub noted : Noted ws numbers

-- the first n numbers ascend, and the vertex records of ws are those of them that are kept
pub record Survivors (numbers : List ℕ) (n : ℕ) (ws : List ℕ) : Type 0 where
  pub room : length numbers ≡ vertex_limit
  pub few : n ≤ vertex_limit
  pub ascend : Ascending (take n numbers)
  pub sized : length ws ≡ size limit
  pub keeps : ℕ → Bool
  pub kept : vertex_column ws ≡ filter keeps (take n numbers)

-- the words of a vertex's state: one
abbrev pub state_words : List ℕ → List ℕ → ℕ → List ℕ
state_words live ss v = state_in live ss v ∷ []

-- after i of the records that live numbers: the states of those that are kept, k of them, stand at the front of s, where ss stood
abbrev pub StatesMoved : (ℕ → Bool) → List ℕ → List ℕ → ℕ → ℕ → List ℕ → Type 0
StatesMoved keeps live ss i k s = Relaid (state_words live ss) 0 1 ss (filter keeps (take i live)) i k s

-- the same of survivors and states as lent
pub record Moving (numbers : List ℕ) (n : ℕ) (ws ss : List ℕ) (i k : ℕ) (s : List ℕ) : Type 0 where
  pub left : Survivors numbers n ws
  pub lent : length ss ≡ vertex_limit
  pub moved : StatesMoved left.keeps (take n numbers) ss i k s

-- a turn at record i, whatever stood there before the first turn: from k states in s to k' in s'
abbrev pub StateTurn : List ℕ → List ℕ → ℕ → ℕ → List ℕ → ℕ → List ℕ → Type 0
StateTurn numbers ws i k s k' s' = (n : ℕ) (ss : List ℕ) → i < n → Moving numbers n ws ss i k s → Moving numbers n ws ss (i + 1) k' s'

-- ---- where the answer is that of a call that is done

-- the states of the vertices that are left, live numbers those before; else they stay
unfoldable pub followed : Answer → List ℕ → List ℕ → List ℕ → List ℕ
followed a live ss left = cond (eqb (number a) 0) (states_by (state_in live ss) left) ss

pub record Followable (a : Answer) (numbers : List ℕ) (n : ℕ) (ws ss : List ℕ) : Type 0 where
  pub lent : length ss ≡ vertex_limit
  pub left : eqb (number a) 0 ≡ true → Survivors numbers n ws
