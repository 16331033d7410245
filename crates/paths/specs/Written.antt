-- What the code writes, word by word. Assumes nothing.
use Rattle.std.specs.Prelude.{◌≡◌, Bool, cond, List, [], ◌∷◌, map, ℕ, ◌+◌, ◌/◌, ◌≤◌, eqb, length, get_or, take}
use Rattle.lists.specs.Lists.{up_to, flat}
use Rattle.lists.specs.Inner.{Below, over_at}
use Rattle.layout.specs.Content.{Table}
use Rattle.steps.specs.Matrices.{number_of}
use Rattle.paths.specs.Paths.{low, high, no_number, entries_after, best_path, path_words}

-- the records of a walk stand in the first places of o
pub record Laid (n steps : ℕ) (o : List ℕ) : Type 0 where
  pub short : steps ≤ n
  pub long : length o ≡ 256
  pub below : Below n (take steps o)

-- the pair of records i and j
abbrev pub pair_between : Table → ℕ → ℕ → List ℕ
pair_between t i j = path_words t (number_of t i) (best_path t (number_of t i) (number_of t j))

-- no walk: cost 0, no entries
abbrev pub no_path : List ℕ
no_path = 0 ∷ 0 ∷ 0 ∷ []

-- the cost, the count of entries and the first entry
abbrev pub path_head : ℕ → ℕ → ℕ → List ℕ
path_head cost count x = low cost ∷ high cost ∷ count ∷ x ∷ no_number ∷ []

-- the entries after the first of a walk from record i, by its records
abbrev pub step_words : Table → ℕ → List ℕ → List ℕ
step_words t i l = entries_after t (number_of t i) (map (number_of t) l)

-- the mark of record v says that it is reached
abbrev pub is_reached : List ℕ → ℕ → Bool
is_reached m v = eqb (get_or m v 0) 2

-- the words of record v, where its mark says that it is reached: its key has the cost above the low 16 bits
unfoldable pub key_words : Table → List ℕ → List ℕ → ℕ → List ℕ
key_words t m d v = cond (is_reached m v) (number_of t v ∷ low (get_or d v 0 / 65536) ∷ high (get_or d v 0 / 65536) ∷ []) []

-- of the records below k
unfoldable pub keys_below : Table → List ℕ → List ℕ → ℕ → List ℕ
keys_below t m d k = flat (key_words t m d) (up_to k)

-- the words xs were written at a place; `next` is the place after them
pub record WroteAt (at : ℕ) (xs out : List ℕ) (next : ℕ) (exit : List ℕ) : Type 0 where
  pub wrote : exit ≡ over_at at xs out
  pub after : next ≡ at + length xs
