-- What the inner functions give of the arrays that they fill: the places that their promises speak of. Assumes nothing.
use Rattle.std.specs.Prelude.{Bool, cond, List, [], ◌∷◌, ℕ, suc, ◌+◌, eqb, ltb, take}
use Rattle.lists.specs.Lists.{memb, word_at, tab}
use Rattle.layout.specs.Layout.{vertex_limit}
use Rattle.marks.specs.Marks.{is_marked}
use Rattle.steps.specs.Inner.{cell}
use Rattle.mark_rows.specs.Rows.{row_mark}
use Rattle.lookups.specs.State.{start}

-- ---- arrays and matrices

-- the first n words of an array
abbrev pub firsts : ℕ → List ℕ → List ℕ
firsts n xs = tab (word_at xs) n

-- the first n marks
abbrev pub first_marks : ℕ → List Bool → List Bool
first_marks n ms = tab (is_marked ms) n

-- the first n words of row i of a matrix
abbrev pub row_firsts : ℕ → ℕ → List ℕ → List ℕ
row_firsts n i m = tab (λ j. word_at m (cell i j)) n

-- the first n marks of row i
abbrev pub row_marks : ℕ → ℕ → List Bool → List Bool
row_marks n i m = tab (λ j. is_marked m (cell i j)) n

-- the marks of the first n rows
abbrev pub marked_rows : ℕ → List ℕ → List (List Bool)
marked_rows n rows = tab (λ x. tab (row_mark rows x) vertex_limit) n

-- ---- the head of each vertex in a full listing

-- vertex and count, where the counts say that the words of the vertex in record k start; nothing where there are none
abbrev pub head_at : List ℕ → List ℕ → ℕ → List ℕ
head_at counts out k = cond (eqb (word_at counts k) 0) [] (word_at out (start counts k) ∷ word_at out (start counts k + 1) ∷ [])

-- ---- keys

-- a key, those above every key not told apart
abbrev pub near : ℕ → ℕ
near key = cond (ltb key 9223372036854775808) key 9223372036854775808

-- the least key of each block
abbrev pub block_keys : List ℕ → List ℕ
block_keys b = tab (λ j. near (word_at b j)) 16

-- one more than the key of v, and 0 where v is not below n
abbrev pub picked_key : ℕ → List ℕ → ℕ → ℕ
picked_key n d v = cond (ltb v n) (suc (word_at d v)) 0

-- one more than the key of a number that is reached, and 0 for any other
abbrev pub key_of : List ℕ → List ℕ → ℕ → ℕ
key_of m d v = cond (eqb (word_at m v) 2) (suc (word_at d v)) 0

-- ---- steps and walks

-- v stands in the list of u
abbrev pub listed_in : List ℕ → List ℕ → ℕ → ℕ → Bool
listed_in lists counts u v = memb v (row_firsts (word_at counts u) u lists)

-- which numbers stand in each list
abbrev pub listed_all : List ℕ → List ℕ → List (List Bool)
listed_all lists counts = tab (λ u. tab (listed_in lists counts u) vertex_limit) vertex_limit

-- cost and steps of the best walk, and its numbers; nothing where there is no walk
abbrev pub walk_of : Bool → ℕ → ℕ → List ℕ → List ℕ
walk_of found cost steps o = cond found (cost ∷ steps ∷ take steps o) []
