-- The words of a line, and the numbers among them. Assumes nothing.
use Rattle.std.specs.Prelude.{Bool, cond, List, [], ◌∷◌, ℕ, ◌+◌, ◌-◌, ◌*◌, eqb, ltb, leb, length}
use Rattle.lists.specs.Tests.{◌and◌}
use Rattle.lists.specs.Lists.{all}

-- ---- words

abbrev pub blank : ℕ
blank = 32

-- one byte more before the first word
unfoldable pub onto : ℕ → List (List ℕ) → List (List ℕ)
onto c [] = (c ∷ []) ∷ []
onto c (w ∷ ws) = (c ∷ w) ∷ ws

-- the bytes split at single blanks: two blanks have an empty word between them
unfoldable pub split : List ℕ → List (List ℕ)
split [] = [] ∷ []
split (c ∷ cs) = cond (eqb c blank) ([] ∷ split cs) (onto c (split cs))

-- the words behind a name: none where the line ends there, else what is behind the blank, split
unfoldable pub words_behind : List ℕ → List (List ℕ)
words_behind [] = []
words_behind (c ∷ cs) = split cs

-- ---- numbers

-- the largest number
abbrev pub largest : ℕ
largest = 4294967295

-- one of the digits 0 to 9
unfoldable pub is_digit : ℕ → Bool
is_digit c = leb 48 c and leb c 57

-- the value of digits that follow those of n
unfoldable pub value_from : ℕ → List ℕ → ℕ
value_from n [] = n
value_from n (c ∷ cs) = value_from (n * 10 + (c - 48)) cs

unfoldable pub value_of : List ℕ → ℕ
value_of w = value_from 0 w

-- a number: one or more digits, zeros in front allowed, whose value is at most the largest
unfoldable pub is_number : List ℕ → Bool
is_number w = ltb 0 (length w) and all is_digit w and leb (value_of w) largest

-- the numbers before the first word that is none
unfoldable pub leading : List (List ℕ) → List ℕ
leading [] = []
leading (w ∷ ws) = cond (is_number w) (value_of w ∷ leading ws) []
