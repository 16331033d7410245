-- Forms: lines in which capital letters stand for numbers. Assumes nothing.
use Rattle.std.specs.Prelude.{Bool, cond, List, [], ◌∷◌, ◌++◌, ℕ, zero, suc, ◌+◌, ◌*◌, ◌-◌, ◌/◌, eqb, ltb, leb, length, take, drop}
use Rattle.lists.specs.Tests.{◌and◌}
use Rattle.lists.specs.Lists.{word_at, tab, flat}
use Rattle.wording.specs.Texts.{text, decimal}

-- ---- a form

-- the byte lies from low on, and below high
unfoldable pub within : ℕ → ℕ → ℕ → Bool
within low high c = leb low c and ltb c high

-- A to J stand for a word, K to T for a number in two words, the low one first, U for the name
abbrev pub word_letter : ℕ
word_letter = 65

abbrev pub wide_letter : ℕ
wide_letter = 75

abbrev pub name_letter : ℕ
name_letter = 85

-- the number whose low word is at place i
unfoldable pub wide_at : List ℕ → ℕ → ℕ
wide_at ns i = word_at ns i + 4294967296 * word_at ns (suc i)

-- what a byte of a form stands for: a word, a number in two words, the name, or itself
unfoldable pub meant : List ℕ → List ℕ → ℕ → List ℕ
meant ns name c =
    cond (within word_letter wide_letter c) (decimal (word_at ns (c - word_letter)))
    (cond (within wide_letter name_letter c) (decimal (wide_at ns (c - wide_letter))) (cond (eqb c name_letter) name (c ∷ [])))

-- a form with its numbers and the name filled in
unfoldable pub filled : List ℕ → List ℕ → List ℕ → List ℕ
filled form ns name = flat (meant ns name) form

-- ---- rows of k words each

-- row i
unfoldable pub row_at : ℕ → List ℕ → ℕ → List ℕ
row_at k ws i = take k (drop (i * k) ws)

-- a row filled in; a row has no name
unfoldable pub row_filled : List ℕ → ℕ → List ℕ → ℕ → List ℕ
row_filled form k ws i = filled form (row_at k ws i) []

-- every whole row, filled in
unfoldable pub rows : List ℕ → ℕ → List ℕ → List ℕ
rows form k ws = flat (row_filled form k ws) (tab (λ i. i) (length ws / k))

-- ---- numbers in a line

-- decimal numbers, a blank between two
unfoldable pub joined : List ℕ → List ℕ
joined [] = []
joined (n ∷ []) = decimal n
joined (n ∷ m ∷ ns) = decimal n ++ (text " " ++ joined (m ∷ ns))

-- an opening, then the numbers, or `none` for no number; and the line feed
unfoldable pub number_line : List ℕ → List ℕ → List ℕ → List ℕ
number_line opening none [] = opening ++ (none ++ text "\n")
number_line opening none (n ∷ ns) = opening ++ (joined (n ∷ ns) ++ text "\n")

-- ---- lists, each with its count before it

-- a line for each list: the first has an opening of its own; words that are no whole list are a list cut short
unfoldable pub list_lines : ℕ → List ℕ → List ℕ → List ℕ → List ℕ → List ℕ
list_lines zero first rest none ws = []
list_lines (suc fuel) first rest none [] = []
list_lines (suc fuel) first rest none (k ∷ ws) = number_line first none (take k ws) ++ list_lines fuel rest rest none (drop k ws)

-- the lists of ws: each takes a word at the least
unfoldable pub listed : List ℕ → List ℕ → List ℕ → List ℕ → List ℕ
listed first rest none ws = list_lines (length ws) first rest none ws
