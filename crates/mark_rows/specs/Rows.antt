-- Rows of marks: a row has 256 marks, in four words of 64. Assumes nothing.
use Rattle.std.specs.Prelude.{◌≡◌, Bool, ◌||◌, List, ℕ, ◌+◌, ◌*◌, ◌/◌, ◌%◌, ◌^◌, ◌≤◌, ◌<◌, eqb, ltb, length, get_or}
use Rattle.lists.specs.Tests.{◌and◌, count}
use Rattle.graph.specs.Reach.{matrix}

-- digit b of a word, counted from the lowest, is 1
unfoldable pub word_mark : ℕ → ℕ → Bool
word_mark word b = eqb (word / 2 ^ b % 2) 1

-- row x has mark y
unfoldable pub row_mark : List ℕ → ℕ → ℕ → Bool
row_mark rows x y = word_mark (get_or rows (x * 4 + y / 64) 0) (y % 64)

-- how many marks a word has, and a row
unfoldable pub word_count : ℕ → ℕ
word_count word = count (word_mark word) 64

unfoldable pub row_count : List ℕ → ℕ → ℕ
row_count rows x = count (row_mark rows x) 256

-- the matrix has mark y in row x, and y is below n
unfoldable pub mark_below : List ℕ → ℕ → ℕ → ℕ → Bool
mark_below m n x y = ltb y n and matrix m x y

-- what row x or row k has
unfoldable pub either : List ℕ → ℕ → ℕ → ℕ → Bool
either rows x k y = row_mark rows x y || row_mark rows k y

-- row x has the marks that the test p passes, and the marks of every other row stay
pub record RowIs (x : ℕ) (p : ℕ → Bool) (r₀ r : List ℕ) : Type 0 where
  pub long : length r ≡ 1024
  pub row : (y : ℕ) → y < 256 → row_mark r x y ≡ p y
  pub others : (u y : ℕ) → u < 256 → y < 256 → (u ≡ x → ⊥) → row_mark r u y ≡ row_mark r₀ u y

-- the marks of a word that begins with mark `first` and that lie below n end at e
pub record WordEnds (first n e : ℕ) : Type 0 where
  pub begins : first ≤ e
  pub within : e ≤ first + 64
  pub is : (b : ℕ) → b < 64 → ltb (first + b) e ≡ ltb (first + b) n

-- the digits of the word are the marks that p gives, from mark `first` on
abbrev pub Word : (ℕ → Bool) → ℕ → ℕ → Type 0
Word p first word = (b : ℕ) → b < 64 → word_mark word b ≡ p (first + b)

-- each row below x has the marks of that row of the matrix, those below n and no others
pub record RowsOf (m : List ℕ) (n x : ℕ) (r : List ℕ) : Type 0 where
  pub long : length r ≡ 1024
  pub is : (u y : ℕ) → u < x → y < 256 → row_mark r u y ≡ mark_below m n u y
