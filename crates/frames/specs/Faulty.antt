-- Which texts are written, and which line of a text is faulty. Assumes nothing.
use Rattle.std.specs.Prelude.{◌≡◌, Bool, true, cond, List, [], ◌∷◌, ℕ, ◌-◌, eqb, ltb, take}
use Rattle.lists.specs.Lists.{all}
use Rattle.layout.specs.Layout.{limit, read}
use Rattle.layout.specs.WellFormed.{well_formed}
use Rattle.frames.specs.Frames.{frame_text}

-- a word has 32 bits
unfoldable pub is_word : ℕ → Bool
is_word x = ltb x 4294967296

-- the writer gives the text for some well-formed table
pub record Written (text : List ℕ) : Type 0 where
  pub table : List ℕ
  pub fits : all is_word table ≡ true
  pub formed : well_formed limit table ≡ true
  pub gives : frame_text (read limit table) ≡ text

-- b in front of the first line
unfoldable pub onto : ℕ → List (List ℕ) → List (List ℕ)
onto b [] = (b ∷ []) ∷ []
onto b (l ∷ ls) = (b ∷ l) ∷ ls

-- the lines of a text, each with its line feed; what stands behind the last line feed is a line without one
unfoldable pub lines_of : List ℕ → List (List ℕ)
lines_of [] = []
lines_of (b ∷ text) = cond (eqb b 10) ((b ∷ []) ∷ lines_of text) (onto b (lines_of text))

-- the first k lines are the same; a text with fewer than k lines has them in common with itself alone
abbrev pub SameLines : ℕ → List ℕ → List ℕ → Type 0
SameLines k text other = take k (lines_of text) ≡ take k (lines_of other)

-- some written text has the first k lines of the text
pub record Begins (k : ℕ) (text : List ℕ) : Type 0 where
  pub other : List ℕ
  pub written : Written other
  pub same : SameLines k text other

-- line k is faulty: some written text has the lines before it, and none has them and line k
pub record Faulty (text : List ℕ) (k : ℕ) : Type 0 where
  pub before : Begins (k - 1) text
  pub never : Begins k text → ⊥
