-- The lines of a text. Assumes nothing.
use Rattle.std.specs.Prelude.{◌≡◌, Bool, false, cond, List, [], ◌∷◌, ℕ, zero, suc, ◌-◌, ◌≤◌, eqb, ltb, length, take, drop}
use Rattle.lists.specs.Tests.{◌and◌}
use Rattle.lists.specs.Lists.{word_at}

abbrev pub line_feed : ℕ
line_feed = 10

-- the first line, without its line feed; without one it is all that is left
unfoldable pub first_line : List ℕ → List ℕ
first_line [] = []
first_line (c ∷ cs) = cond (eqb c line_feed) [] (c ∷ first_line cs)

-- what stands behind the first line and its line feed
unfoldable pub other_lines : List ℕ → List ℕ
other_lines [] = []
other_lines (c ∷ cs) = cond (eqb c line_feed) cs (other_lines cs)

-- line i, counted from 0
unfoldable pub line_at : ℕ → List ℕ → List ℕ
line_at zero cs = first_line cs
line_at (suc i) cs = line_at i (other_lines cs)

-- what stands behind the first i lines
unfoldable pub behind : ℕ → List ℕ → List ℕ
behind zero cs = cs
behind (suc i) cs = behind i (other_lines cs)

-- the first line has a line feed, and a carriage return right before it
unfoldable pub cr_lf : List ℕ → Bool
cr_lf cs =
    let line = first_line cs in
    ltb (length line) (length cs) and eqb (word_at line (length line - 1)) 13

-- line i, counted from 1, ends in CR LF
unfoldable pub ends_in_cr_lf : ℕ → List ℕ → Bool
ends_in_cr_lf zero cs = false
ends_in_cr_lf (suc i) cs = cr_lf (behind i cs)

-- the line that begins at a place of a text ends before `end`
pub record Ends (text : List ℕ) (from end : ℕ) : Type 0 where
  pub low : from ≤ end
  pub high : end ≤ length text
  pub line : take (end - from) (drop from text) ≡ first_line (drop from text)

-- `next` is where the line behind it begins
pub record Begins (text : List ℕ) (from next : ℕ) : Type 0 where
  pub low : from ≤ next
  pub high : next ≤ length text
  pub rest : drop next text ≡ other_lines (drop from text)

-- line k begins at `from`
pub record Stands (text : List ℕ) (k from : ℕ) : Type 0 where
  pub high : from ≤ length text
  pub rest : drop from text ≡ behind k text
