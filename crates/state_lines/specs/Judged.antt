-- What the code finds of a line. Assumes nothing.
use Rattle.std.specs.Prelude.{◌≡◌, cond, List, ℕ, ◌≤◌, ◌<◌}
use Rattle.frames.specs.Faulty.{is_word}
use Rattle.desk.specs.States.{waiting}
use Rattle.states_text.specs.Reading.{line_number, line_state, line_good}

-- r is the number of the line, or no word where that is none; it is not over ten words and a byte
pub record Numbered (l : List ℕ) (r : ℕ) : Type 0 where
  pub word : is_word r ≡ is_word (line_number l)
  pub same : r < 4294967296 → r ≡ line_number l
  pub small : r ≤ 42949673205

-- x is the state that the line says, of number v, or waiting where the line is faulty
pub record Judged (l : List ℕ) (low x v : ℕ) : Type 0 where
  pub is : x ≡ cond (line_good low l) (line_state l) waiting
  pub number : (x ≡ waiting → ⊥) → v ≡ line_number l
  pub word : (x ≡ waiting → ⊥) → v < 4294967296
  pub small : v ≤ 42949673205
