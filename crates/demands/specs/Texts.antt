-- What is demanded of frame text. Assumes nothing.
use Rattle.std.specs.Prelude.{◌≡◌, List, ℕ, ◌≤◌, length, take, Ok}
use Rattle.layout.specs.Answers.{Result, result_of, on_formed}
use Rattle.frames.specs.Frames.{write_result}
use Rattle.frames.specs.Reading.{read_result}
use Rattle.frame_laws.specs.Longest.{longest}

-- the call of the writer: on the words of a table, with a slice of bytes
abbrev pub write_call : List ℕ → List ℕ → Result
write_call ws lent = on_formed ws lent (write_result lent)

-- the text that it left: the first bytes of the slice, as many as the detail says
abbrev pub text_in : Result → List ℕ
text_in r = take r.detail r.lent

-- what the writer's call on the words ws wrote, with its result r, the reader reads back to the same words, whatever stood in its table
-- before; and a slice as long as the longest text is always long enough to write to
pub record ReadsBack (ws lent : List ℕ) (r : Result) : Type 0 where
  pub reads : r.number ≡ 0 → (before : List ℕ) → length before ≡ length ws → read_result (text_in r) before ≡ result_of (Ok 0) ws
  pub writes : longest ≤ length lent → r.number ≡ 0
