-- What the search for a name is stated with. Assumes nothing.
use Rattle.std.specs.Prelude.{cond, List, ◌++◌, ℕ, ◌-◌, ◌≤◌, ◌<◌, length, replicate}
use Rattle.commands.specs.Words.{blank}
use Rattle.commands.specs.Commands.{command_count, name_at, opens_with}

-- the length of the name where the line opens with it, else 0
unfoldable pub opened : List ℕ → List ℕ → ℕ
opened line name = cond (opens_with line name) (length name) 0

-- as many bytes as the longest name has
abbrev pub widest : ℕ
widest = 17

-- the name of command k, with blanks behind it
unfoldable pub padded : ℕ → List ℕ
padded k = name_at k ++ replicate (widest - length (name_at k)) blank

-- the line opens with the name of command k: it has that many bytes at the least
pub record Opens (line : List ℕ) (k : ℕ) : Type 0 where
  pub one : k < command_count
  pub long : length (name_at k) ≤ length line
