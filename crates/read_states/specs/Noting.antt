-- What the code of the reader holds. Assumes nothing.
use Rattle.std.specs.Prelude.{◌≡◌, Bool, true, List, ◌∷◌, ◌++◌, ℕ, ◌+◌, ◌-◌, ◌≤◌, ◌<◌, ltb, length, take, drop, set, Option, Some, None}
use Rattle.lists.specs.Lists.{all}
use Rattle.layout.specs.Content.{Table, live_vertices}
use Rattle.layout.specs.Layout.{vertex_limit}
use Rattle.desk.specs.States.{states_by}
use Rattle.states_text.specs.Reading.{lines, line_number, faulty_from, state_said, faulty_state, states_read}

-- the line that begins at place p ends before place r
pub record LineAt (text : List ℕ) (p r : ℕ) : Type 0 where
  pub on : p < r
  pub within : r ≤ length text
  pub first : lines (drop p text) ≡ take (r - p) (drop p text) ∷ lines (drop r text)

-- the record that a search found; 256 where it found none
abbrev pub record_of : Option ℕ → ℕ
record_of (Some i) = i
record_of None = vertex_limit

-- a state is noted for the record that a search found; what is not live is passed over
abbrev pub noted : Option ℕ → ℕ → List ℕ → List ℕ
noted (Some i) x ss = set ss i x
noted None x ss = ss

-- the number of the line is below the bound
unfoldable pub number_below : ℕ → List ℕ → Bool
number_below low l = ltb (line_number l) low

-- the lines before place p are good and noted; line k begins there, and its number must be from low on
pub record Noting (t : Table) (text : List ℕ) (p low k : ℕ) (ss : List ℕ) : Type 0 where
  pub past : List (List ℕ)
  pub split : lines text ≡ past ++ lines (drop p text)
  pub below : all (number_below low) past ≡ true
  pub left : faulty_from low k (lines (drop p text)) ≡ faulty_state text
  pub states : ss ≡ states_by (state_said past) (live_vertices t)
  pub sized : length ss ≡ vertex_limit
  pub within : p ≤ length text
  pub count : k ≤ p + 1
  pub some : 0 < k

-- r is the faulty line, or 0, and then the states are those that the text says
pub record LinesRead (t : Table) (text ss : List ℕ) (r : ℕ) : Type 0 where
  pub is : r ≡ faulty_state text
  pub states : r ≡ 0 → ss ≡ states_read text t
