-- The states of the release desk as a text: a line for each vertex that is not waiting, such as `reviewed 3` or `released 12`.
-- Assumes nothing.
use Rattle.std.specs.Prelude.{cond, List, [], ◌∷◌, ◌++◌, ℕ, eqb}
use Rattle.wording.specs.Texts.{text, decimal}
use Rattle.desk.specs.States.{waiting, released}

-- the word of a state, with the blank behind it
unfoldable pub state_word : ℕ → List ℕ
state_word x = cond (eqb x released) (text "released ") (text "reviewed ")

-- the line of vertex v in state x
unfoldable pub state_line : ℕ → ℕ → List ℕ
state_line x v = state_word x ++ (decimal v ++ text "\n")

-- a vertex that waits has no line
unfoldable pub line_for : ℕ → ℕ → List ℕ
line_for x v = cond (eqb x waiting) [] (state_line x v)

-- the lines of the vertices that live numbers, in that order; ss are their states
unfoldable pub states_text : List ℕ → List ℕ → List ℕ
states_text [] ss = []
states_text (v ∷ live) [] = []
states_text (v ∷ live) (x ∷ ss) = line_for x v ++ states_text live ss
