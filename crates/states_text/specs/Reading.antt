-- A text of states, read: which line is faulty, and which states it says. Assumes nothing.
use Rattle.std.specs.Prelude.{Bool, cond, not, List, [], ◌∷◌, ℕ, suc, ◌+◌, ◌*◌, ◌-◌, eqb, leb, length, take, drop, Ok, Err}
use Rattle.lists.specs.Tests.{◌and◌}
use Rattle.lists.specs.Lists.{any, same_list}
use Rattle.layout.specs.declared.Refusal.TheVariants.{BadText, NotWellFormed}
use Rattle.layout.specs.Content.{Table, live_vertices}
use Rattle.layout.specs.Layout.{vertex_limit}
use Rattle.layout.specs.Answers.{Result, result_of}
use Rattle.frames.specs.Faulty.{is_word}
use Rattle.desk.specs.States.{waiting, reviewed, released, states_by}
use Rattle.states_text.specs.StatesText.{state_line}

-- ---- lines

-- the byte that ends a line
abbrev pub feed : ℕ
feed = 10

-- c before the first of the lines
abbrev pub joined : ℕ → List (List ℕ) → List (List ℕ)
joined c [] = (c ∷ []) ∷ []
joined c (l ∷ ls) = (c ∷ l) ∷ ls

-- the lines of a text, each with its line feed; what follows the last line feed is a line without one
unfoldable pub lines : List ℕ → List (List ℕ)
lines [] = []
lines (c ∷ cs) = let ls = lines cs in cond (eqb c feed) ((c ∷ []) ∷ ls) (joined c ls)

-- l is a line of the text
unfoldable pub has_line : List ℕ → List ℕ → Bool
has_line text l = any (same_list l) (lines text)

-- ---- what a line says

-- the value of digits that follow digits of value v; of other bytes any value
unfoldable pub value_from : ℕ → List ℕ → ℕ
value_from v [] = v
value_from v (c ∷ cs) = value_from (v * 10 + (c - 48)) cs

-- where the number stands: behind the word, which has as many bytes in each state
abbrev pub number_place : ℕ
number_place = 9

-- the number of a line: what stands between the word and the line feed
unfoldable pub line_number : List ℕ → ℕ
line_number l = value_from 0 (take (length l - suc number_place) (drop number_place l))

-- the number is a word, and the line is the one that is written for it in state x
unfoldable pub is_line_of : ℕ → List ℕ → Bool
is_line_of x l = is_word (line_number l) and same_list l (state_line x (line_number l))

-- the state that the line says, or waiting where it is no such line
unfoldable pub line_state : List ℕ → ℕ
line_state l = cond (is_line_of reviewed l) reviewed (cond (is_line_of released l) released waiting)

-- ---- what the lines say

-- the line says a state, of a number from low on
unfoldable pub line_good : ℕ → List ℕ → Bool
line_good low l = not (eqb (line_state l) waiting) and leb low (line_number l)

-- the first faulty line, where the first of these lines is line k and its number must be from low on; 0 where none is faulty
unfoldable pub faulty_from : ℕ → ℕ → List (List ℕ) → ℕ
faulty_from low k [] = 0
faulty_from low k (l ∷ ls) = let r = faulty_from (suc (line_number l)) (suc k) ls in cond (line_good low l) r k

-- the state that the lines say of vertex v: that of its line; without a line it waits
unfoldable pub state_said : List (List ℕ) → ℕ → ℕ
state_said [] v = waiting
state_said (l ∷ ls) v = let r = state_said ls v in cond (eqb v (line_number l)) (line_state l) r

-- ---- the answer

-- the first faulty line of the text, from 1; 0 where none is faulty
abbrev pub faulty_state : List ℕ → ℕ
faulty_state text = faulty_from 0 1 (lines text)

-- the states that the text says of the table's vertices
abbrev pub states_read : List ℕ → Table → List ℕ
states_read text t = states_by (state_said (lines text)) (live_vertices t)

-- read_states: 1, also where there are not 256 states; 12 with the faulty line
unfoldable pub read_states_result : List ℕ → List ℕ → Table → Result
read_states_result text ss t =
    cond (eqb (length ss) vertex_limit)
    (cond (eqb (faulty_state text) 0) (result_of (Ok 0) (states_read text t)) (result_of (Err (BadText (faulty_state text))) ss))
    (result_of (Err NotWellFormed) ss)
