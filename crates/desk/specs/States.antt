-- The states of the vertices at the release desk, one word for each vertex record. Assumes nothing.
use Rattle.std.specs.Prelude.{Bool, List, map, ℕ, suc, eqb, length, set, drop, replicate, Option, Some, None}
use Rattle.lists.specs.Tests.{◌and◌}
use Rattle.lists.specs.Lists.{all, is_below, zeros, pad, word_at}
use Rattle.layout.specs.Content.{Table, live_vertices, position, place}
use Rattle.layout.specs.Layout.{vertex_limit}

-- 0 waiting, 1 reviewed, 2 released
abbrev pub waiting : ℕ
waiting = 0

abbrev pub reviewed : ℕ
reviewed = 1

abbrev pub released : ℕ
released = 2

-- states fit a table of n live vertices: 256 words, none over 2, and each unused record has 0
unfoldable pub states_fit : ℕ → List ℕ → Bool
states_fit n ss = eqb (length ss) vertex_limit and all (is_below (suc released)) ss and zeros (drop n ss)

-- the word of the record that a search found; what is not found waits
abbrev pub state_at : Option ℕ → List ℕ → ℕ
state_at (Some i) ss = word_at ss i
state_at None ss = waiting

-- the state of a vertex, by its number, where live are the numbers of the records
unfoldable pub state_in : List ℕ → List ℕ → ℕ → ℕ
state_in live ss v = state_at (position v live) ss

-- the same in a table
abbrev pub state_of : Table → List ℕ → ℕ → ℕ
state_of t ss v = state_in (live_vertices t) ss v

-- it is x
unfoldable pub in_state : Table → List ℕ → ℕ → ℕ → Bool
in_state t ss x v = eqb (state_of t ss v) x

-- the state of vertex v becomes x, and no other
unfoldable pub with_state : Table → ℕ → ℕ → List ℕ → List ℕ
with_state t v x ss = set ss (place (position v (live_vertices t))) x

-- the states of the vertices that live numbers, each as f says of its number; 0 in the unused records
unfoldable pub states_by : (ℕ → ℕ) → List ℕ → List ℕ
states_by f live = pad vertex_limit (map f live)

-- every record waits
abbrev pub all_waiting : List ℕ
all_waiting = replicate vertex_limit waiting
