-- The walk: its draws, its moves and its vertices. Assumes nothing.
use Rattle.std.specs.Prelude.{ℕ, zero, suc, ◌+◌, ◌*◌, ◌/◌, ◌%◌, ◌^◌, Bool, false, cond, not, List, [], ◌∷◌, map, length, take, pos, ◌==◌, bit_xor, nat_le, slice_index, Float}
use Rattle.std.specs.Float.{fin, binary64}
use Rattle.std.specs.Float.Ieee.{of_int, div, mul, lt}
use Rattle.lists.specs.Tests.{chosen}
use Rattle.lists.specs.Lists.{memb, word_at, sum_over}
use Rattle.layout.specs.Content.{Hyperedge, Table, hyperedge_weight, hyperedges_of}
use Rattle.layout.specs.Answers.{Result, on_live_vertex, listed}
use Rattle.walk.specs.declared.Walker.{Walker}

-- a draw: the 64-bit state xored with itself shifted left 13, then right 7, then left 17, high bits dropped
abbrev pub left_thirteen : ℕ → ℕ
left_thirteen x = bit_xor x (x * 2 ^ 13 % 2 ^ 64)

abbrev pub right_seven : ℕ → ℕ
right_seven x = bit_xor x (x / 2 ^ 7)

abbrev pub left_seventeen : ℕ → ℕ
left_seventeen x = bit_xor x (x * 2 ^ 17 % 2 ^ 64)

-- `xorshift64`: the new state, which is the draw
unfoldable pub xorshift : ℕ → ℕ
xorshift state = left_seventeen (right_seven (left_thirteen state))

-- a whole number as an f64, rounded once to nearest, ties to even
abbrev pub float : ℕ → Float
float n = of_int binary64 (pos n)

-- 2 to the 64th
abbrev pub two64 : Float
two64 = fin false 1 (pos 64)

-- the draw is divided by 2 to the 64th, then multiplied by the total weight
unfoldable pub sample : ℕ → ℕ → Float
sample draw total = mul binary64 (div binary64 (float draw) two64) (float total)

-- ---- the hyperedge

-- the total weight
abbrev pub total_weight : List Hyperedge → ℕ
total_weight es = sum_over hyperedge_weight es

-- the last of e and es
unfoldable pub last_of : Hyperedge → List Hyperedge → Hyperedge
last_of e [] = e
last_of e (f ∷ es) = last_of f es

-- the first whose running sum is greater than x, else the one named; sum: the running sum before
unfoldable pub first_greater : Float → Hyperedge → ℕ → List Hyperedge → Hyperedge
first_greater x other sum [] = other
first_greater x other sum (e ∷ es) = cond (lt x (float (sum + e.weight))) e (first_greater x other (sum + e.weight) es)

-- ---- the member

-- what stands at place i is not v, and stands at no place before
unfoldable pub is_first_other : ℕ → List ℕ → ℕ → Bool
is_first_other v ms i = not (memb (slice_index ms i) (v ∷ take i ms))

-- the distinct other members, in order of first place
unfoldable pub other_members : ℕ → List ℕ → List ℕ
other_members v ms = map (word_at ms) (chosen (is_first_other v ms) (length ms))

-- a vertex and a state
abbrev pub walker : ℕ → ℕ → Walker
walker v state = record { at = v; state = state }

-- a second draw, modulo their number, picks among the distinct other members; where there is none, v stays after one draw
unfoldable pub to_one_of : ℕ → ℕ → List ℕ → Walker
to_one_of v state [] = walker v state
to_one_of v state (m ∷ ms) = walker (slice_index (m ∷ ms) (xorshift state % length (m ∷ ms))) (xorshift state)

-- ---- the walk

-- a vertex in no hyperedge stays and draws nothing
unfoldable pub move_along : Walker → List Hyperedge → Walker
move_along w [] = w
move_along w (e ∷ es) =
    to_one_of w.at (xorshift w.state)
    (other_members w.at (first_greater (sample (xorshift w.state) (total_weight (e ∷ es))) (last_of e es) 0 (e ∷ es)).members)

-- one move from where the walk is
unfoldable pub move : Table → Walker → Walker
move t w = move_along w (hyperedges_of t w.at)

-- the first n vertices from w on
unfoldable pub walk_from : Table → Walker → ℕ → List ℕ
walk_from t w zero = []
walk_from t w (suc n) = w.at ∷ walk_from t (move t w) n

-- the most steps of a walk
abbrev pub step_limit : ℕ
step_limit = 4096

-- a step count over the limit is cut to it
unfoldable pub cut : ℕ → ℕ
cut steps = cond (nat_le steps step_limit) steps step_limit

-- seed 0 reads as 1
unfoldable pub first_state : ℕ → ℕ
first_state seed = cond (seed == 0) 1 seed

-- the start and one vertex for each step
unfoldable pub walk : Table → ℕ → ℕ → ℕ → List ℕ
walk t start steps seed = walk_from t (walker start (first_state seed)) (cut steps + 1)

-- random_walk: 1, 3, 11
unfoldable pub walk_result : ℕ → ℕ → ℕ → List ℕ → Table → Result
walk_result start steps seed lent t = on_live_vertex t start lent (listed (walk t start steps seed) lent)
