-- What each edit answers and leaves, in the order of its refusals; 1 comes before all by `on_formed`. Assumes nothing.
use Rattle.std.specs.Prelude.{Bool, cond, ◌||◌, List, [], ◌∷◌, ℕ, zero, suc, eqb, leb, ltb, length, replicate, Option, Some, None, Ok, Err}
use Rattle.lists.specs.Tests.{◌and◌, bit}
use Rattle.lists.specs.Lists.{same_list}
use Rattle.layout.specs.Answers.{Answer}
use Rattle.layout.specs.declared.Refusal.TheVariants.{NotWellFormed, NoMembers, SameMembers, TooManyMembers, Full, NumbersSpent, SameVertex, SideBySide, EqualNeighbours}
use Rattle.layout.specs.Content.{Hyperedge, Table}
use Rattle.layout.specs.Layout.{vertex_limit, hyperedge_limit, limit, size, words}
use Rattle.layout.specs.Steps.{Step, steps_of, same_ends, makes_step}
use Rattle.layout.specs.Answers.{Result, result_of, on_live_vertices, on_live_vertex, on_live_hyperedge}
use Rattle.edits.specs.Edits.{add_vertex, add_hyperedge, update_hyperedge, remove_vertex, merge_vertices, remove_hyperedge}

-- the number that is never given
abbrev pub last_number : ℕ
last_number = 4294967295

-- the first of a list that passes the test gives its answer
unfoldable pub on_first : {A : Type 0} → (A → Bool) → (A → Answer) → List A → List ℕ → Result → Result
on_first p answer [] lent r = r
on_first p answer (x ∷ xs) lent r = cond (p x) (result_of (answer x) lent) (on_first p answer xs lent r)

-- the place of the first of a list that passes the test, counted from i
unfoldable pub first_passing_from : {A : Type 0} → (A → Bool) → ℕ → List A → Option ℕ
first_passing_from p i [] = None
first_passing_from p i (x ∷ xs) = cond (p x) (Some i) (first_passing_from p (suc i) xs)

unfoldable pub first_passing : {A : Type 0} → (A → Bool) → List A → Option ℕ
first_passing p xs = first_passing_from p zero xs

-- a hyperedge gives the answer of its number; they ascend, so the first is the lowest
abbrev pub by_number : (ℕ → Answer) → Hyperedge → Answer
by_number answer e = answer e.number

-- 2: member list empty
abbrev pub has_some : List ℕ → Bool
has_some ms = ltb 0 (length ms)

unfoldable pub on_some : List ℕ → ℕ → List ℕ → Result → Result
on_some ms d lent r = cond (has_some ms) r (result_of (Err (NoMembers d)) lent)

-- 6: member list over the limit
abbrev pub is_short : List ℕ → Bool
is_short ms = leb (length ms) limit

unfoldable pub on_short : List ℕ → List ℕ → Result → Result
on_short ms lent r = cond (is_short ms) r (result_of (Err (TooManyMembers (length ms))) lent)

-- 20: two equal neighbours; the vertex of the first place that equals the place after it
abbrev pub twiceInARow : Step → Answer
twiceInARow s = Err (EqualNeighbours (record { 0 = s.from }))

abbrev pub on_unequal : List ℕ → List ℕ → Result → Result
on_unequal ms lent r = on_first same_ends twiceInARow (steps_of ms) lent r

-- 7: as many live as the limit
abbrev pub has_room : ℕ → ℕ → Bool
has_room live most = ltb live most

unfoldable pub on_room : ℕ → ℕ → List ℕ → Result → Result
on_room live most lent r = cond (has_room live most) r (result_of (Err Full) lent)

-- 8: the next number is the one that is never given
abbrev pub is_spent : ℕ → Bool
is_spent next = eqb next last_number

unfoldable pub on_number : ℕ → List ℕ → Result → Result
on_number next lent r = cond (is_spent next) (result_of (Err NumbersSpent) lent) r

-- the same list and weight
unfoldable pub identical : List ℕ → ℕ → Hyperedge → Bool
identical ms w e = same_list ms e.members and eqb w e.weight

-- an identical hyperedge answers its number, the first of several
abbrev pub on_new : List ℕ → ℕ → List Hyperedge → List ℕ → Result → Result
on_new ms w es lent r = on_first (identical ms w) (by_number Ok) es lent r

-- the members of the hyperedge of number x
unfoldable pub members_of : ℕ → List Hyperedge → List ℕ
members_of x [] = []
members_of x (e ∷ es) = cond (eqb e.number x) e.members (members_of x es)

-- 5: new list equals the old
abbrev pub equals_old : ℕ → List ℕ → Table → Bool
equals_old x ms t = same_list ms (members_of x t.hyperedges)

unfoldable pub on_changed : ℕ → List ℕ → Table → List ℕ → Result → Result
on_changed x ms t lent r = cond (equals_old x ms t) (result_of (Err (SameMembers (record { 0 = x }))) lent) r

-- 13: v is w
abbrev pub is_same : ℕ → ℕ → Bool
is_same v w = eqb v w

unfoldable pub on_other : ℕ → ℕ → List ℕ → Result → Result
on_other v w lent r = cond (is_same v w) (result_of (Err (SameVertex (record { 0 = v }))) lent) r

-- 14: v and w stand side by side in a list, v right before w or w right before v; the lowest such hyperedge
unfoldable pub side_by_side : ℕ → ℕ → Hyperedge → Bool
side_by_side v w e = makes_step v w e || makes_step w v e

abbrev pub side_by_side_in : ℕ → Answer
side_by_side_in x = Err (SideBySide (record { 0 = x }))

abbrev pub on_apart : ℕ → ℕ → List Hyperedge → List ℕ → Result → Result
on_apart v w es lent r = on_first (side_by_side v w) (by_number side_by_side_in) es lent r

-- add_vertex: 1, 7, 8
unfoldable pub add_vertex_result : ℕ → List ℕ → Table → Result
add_vertex_result w ws t =
    on_room (length t.vertices) vertex_limit ws
    (on_number t.next_vertex ws
    (result_of (Ok t.next_vertex) (words limit (add_vertex w t))))

-- add_hyperedge: 1, 2, 6, 3, 20, then an identical one, then 7, 8
unfoldable pub add_hyperedge_result : List ℕ → ℕ → List ℕ → Table → Result
add_hyperedge_result ms w ws t =
    on_some ms w ws
    (on_short ms ws
    (on_live_vertices t ms ws
    (on_unequal ms ws
    (on_new ms w t.hyperedges ws
    (on_room (length t.hyperedges) hyperedge_limit ws
    (on_number t.next_hyperedge ws
    (result_of (Ok t.next_hyperedge) (words limit (add_hyperedge ms w t)))))))))

-- update_hyperedge_vertices: 1, 2, 6, 3, 20, 4, 5
unfoldable pub update_result : ℕ → List ℕ → List ℕ → Table → Result
update_result x ms ws t =
    on_some ms x ws
    (on_short ms ws
    (on_live_vertices t ms ws
    (on_unequal ms ws
    (on_live_hyperedge t x ws
    (on_changed x ms t ws
    (result_of (Ok 0) (words limit (update_hyperedge x ms t))))))))

-- remove_vertex: 1, 3
unfoldable pub remove_vertex_result : ℕ → List ℕ → Table → Result
remove_vertex_result v ws t = on_live_vertex t v ws (result_of (Ok 0) (words limit (remove_vertex v t)))

-- merge_vertices: 1, 3 for v, 3 for w, 13, 14
unfoldable pub merge_result : ℕ → ℕ → List ℕ → Table → Result
merge_result v w ws t =
    on_live_vertices t (v ∷ w ∷ []) ws
    (on_other v w ws
    (on_apart v w t.hyperedges ws
    (result_of (Ok 0) (words limit (merge_vertices v w t)))))

-- remove_hyperedge: 1, 4
unfoldable pub remove_hyperedge_result : ℕ → List ℕ → Table → Result
remove_hyperedge_result x ws t = on_live_hyperedge t x ws (result_of (Ok 0) (words limit (remove_hyperedge x t)))

-- clear: 1 only for a wrong length; else every word is 0
unfoldable pub clear_result : List ℕ → Result
clear_result ws = cond (eqb (length ws) (size limit)) (result_of (Ok 0) (replicate (size limit) 0)) (result_of (Err NotWellFormed) ws)

-- is_empty: no vertex is live
unfoldable pub empty_result : Table → Result
empty_result t = result_of (Ok (bit (eqb (length t.vertices) 0))) []
