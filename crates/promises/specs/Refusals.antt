-- The grounds of refusal, and what it is for a call to be refused by them. Assumes nothing.
use Rattle.std.specs.Prelude.{◌≡◌, Bool, cond, not, List, [], ◌∷◌, ◌++◌, map, ℕ, zero, suc, eqb, length, Err}
use Rattle.std.proofs.Math.Option.{Option, some, none}
use Rattle.lists.specs.Tests.{◌and◌}
use Rattle.lists.specs.Lists.{any}
use Rattle.layout.specs.Answers.{Answer}
use Rattle.layout.specs.declared.Refusal.TheVariants.{NotWellFormed, NoMembers, SameMembers, TooManyMembers, Full, NumbersSpent, ClosedWalk, TooFewHyperedges, NoRoom, BadText, SameVertex, BadRecord}
use Rattle.layout.specs.Content.{Hyperedge, Table, live_vertices, live_hyperedges, is_live}
use Rattle.layout.specs.Layout.{vertex_limit, hyperedge_limit, limit, size, read}
use Rattle.layout.specs.WellFormed.{well_formed}
use Rattle.layout.specs.Steps.{Step, steps_of, same_ends}
use Rattle.layout.specs.Answers.{Result, result_of, vertex_missing, hyperedge_missing, fits}
use Rattle.edits.specs.Results.{has_some, is_short, has_room, is_spent, equals_old, identical, is_same, side_by_side, side_by_side_in, twiceInARow}
use Rattle.trays.specs.declared.Withdrawal.{Withdrawal}
use Rattle.trays.specs.Trays.{is_faulty}
use Rattle.lookups.specs.Results.{is_few}
use Rattle.structural.specs.Sort.{sort_of, acyclic}
use Rattle.frames.specs.Reading.{content_of, accepted, faulty_line}

-- a ground of refusal: the answer that it gives, and whether it applies
pub record Ground : Type 0 where
  pub answer : Answer
  pub applies : Bool

-- the first that applies
unfoldable pub first : List Ground → Option Ground
first [] = none
first (g ∷ gs) = cond g.applies (some g) (first gs)

-- each refusal is given then and only then, by the first that applies, and changes no lent word
pub record Judged (gs : List Ground) (lent : List ℕ) (r : Result) : Type 0 where
  pub refused : (g : Ground) → first gs ≡ some g → r ≡ result_of g.answer lent
  pub done : first gs ≡ none → r.number ≡ 0

-- ---- the table of answer numbers

-- 1: table not well formed
abbrev pub unformed : List ℕ → Ground
unformed ws = record { answer = (Err NotWellFormed); applies = not (well_formed limit ws) }

-- 1, where only a wrong length counts
abbrev pub unsized : List ℕ → Ground
unsized ws = record { answer = (Err NotWellFormed); applies = not (eqb (length ws) (size limit)) }

-- 2: member list empty
abbrev pub no_members : List ℕ → ℕ → Ground
no_members ms d = record { answer = Err (NoMembers d); applies = not (has_some ms) }

-- what is not live, by the refusal that names it
abbrev pub missing : List ℕ → (ℕ → Answer) → ℕ → Ground
missing live refusal x = record { answer = refusal x; applies = not (is_live live x) }

-- 3: vertex not live, for each of the list in turn
abbrev pub dead_vertices : Table → List ℕ → List Ground
dead_vertices t vs = map (missing (live_vertices t) vertex_missing) vs

-- 4: hyperedge not live, for each of the list in turn
abbrev pub dead_hyperedges : Table → List ℕ → List Ground
dead_hyperedges t es = map (missing (live_hyperedges t) hyperedge_missing) es

-- 5: new list equals the old
abbrev pub same_members : ℕ → List ℕ → Table → Ground
same_members x ms t = record { answer = Err (SameMembers (record { 0 = x })); applies = equals_old x ms t }

-- 6: member list over the limit
abbrev pub too_many : List ℕ → Ground
too_many ms = record { answer = Err (TooManyMembers (length ms)); applies = not (is_short ms) }

-- 7: as many live as the limit
abbrev pub full : ℕ → ℕ → Ground
full live most = record { answer = (Err Full); applies = not (has_room live most) }

-- 8: the next number is the one that is never given
abbrev pub spent : ℕ → Ground
spent next = record { answer = (Err NumbersSpent); applies = is_spent next }

-- 9: steps form a closed walk
abbrev pub closed_walk : Table → Ground
closed_walk t = record { answer = (Err ClosedWalk); applies = not (acyclic t) }

-- 10: fewer than two hyperedges to intersect
abbrev pub too_few : List ℕ → Ground
too_few es = record { answer = (Err TooFewHyperedges); applies = is_few es }

-- 11: answer longer than the lent slice
abbrev pub no_room : List ℕ → List ℕ → Ground
no_room xs lent = record { answer = Err (NoRoom (length xs)); applies = not (fits xs lent) }

-- 12: frame text bad
abbrev pub bad_text : List ℕ → Ground
bad_text text = record { answer = Err (BadText (faulty_line text)); applies = not (accepted text) }

-- 13: v is w
abbrev pub same_vertex : ℕ → ℕ → Ground
same_vertex v w = record { answer = Err (SameVertex (record { 0 = v })); applies = is_same v w }

-- 14: v and w stand side by side in the hyperedge
abbrev pub beside_in : ℕ → ℕ → Hyperedge → Ground
beside_in v w e = record { answer = side_by_side_in e.number; applies = side_by_side v w e }

-- 14, for each hyperedge in turn: they ascend, so the first is the lowest
abbrev pub beside : ℕ → ℕ → Table → List Ground
beside v w t = map (beside_in v w) t.hyperedges

-- 15: the record at place i is of another kind or not live
abbrev pub faulty_record : Table → ℕ → Withdrawal → Ground
faulty_record t i w = record { answer = Err (BadRecord i); applies = is_faulty t w }

-- 15, for each record in turn, its place counted from i
unfoldable pub faulty_from : Table → ℕ → List Withdrawal → List Ground
faulty_from t i [] = []
faulty_from t i (w ∷ rs) = faulty_record t i w ∷ faulty_from t (suc i) rs

-- the same, counted from 0
abbrev pub faulty_records : Table → List Withdrawal → List Ground
faulty_records t rs = faulty_from t zero rs

-- 20: the list has equal neighbours at the place
abbrev pub equal_at : Step → Ground
equal_at s = record { answer = twiceInARow s; applies = same_ends s }

-- 20, for each place of the list that has one after it, in turn
abbrev pub equal_next : List ℕ → List Ground
equal_next ms = map equal_at (steps_of ms)

-- ---- the order for each call; ws are the table's words

-- the content that stands in the words
abbrev pub content : List ℕ → Table
content ws = read limit ws

-- add vertex 1, 7, 8
abbrev pub add_vertex_grounds : List ℕ → List Ground
add_vertex_grounds ws =
    let t = content ws in unformed ws ∷ full (length t.vertices) vertex_limit ∷ spent t.next_vertex ∷ []

-- a ground that applies only where the test fails
abbrev pub unless : Bool → Ground → Ground
unless b g = record { answer = g.answer; applies = not b and g.applies }

-- add hyperedge 1, 2, 6, 3, 20; then 7, 8, unless there is an identical one
abbrev pub add_hyperedge_grounds : List ℕ → ℕ → List ℕ → List Ground
add_hyperedge_grounds ms w ws =
    let t = content ws in
    unformed ws ∷ no_members ms w ∷ too_many ms
    ∷ (dead_vertices t ms
    ++ (equal_next ms
    ++ map (unless (any (identical ms w) t.hyperedges)) (full (length t.hyperedges) hyperedge_limit ∷ spent t.next_hyperedge ∷ [])))

-- update 1, 2, 6, 3, 20, 4, 5
abbrev pub update_grounds : ℕ → List ℕ → List ℕ → List Ground
update_grounds x ms ws =
    let t = content ws in
    unformed ws ∷ no_members ms x ∷ too_many ms
    ∷ (dead_vertices t ms ++ (equal_next ms ++ (dead_hyperedges t (x ∷ []) ++ (same_members x ms t ∷ []))))

-- remove vertex, and its weight: 1, 3; queries 1, then the first argument before the second
abbrev pub vertex_grounds : List ℕ → List ℕ → List Ground
vertex_grounds vs ws = unformed ws ∷ dead_vertices (content ws) vs

-- merge 1, 3 for v, 3 for w, 13, 14
abbrev pub merge_grounds : ℕ → ℕ → List ℕ → List Ground
merge_grounds v w ws =
    let t = content ws in unformed ws ∷ (dead_vertices t (v ∷ w ∷ []) ++ (same_vertex v w ∷ beside v w t))

-- remove hyperedge, and its weight: 1, 4
abbrev pub hyperedge_grounds : ℕ → List ℕ → List Ground
hyperedge_grounds x ws = unformed ws ∷ dead_hyperedges (content ws) (x ∷ [])

-- withdraw a tray 1, 15
abbrev pub tray_grounds : List Withdrawal → List ℕ → List Ground
tray_grounds rs ws = unformed ws ∷ faulty_records (content ws) rs

-- queries 1, then their own refusal, then 11
abbrev pub listing_grounds : List ℕ → List ℕ → List ℕ → List ℕ → List Ground
listing_grounds vs xs lent ws = unformed ws ∷ (dead_vertices (content ws) vs ++ (no_room xs lent ∷ []))

-- the members of a hyperedge 1, 4, 11
abbrev pub members_grounds : ℕ → List ℕ → List ℕ → List ℕ → List Ground
members_grounds e xs lent ws = unformed ws ∷ (dead_hyperedges (content ws) (e ∷ []) ++ (no_room xs lent ∷ []))

-- intersections 1, 10, 4, 11
abbrev pub intersections_grounds : List ℕ → List ℕ → List ℕ → List ℕ → List Ground
intersections_grounds es xs lent ws =
    unformed ws ∷ too_few es ∷ (dead_hyperedges (content ws) es ++ (no_room xs lent ∷ []))

-- the sort 1, 9, 11
abbrev pub sort_grounds : List ℕ → List ℕ → List ℕ → List Ground
sort_grounds xs lent ws = unformed ws ∷ closed_walk (content ws) ∷ no_room xs lent ∷ []

-- reading frames 1, 12
abbrev pub read_grounds : List ℕ → List ℕ → List Ground
read_grounds text ws = unsized ws ∷ bad_text text ∷ []

-- the sort of a frame text 12, 9, 11
abbrev pub sheet_grounds : List ℕ → List ℕ → List Ground
sheet_grounds text lent = bad_text text ∷ closed_walk (content_of text) ∷ no_room (sort_of (content_of text)) lent ∷ []
