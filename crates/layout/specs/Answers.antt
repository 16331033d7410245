-- The rules' number and detail of each answer, and the refusals that many entry points share. Assumes nothing.
use Rattle.std.specs.Prelude.{Bool, cond, List, [], ◌∷◌, ℕ, leb, length, Ok, Err}
use Rattle.std.specs.Prelude.{Result as OkOrErr}
use Rattle.lists.specs.Lists.{over}
use Rattle.layout.specs.declared.Refusal.{Refusal}
use Rattle.layout.specs.declared.Refusal.TheVariants.{NotWellFormed, NoMembers, VertexNotLive, HyperedgeNotLive, SameMembers, TooManyMembers, Full, NumbersSpent, ClosedWalk, TooFewHyperedges, NoRoom, BadText, SameVertex, SideBySide, BadRecord, NotReviewed, UpstreamHeld, BadOrder, EqualNeighbours}
use Rattle.layout.specs.Content.{Table, live_vertices, live_hyperedges, is_live}
use Rattle.layout.specs.Layout.{limit, read}
use Rattle.layout.specs.WellFormed.{well_formed}

-- what an entry point answers: done, with a detail, or refused
abbrev pub Answer : Type 0
Answer = OkOrErr ℕ Refusal

-- the number of each answer, by the table of answer numbers
abbrev pub number : Answer → ℕ
number (Ok d) = 0
number (Err NotWellFormed) = 1
number (Err (NoMembers d)) = 2
number (Err (VertexNotLive v)) = 3
number (Err (HyperedgeNotLive e)) = 4
number (Err (SameMembers e)) = 5
number (Err (TooManyMembers k)) = 6
number (Err Full) = 7
number (Err NumbersSpent) = 8
number (Err ClosedWalk) = 9
number (Err TooFewHyperedges) = 10
number (Err (NoRoom k)) = 11
number (Err (BadText line)) = 12
number (Err (SameVertex v)) = 13
number (Err (SideBySide e)) = 14
number (Err (BadRecord i)) = 15
number (Err (NotReviewed v)) = 17
number (Err (UpstreamHeld v)) = 18
number (Err (BadOrder i)) = 19
number (Err (EqualNeighbours v)) = 20

-- the detail of each answer, by the same table
abbrev pub detail : Answer → ℕ
detail (Ok d) = d
detail (Err NotWellFormed) = 0
detail (Err (NoMembers d)) = d
detail (Err (VertexNotLive v)) = v.0
detail (Err (HyperedgeNotLive e)) = e.0
detail (Err (SameMembers e)) = e.0
detail (Err (TooManyMembers k)) = k
detail (Err Full) = 0
detail (Err NumbersSpent) = 0
detail (Err ClosedWalk) = 0
detail (Err TooFewHyperedges) = 0
detail (Err (NoRoom k)) = k
detail (Err (BadText line)) = line
detail (Err (SameVertex v)) = v.0
detail (Err (SideBySide e)) = e.0
detail (Err (BadRecord i)) = i
detail (Err (NotReviewed v)) = v.0
detail (Err (UpstreamHeld v)) = v.0
detail (Err (BadOrder i)) = i
detail (Err (EqualNeighbours v)) = v.0

-- what a call leaves: the answer's number and detail, and the words of the lent slice that it may write
pub record Result : Type 0 where
  pub number : ℕ
  pub detail : ℕ
  pub lent : List ℕ

-- an answer, and what it leaves in the lent slice
abbrev pub result_of : Answer → List ℕ → Result
result_of a lent = record { number = number a; detail = detail a; lent = lent }

-- 1: table not well formed, before all else; then what f says of the content
unfoldable pub on_formed : List ℕ → List ℕ → (Table → Result) → Result
on_formed ws lent f = cond (well_formed limit ws) (f (read limit ws)) (result_of (Err NotWellFormed) lent)

-- each of the list is live, or the refusal names the first missing one
unfoldable pub on_live : List ℕ → (ℕ → Answer) → List ℕ → List ℕ → Result → Result
on_live live refusal [] lent r = r
on_live live refusal (x ∷ xs) lent r = cond (is_live live x) (on_live live refusal xs lent r) (result_of (refusal x) lent)

-- the refusals that name a missing vertex, and a missing hyperedge
abbrev pub vertex_missing : ℕ → Answer
vertex_missing v = Err (VertexNotLive (record { 0 = v }))

abbrev pub hyperedge_missing : ℕ → Answer
hyperedge_missing e = Err (HyperedgeNotLive (record { 0 = e }))

-- 3: vertex not live, the first missing one
abbrev pub on_live_vertices : Table → List ℕ → List ℕ → Result → Result
on_live_vertices t vs lent r = on_live (live_vertices t) vertex_missing vs lent r

-- 3, for one vertex
abbrev pub on_live_vertex : Table → ℕ → List ℕ → Result → Result
on_live_vertex t v lent r = on_live_vertices t (v ∷ []) lent r

-- 4: hyperedge not live, the first missing one
abbrev pub on_live_hyperedges : Table → List ℕ → List ℕ → Result → Result
on_live_hyperedges t es lent r = on_live (live_hyperedges t) hyperedge_missing es lent r

-- 4, for one hyperedge
abbrev pub on_live_hyperedge : Table → ℕ → List ℕ → Result → Result
on_live_hyperedge t e lent r = on_live_hyperedges t (e ∷ []) lent r

-- a listing, from the front of the lent slice, which keeps the rest; 11 where it is longer than the slice
abbrev pub fits : List ℕ → List ℕ → Bool
fits xs lent = leb (length xs) (length lent)

unfoldable pub listed : List ℕ → List ℕ → Result
listed xs lent = cond (fits xs lent) (result_of (Ok (length xs)) (over xs lent)) (result_of (Err (NoRoom (length xs))) lent)
