-- What is left to answer of an edit after its first refusals. Assumes nothing.
use Rattle.std.specs.Prelude.{◌≡◌, List, ℕ, ◌≤◌, ◌<◌, length, Ok, Err}
use Rattle.std.specs.Prelude.{Result as OkOrErr}
use Rattle.layout.specs.declared.Refusal.{Refusal}
use Rattle.layout.specs.Content.{Table}
use Rattle.layout.specs.Layout.{limit, hyperedge_limit, words}
use Rattle.layout.specs.Answers.{Result, result_of, on_live_vertices, on_live_vertex, on_live_hyperedge}
use Rattle.edits.specs.Edits.{add_hyperedge, update_hyperedge, merge_vertices}
use Rattle.edits.specs.Results.{on_some, on_short, on_unequal, on_room, on_number, on_new, on_changed, on_other, on_apart}

-- 2, 6, 3, 20
abbrev pub on_members : List ℕ → ℕ → Table → List ℕ → Result → Result
on_members ms d t lent r = on_some ms d lent (on_short ms lent (on_live_vertices t ms lent (on_unequal ms lent r)))

-- what speaks against a member list, if anything
abbrev pub Judgement : Type 0
Judgement = OkOrErr (Unit {0}) Refusal

-- the refusal of a member list, or what comes after
abbrev pub or_else : Judgement → List ℕ → Result → Result
or_else (Err a) lent r = result_of (Err a) lent
or_else (Ok tt) lent r = r

-- j is what 20 says of the list
abbrev pub NeighboursJudged : Judgement → List ℕ → Type 0
NeighboursJudged j ms = (lent : List ℕ) (r : Result) → or_else j lent r ≡ on_unequal ms lent r

-- j is what 2, 6, 3 and 20 say of the list
pub record JudgedBy (j : Judgement) (ms : List ℕ) (d : ℕ) (t : Table) : Type 0 where
  pub says : (lent : List ℕ) (r : Result) → or_else j lent r ≡ on_members ms d t lent r
  pub some : j ≡ Ok tt → 0 < length ms
  pub short : j ≡ Ok tt → length ms ≤ limit

-- add_hyperedge, where no hyperedge is identical: 7, 8
unfoldable pub add_new_result : List ℕ → ℕ → List ℕ → Table → Result
add_new_result ms w ws t =
    on_room (length t.hyperedges) hyperedge_limit ws
    (on_number t.next_hyperedge ws
    (result_of (Ok t.next_hyperedge) (words limit (add_hyperedge ms w t))))

-- add_hyperedge, where 2, 6, 3 and 20 refuse nothing: an identical one, then 7, 8
unfoldable pub add_judged_result : List ℕ → ℕ → List ℕ → Table → Result
add_judged_result ms w ws t = on_new ms w t.hyperedges ws (add_new_result ms w ws t)

-- update_hyperedge_vertices, where the hyperedge is live: 5
unfoldable pub update_live_result : ℕ → List ℕ → List ℕ → Table → Result
update_live_result x ms ws t = on_changed x ms t ws (result_of (Ok 0) (words limit (update_hyperedge x ms t)))

-- update_hyperedge_vertices, where 2, 6, 3 and 20 refuse nothing: 4, 5
unfoldable pub update_judged_result : ℕ → List ℕ → List ℕ → Table → Result
update_judged_result x ms ws t = on_live_hyperedge t x ws (update_live_result x ms ws t)

-- merge_vertices, where both vertices are live: 13, 14
unfoldable pub merge_live_result : ℕ → ℕ → List ℕ → Table → Result
merge_live_result v w ws t = on_other v w ws (on_apart v w t.hyperedges ws (result_of (Ok 0) (words limit (merge_vertices v w t))))

-- merge_vertices, where v is live: 3 for w, 13, 14
unfoldable pub merge_into_result : ℕ → ℕ → List ℕ → Table → Result
merge_into_result v w ws t = on_live_vertex t w ws (merge_live_result v w ws t)
