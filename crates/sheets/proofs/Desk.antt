-- The cases of the release desk hold, by computation of the definitions that the promises cite. Assumes nothing.
use Rattle.std.specs.Prelude.{Err}
use mathlib.Core.Path.{◌≡◌, refl, ap, ◌∙◌}
use mathlib.Core.Bool.{Bool, true, cond}
use mathlib.Core.List.{List, [], ◌∷◌, map}
use Prim.Native.Nat.{ℕ}
use lib.ListN.{length}
use Rattle.lists.specs.Tests.{◌and◌}
use Rattle.lists.specs.Lists.{all, any, filter, tab, zeros, over, ascending}
use Rattle.lists.proofs.Cases.{and_left, and_right}
use Rattle.layout.specs.declared.Refusal.TheVariants.{NotWellFormed}
use Rattle.layout.specs.Content.{Table, live_vertices, position, position_from, members_live, numbered, valid}
use Rattle.layout.specs.Layout.{limit, read, words}
use Rattle.layout.specs.Steps.{steps_of, is_step, makes_step, has_step}
use Rattle.layout.specs.WellFormed.{count_fits, holdable}
use Rattle.layout.specs.Answers.{Result, result_of, on_live, listed}
use Rattle.layout.proofs.Back.{words-formed, read-words}
use Rattle.edits.specs.Results.{on_first, first_passing, first_passing_from}
use Rattle.desk.specs.States.{states_fit, state_in, in_state, with_state}
use Rattle.desk.specs.Desk.{desk_of, desk_fits}
use Rattle.desk.specs.Releases.{on_desk, once_reviewed, review_result, holds, on_reviewed, releasing, release_result, vertices_in, list_result, is_releasable, releasable, releasable_result}
use Rattle.desk.specs.Orders.{at_fault, first_fault, stops_short, accept_result}
use Rattle.sheets.specs.Desk.{DeskCase, HoldAtDesk, at_desk}

-- what is asked of a case's content
abbrev asked : DeskCase → Result
asked c = cond (states_fit (length (live_vertices c.table)) c.states) (c.call c.states c.table) (result_of (Err NotWellFormed) c.given)

abbrev answered : DeskCase → Result
answered c = c.answer

-- each table is one that words can hold
abbrev in_words : DeskCase → Bool
in_words c = holdable limit c.table

-- states fit the words of a table that words can hold where they fit that table, and a call on these words is asked of that table
fits-words : (t : Table) → holdable limit t ≡ true → (ss : List ℕ) → desk_fits (desk_of (words limit t) ss) ≡ states_fit (length (live_vertices t)) ss
unfolding desk_fits ◌and◌
fits-words t h ss =
    ap (λ (b : Bool). b and states_fit (length (live_vertices (read limit (words limit t)))) ss) (words-formed limit t h)
    ∙ ap (λ (u : Table). states_fit (length (live_vertices u)) ss) (read-words limit t h)

called : (t : Table) → holdable limit t ≡ true → (ss lent : List ℕ) (f : Table → Result)
    → on_desk (desk_of (words limit t) ss) lent f ≡ cond (states_fit (length (live_vertices t)) ss) (f t) (result_of (Err NotWellFormed) lent)
unfolding on_desk
called t h ss lent f = rw (fits-words t h ss, read-words limit t h)

hold : (cs : List DeskCase) → map asked cs ≡ map answered cs → all in_words cs ≡ true → HoldAtDesk cs
unfolding all
hold [] e h = tt
hold (c ∷ cs) e h =
    let here : asked c ≡ answered c = cc in
    let behind : map asked cs ≡ map answered cs = cc in
    (called c.table (and_left _ _ h) c.states c.given (c.call c.states) ∙ here, hold cs behind (and_right _ _ h))

computed : map asked at_desk ≡ map answered at_desk
unfolding states_fit state_in in_state with_state once_reviewed review_result holds on_reviewed releasing release_result vertices_in list_result is_releasable releasable releasable_result at_fault first_fault stops_short accept_result on_first first_passing first_passing_from has_step makes_step is_step steps_of any all zeros filter tab ◌and◌ on_live listed over position position_from
computed = refl

all-in-words : all in_words at_desk ≡ true
unfolding all any holdable count_fits valid ascending members_live numbered ◌and◌
all-in-words = refl

pub desk-holds : HoldAtDesk at_desk
desk-holds = hold at_desk computed all-in-words
