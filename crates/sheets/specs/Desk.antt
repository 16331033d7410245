-- Cases of the release desk: a day on a chain, orders, and states that don't fit. Assumes nothing.
use Rattle.std.specs.Prelude.{◌≡◌, List, [], ◌∷◌, ℕ, replicate, Ok, Err}
use Rattle.lists.specs.Lists.{pad}
use Rattle.layout.specs.Answers.{Answer}
use Rattle.layout.specs.declared.Refusal.TheVariants.{NotWellFormed, BadOrder}
use Rattle.layout.specs.Content.{Table}
use Rattle.layout.specs.Layout.{limit, vertex_limit, words}
use Rattle.layout.specs.Answers.{Result, result_of, vertex_missing}
use Rattle.desk.specs.Desk.{desk_of}
use Rattle.desk.specs.Releases.{on_desk, review_result, not_reviewed, upstream_held, release_result, list_result, releasable_result}
use Rattle.desk.specs.Orders.{accept_result}
use Rattle.sheets.specs.Sheets.{G, Loop, Two, lent, gives}

-- a table, the states, what is lent, a call of them and the rules' answer
pub record DeskCase : Type 0 where
  pub table : Table
  pub states : List ℕ
  pub given : List ℕ
  pub call : List ℕ → Table → Result
  pub answer : Result

-- for each case: on the words of its table and the states, the call gives the rules' answer
abbrev pub HoldAtDesk : List DeskCase → Type 0
HoldAtDesk [] = Unit {0}
HoldAtDesk (c ∷ cs) = (on_desk (desk_of (words limit c.table) c.states) c.given (c.call c.states) ≡ c.answer) × HoldAtDesk cs

-- states of the first records, and 0 in the others
abbrev pub states : List ℕ → List ℕ
states xs = pad vertex_limit xs

-- a call that writes the states: these before it, and these after it
abbrev pub signs : Table → List ℕ → (List ℕ → Table → Result) → Answer → List ℕ → DeskCase
signs t before c a after = record { table = t; states = states before; given = states before; call = c; answer = result_of a (states after) }

-- an order handed in; the states don't matter
abbrev pub hands : Table → List ℕ → Answer → DeskCase
hands t order a = record { table = t; states = states []; given = []; call = λ ss. accept_result order; answer = result_of a [] }

-- ---- a day on [0,1] and [1,2]

-- 1 is not reviewed, and would be held too; reviewed it is held by 0; 9 is not live
abbrev pub not-reviewed : DeskCase
not-reviewed = signs Two (1 ∷ 0 ∷ 0 ∷ []) (release_result 1) (not_reviewed 1) (1 ∷ 0 ∷ 0 ∷ [])

abbrev pub a-review : DeskCase
a-review = signs Two (1 ∷ 0 ∷ 0 ∷ []) (review_result 1) (Ok 0) (1 ∷ 1 ∷ 0 ∷ [])

abbrev pub too-early : DeskCase
too-early = signs Two (1 ∷ 1 ∷ 1 ∷ []) (release_result 1) (upstream_held 0) (1 ∷ 1 ∷ 1 ∷ [])

abbrev pub missing : DeskCase
missing = signs Two (1 ∷ 1 ∷ 1 ∷ []) (release_result 9) (vertex_missing 9) (1 ∷ 1 ∷ 1 ∷ [])

-- down the order; a release again changes nothing, and a review takes none back
abbrev pub first-released : DeskCase
first-released = signs Two (1 ∷ 1 ∷ 1 ∷ []) (release_result 0) (Ok 0) (2 ∷ 1 ∷ 1 ∷ [])

abbrev pub next-released : DeskCase
next-released = signs Two (2 ∷ 1 ∷ 1 ∷ []) (release_result 1) (Ok 0) (2 ∷ 2 ∷ 1 ∷ [])

abbrev pub again-released : DeskCase
again-released = signs Two (2 ∷ 2 ∷ 1 ∷ []) (release_result 0) (Ok 0) (2 ∷ 2 ∷ 1 ∷ [])

abbrev pub stays-released : DeskCase
stays-released = signs Two (2 ∷ 2 ∷ 1 ∷ []) (review_result 1) (Ok 0) (2 ∷ 2 ∷ 1 ∷ [])

-- what is reviewed, and what a release would release now
abbrev pub shown-reviewed : DeskCase
shown-reviewed = record { table = Two; states = states (2 ∷ 1 ∷ 1 ∷ []); given = lent 2; call = λ ss. list_result 1 ss (lent 2); answer = gives (1 ∷ 2 ∷ []) }

abbrev pub shown-releasable : DeskCase
shown-releasable = record { table = Two; states = states (2 ∷ 1 ∷ 1 ∷ []); given = lent 1; call = λ ss. releasable_result ss (lent 1); answer = gives (1 ∷ []) }

-- ---- upstream

-- in G steps lead from 1 and 3 to 2: the lowest that is not released; a vertex that stands right after itself holds itself
abbrev pub lowest-held : DeskCase
lowest-held = signs G (1 ∷ 1 ∷ 1 ∷ 1 ∷ 1 ∷ []) (release_result 2) (upstream_held 1) (1 ∷ 1 ∷ 1 ∷ 1 ∷ 1 ∷ [])

abbrev pub other-held : DeskCase
other-held = signs G (2 ∷ 2 ∷ 1 ∷ 0 ∷ 1 ∷ []) (release_result 2) (upstream_held 3) (2 ∷ 2 ∷ 1 ∷ 0 ∷ 1 ∷ [])

abbrev pub holds-itself : DeskCase
holds-itself = signs Loop (1 ∷ []) (release_result 0) (upstream_held 0) (1 ∷ [])

-- ---- orders

abbrev pub accepted : DeskCase
accepted = hands Two (0 ∷ 1 ∷ 2 ∷ []) (Ok 0)

-- 0 has a step to the earlier 1; 0 again; 9 is not live; one short; none at all; a step to itself
abbrev pub step_back : DeskCase
step_back = hands Two (1 ∷ 0 ∷ 2 ∷ []) (Err (BadOrder 1))

abbrev pub repeated : DeskCase
repeated = hands Two (0 ∷ 1 ∷ 0 ∷ 2 ∷ []) (Err (BadOrder 2))

abbrev pub not_live : DeskCase
not_live = hands Two (0 ∷ 1 ∷ 2 ∷ 9 ∷ []) (Err (BadOrder 3))

abbrev pub one-short : DeskCase
one-short = hands Two (0 ∷ 1 ∷ []) (Err (BadOrder 2))

abbrev pub nothing-listed : DeskCase
nothing-listed = hands Two [] (Err (BadOrder 0))

abbrev pub step-to-itself : DeskCase
step-to-itself = hands Loop (0 ∷ []) (Err (BadOrder 0))

-- ---- states that don't fit: a 3, a state in an unused record, a word too few

abbrev pub unfit : List ℕ → DeskCase
unfit ss = record { table = Two; states = ss; given = ss; call = release_result 0; answer = result_of (Err NotWellFormed) ss }

abbrev pub no-state : DeskCase
no-state = unfit (states (1 ∷ 3 ∷ 0 ∷ []))

abbrev pub no-vertex : DeskCase
no-vertex = unfit (states (1 ∷ 1 ∷ 1 ∷ 1 ∷ []))

abbrev pub word-too-few : DeskCase
word-too-few = unfit (replicate 255 0)

-- all of them
abbrev pub at_desk : List DeskCase
at_desk =
    not-reviewed ∷ a-review ∷ too-early ∷ missing ∷ first-released ∷ next-released ∷ again-released ∷ stays-released
    ∷ shown-reviewed ∷ shown-releasable ∷ lowest-held ∷ other-held ∷ holds-itself
    ∷ accepted ∷ step_back ∷ repeated ∷ not_live ∷ one-short ∷ nothing-listed ∷ step-to-itself
    ∷ no-state ∷ no-vertex ∷ word-too-few ∷ []
