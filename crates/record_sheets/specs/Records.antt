-- Lines of tubes and of transfers. Assumes nothing.
use Rattle.std.specs.Prelude.{cond, List, [], ◌∷◌, ◌++◌, ℕ, eqb}
use Rattle.lists.specs.Lists.{flat}
use Rattle.layout.specs.Content.{Vertex, Hyperedge, Table, hyperedges_of}
use Rattle.wording.specs.Texts.{text}
use Rattle.wording.specs.Forms.{filled, number_line}
use Rattle.desk.specs.States.{waiting, reviewed, state_of}

-- the name of a state
unfoldable pub state_name : ℕ → List ℕ
state_name x = cond (eqb x waiting) (text "waiting") (cond (eqb x reviewed) (text "reviewed") (text "released"))

-- a tube by a form: A is its number, B its weight, C its state, U the name of its state; ss are the states
unfoldable pub tube_line : List ℕ → List ℕ → Table → Vertex → List ℕ
tube_line form ss t v =
    filled form (v.number ∷ v.weight ∷ state_of t ss v.number ∷ []) (state_name (state_of t ss v.number))

-- a transfer by a form: A is its number, B its weight; the members follow
unfoldable pub transfer_line : List ℕ → Hyperedge → List ℕ
transfer_line form e = filled form (e.number ∷ e.weight ∷ []) [] ++ number_line [] [] e.members

-- a line for each, or `none` where there is none
unfoldable pub lines_or : {A : Type 0} → List ℕ → (A → List ℕ) → List A → List ℕ
lines_or none line [] = none
lines_or none line (x ∷ xs) = flat line (x ∷ xs)

-- the tubes
unfoldable pub tube_lines : List ℕ → List ℕ → List ℕ → Table → List ℕ
tube_lines none form ss t = lines_or none (tube_line form ss t) t.vertices

-- the transfers
unfoldable pub transfer_lines : List ℕ → Table → List ℕ
transfer_lines form t = flat (transfer_line form) t.hyperedges

-- the transfers that list tube v
unfoldable pub transfers_of : List ℕ → List ℕ → ℕ → Table → List ℕ
transfers_of none form v t = lines_or none (transfer_line form) (hyperedges_of t v)
