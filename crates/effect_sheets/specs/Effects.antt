-- What a removal or a merge did to the transfers, in words. Assumes nothing.
use Rattle.std.specs.Prelude.{cond, List, [], ◌∷◌, ◌++◌, ℕ, eqb, length}
use Rattle.lists.specs.Lists.{same_list, flat}
use Rattle.layout.specs.Content.{Hyperedge, Table, live_hyperedges, is_live}
use Rattle.edits.specs.Results.{members_of}
use Rattle.wording.specs.Texts.{text}
use Rattle.wording.specs.Forms.{filled, joined}

-- ---- of one transfer: the verb is a form in which A stands for its number

-- the members that transfer x has now, or nothing where they are the old ones
unfoldable pub relisted : List ℕ → ℕ → List ℕ → List ℕ → List ℕ
relisted verb x old members = cond (same_list old members) [] (filled verb (x ∷ []) [] ++ joined members)

-- it is gone
unfoldable pub emptied : ℕ → List ℕ
emptied x = filled (text "; transfer A withdrawn (emptied)") (x ∷ []) []

-- what the table after has of a transfer of the table before
unfoldable pub effect : List ℕ → Table → Hyperedge → List ℕ
effect verb after e =
    cond (is_live (live_hyperedges after) e.number)
    (relisted verb e.number e.members (members_of e.number after.hyperedges))
    (emptied e.number)

-- of each one, ascending
unfoldable pub effects : List ℕ → Table → Table → List ℕ
effects verb before after = flat (effect verb after) before.hyperedges

-- ---- the sheets

-- one or several, as they were handed in
unfoldable pub withdrawn_said : List ℕ → List ℕ → List ℕ → List ℕ
withdrawn_said one several list = cond (eqb (length list) 1) one several ++ (joined list ++ text " withdrawn")

-- tubes withdrawn, with what that did to the transfers
unfoldable pub tubes_said : List ℕ → Table → Table → List ℕ
tubes_said list before after = withdrawn_said (text "tube ") (text "tubes ") list ++ (effects (text "; transfer A keeps ") before after ++ text "\n")

-- transfers withdrawn
unfoldable pub transfers_said : List ℕ → List ℕ
transfers_said list = withdrawn_said (text "transfer ") (text "transfers ") list ++ text "\n"

-- tube w merged into tube v, with what that did to the transfers
unfoldable pub merged_said : ℕ → ℕ → Table → Table → List ℕ
merged_said v w before after =
    filled (text "tube A merged into tube B") (w ∷ v ∷ []) [] ++ (effects (text "; transfer A lists ") before after ++ text "\n")
