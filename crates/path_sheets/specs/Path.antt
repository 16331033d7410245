-- The sheet of a path. Assumes nothing.
use Rattle.std.specs.Prelude.{Bool, true, false, List, [], ◌∷◌, ◌++◌, ℕ}
use Rattle.std.proofs.Math.Option.{Option, none, some}
use Rattle.layout.specs.Content.{Table}
use Rattle.layout.specs.Answers.{Result, on_live_vertices}
use Rattle.distance.specs.Best.{total}
use Rattle.paths.specs.Paths.{step_cost, best_path, low, high, entries_after}
use Rattle.reads.specs.Reads.{hyperedge_weight}
use Rattle.wording.specs.Texts.{text}
use Rattle.wording.specs.Pages.{Page, write}
use Rattle.wording.specs.Forms.{filled}
use Rattle.saying.specs.Saying.{paged}

-- a line for each entry of two words, a vertex and the hyperedge of the step to it: A, B, and C the weight of that hyperedge
unfoldable pub entry_lines : List ℕ → Table → List ℕ → List ℕ
entry_lines form t [] = []
entry_lines form t (v ∷ []) = []
entry_lines form t (v ∷ e ∷ ws) = filled form (v ∷ e ∷ hyperedge_weight e t ∷ []) [] ++ entry_lines form t ws

-- a best walk, by its vertices after x and by three forms: no walk, the cost with the first tube, and an entry; A is the first tube, B the
-- last, M the cost
unfoldable pub walk_sheet : List ℕ → List ℕ → List ℕ → Table → ℕ → ℕ → Option (List ℕ) → List ℕ
walk_sheet unreached first entry t x y none = filled unreached (x ∷ y ∷ []) []
walk_sheet unreached first entry t x y (some l) =
    let cost = total (step_cost t) x l in
    filled first (x ∷ y ∷ low cost ∷ high cost ∷ []) [] ++ entry_lines entry t (entries_after t x l)

-- the best path from x to y; plain: numbers only
unfoldable pub path_sheet : Bool → ℕ → ℕ → Table → List ℕ
path_sheet false x y t =
    walk_sheet (text "path A to B\n  none\n") (text "path A to B, cost M\n  tube A\n") (text "  tube A   by transfer B   cost C\n") t x y
    (best_path t x y)
path_sheet true x y t = walk_sheet [] (text "M\nA\n") (text "A B C\n") t x y (best_path t x y)

-- a path on a page: 1, 3 for the first tube, 3 for the second
unfoldable pub path_result : Bool → ℕ → ℕ → Page → Table → Result
path_result plain x y p t = on_live_vertices t (x ∷ y ∷ []) p.bytes (paged (write (path_sheet plain x y t) p))
