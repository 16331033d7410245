-- The sheets of the questions whose answer is a listing. Assumes nothing.
use Rattle.std.specs.Prelude.{Bool, true, false, List, [], ◌∷◌, ◌++◌, ℕ}
use Rattle.wording.specs.Texts.{text}
use Rattle.wording.specs.Forms.{rows, listed}
use Rattle.commands.specs.declared.Query.{Query}
use Rattle.commands.specs.declared.Query.TheVariants.{Sort, Costs, Upstream, Downstream, Next, Before, Components, Strong, Closure, Cut, Orphans, Endpoints, FindTube, FindTransfer, Walk}
use Rattle.query_titles.specs.Titles.{title}
use Rattle.query_lines.specs.declared.Shape.{Shape}
use Rattle.query_lines.specs.declared.Shape.TheVariants.{Tubes, Transfers, Pairs, TubesAndCosts, Groups, SourcesAndSinks}

-- ---- what stands in the words of a listing

unfoldable pub shape : Query → Shape
shape Sort = Tubes
shape (Costs v) = TubesAndCosts
shape (Upstream v) = Tubes
shape (Downstream v) = Tubes
shape (Next v) = Tubes
shape (Before v) = Tubes
shape Components = Groups
shape Strong = Groups
shape Closure = Pairs
shape Cut = Tubes
shape Orphans = Tubes
shape Endpoints = SourcesAndSinks
shape (FindTube w) = Tubes
shape (FindTransfer w) = Transfers
shape (Walk start steps seed) = Tubes

-- in words: a line for each entry
unfoldable pub entries : Shape → List ℕ → List ℕ
entries Tubes ws = rows (text "  tube A\n") 1 ws
entries Transfers ws = rows (text "  transfer A\n") 1 ws
entries Pairs ws = rows (text "  A to B\n") 2 ws
entries TubesAndCosts ws = rows (text "  tube A   cost L\n") 3 ws
entries Groups ws = listed (text "  tubes ") (text "  tubes ") (text "none") ws
entries SourcesAndSinks ws = listed (text "  sources ") (text "  sinks ") (text "none") ws

-- in numbers alone
unfoldable pub plainly : Shape → List ℕ → List ℕ
plainly Tubes ws = rows (text "A\n") 1 ws
plainly Transfers ws = rows (text "A\n") 1 ws
plainly Pairs ws = rows (text "A B\n") 2 ws
plainly TubesAndCosts ws = rows (text "A L\n") 3 ws
plainly Groups ws = listed [] [] [] ws
plainly SourcesAndSinks ws = listed [] [] [] ws

-- ---- the sheet

-- the entries, or one line for none
unfoldable pub entries_or_none : Shape → List ℕ → List ℕ
entries_or_none s [] = text "  none\n"
entries_or_none s (w ∷ ws) = entries s (w ∷ ws)

-- the sheet of what the question's call wrote; plain: numbers only
unfoldable pub query_sheet : Bool → Query → List ℕ → List ℕ
query_sheet false q ws = title q ++ entries_or_none (shape q) ws
query_sheet true q ws = plainly (shape q) ws
