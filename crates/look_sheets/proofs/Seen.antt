-- What each look writes and answers, from what its sheet's function wrote and answered. Assumes nothing.
use Rattle.std.specs.Prelude.{Ok, Err}
use mathlib.Core.Path.{◌≡◌, sym, ap, ◌∙◌}
use mathlib.Core.Bool.{Bool, true, false, not}
use mathlib.Core.List.{List}
use Prim.Native.Nat.{ℕ}
use borrow.Author.Tests.{not-false}
use Rattle.layout.specs.declared.Refusal.TheVariants.{NotWellFormed}
use Rattle.layout.specs.declared.VertexIndex.{VertexIndex}
use Rattle.layout.specs.declared.HyperedgeIndex.{HyperedgeIndex}
use Rattle.layout.specs.Content.{Table}
use Rattle.layout.specs.Layout.{limit, read}
use Rattle.layout.specs.Answers.{Result, result_of}
use Rattle.desk.specs.Desk.{desk_of, desk_fits}
use Rattle.desk_fits.proofs.Fits.{on-misfit, on-desk}
use Rattle.wording.specs.Pages.{Page, page, write}
use Rattle.saying.specs.Saying.{paged}
use Rattle.commands.specs.declared.Look.{Look}
use Rattle.commands.specs.declared.Look.TheVariants.{Check, Show, ShowTube, ShowTransfer, Path, States, Order}
use Rattle.check_sheets.specs.Check.{check_sheet}
use Rattle.desk_sheets.specs.Sheets.{show_sheet, tube_result, transfer_result, states_sheet, order_result}
use Rattle.path_sheets.specs.Path.{path_result}
use Rattle.look_sheets.specs.Looks.{seen, look_result}

-- ---- of a desk that fits: c is the page that is left, q the next place

module _ (look : Look) (list : List ℕ) (plain : Bool) (ss : List ℕ) (p : Page) (t : Table) where
  module _ (c : List ℕ) (q : ℕ) where
    pub seen-check : look ≡ Check → page c q ≡ write (check_sheet plain t) p → result_of (Ok q) c ≡ seen look list plain ss p t
    unfolding seen
    seen-check h e = rw h (ap paged e)

    pub seen-show : look ≡ Show → page c q ≡ write (show_sheet plain ss t) p → result_of (Ok q) c ≡ seen look list plain ss p t
    unfolding seen
    seen-show h e = rw h (ap paged e)

    pub seen-states : look ≡ States → page c q ≡ write (states_sheet plain ss t) p → result_of (Ok q) c ≡ seen look list plain ss p t
    unfolding seen
    seen-states h e = rw h (ap paged e)

  -- x is what the function answered and left
  module _ (x : Result) where
    pub seen-tube : (v : VertexIndex) → look ≡ ShowTube v → x ≡ tube_result plain v.0 ss p t → x ≡ seen look list plain ss p t
    unfolding seen
    seen-tube v h e = rw h e

    pub seen-transfer : (y : HyperedgeIndex) → look ≡ ShowTransfer y → x ≡ transfer_result plain y.0 p t → x ≡ seen look list plain ss p t
    unfolding seen
    seen-transfer y h e = rw h e

    pub seen-path : (a b : VertexIndex) → look ≡ Path a b → x ≡ path_result plain a.0 b.0 p t → x ≡ seen look list plain ss p t
    unfolding seen
    seen-path a b h e = rw h e

    pub seen-order : look ≡ Order → x ≡ order_result plain list p t → x ≡ seen look list plain ss p t
    unfolding seen
    seen-order h e = rw h e

-- ---- of any desk: r is what `desk_fits` returned

module _ (ws ss : List ℕ) (r : Bool) (e : r ≡ desk_fits (desk_of ws ss)) where
  pub fits-by-desk : not r ≡ false → desk_fits (desk_of ws ss) ≡ true
  fits-by-desk h = sym e ∙ not-false r h

  module _ (look : Look) (list : List ℕ) (plain : Bool) (b : List ℕ) (at : ℕ) where
    pub look-misfit : not r ≡ true → result_of (Err NotWellFormed) b ≡ look_result look list plain (desk_of ws ss) (page b at)
    unfolding look_result
    look-misfit h = on-misfit ws ss r e b (seen look list plain ss (page b at)) h

    pub look-fit : (x : Result) → not r ≡ false → x ≡ seen look list plain ss (page b at) (read limit ws) → x ≡ look_result look list plain (desk_of ws ss) (page b at)
    unfolding look_result
    look-fit x h q = on-desk ws ss r e b (seen look list plain ss (page b at)) x h q
