-- The test of the desk, and which answer it gives. Assumes nothing.
use Rattle.std.specs.Prelude.{Err}
use mathlib.Core.Path.{◌≡◌, sym, ap, ◌∙◌}
use mathlib.Core.Bool.{Bool, true, false, not}
use mathlib.Core.List.{List}
use Prim.Native.Nat.{ℕ, ◌≤◌}
use native.Mathlib.Omega.{arith}
use lib.ListN.{length}
use borrow.Author.Tests.{not-true, not-false}
use Rattle.lists.specs.Tests.{◌and◌}
use Rattle.layout.specs.declared.Refusal.TheVariants.{NotWellFormed}
use Rattle.layout.specs.Content.{Table}
use Rattle.layout.specs.Layout.{limit, vertex_limit, vertex_count, read}
use Rattle.layout.specs.WellFormed.{well_formed}
use Rattle.layout.specs.Inner.{Formed}
use Rattle.layout.specs.Answers.{Result, result_of}
use Rattle.layout.proofs.Read.{formed-of, live-length}
use Rattle.desk.specs.States.{states_fit}
use Rattle.desk.specs.Desk.{desk_of, desk_fits}
use Rattle.desk.specs.Releases.{on_desk}
use Rattle.desk.proofs.States.{states-fit-of}
use Rattle.desk.proofs.Edits.{desk-fits-of}

-- ---- the test is made: r is what `well_formed` returned, n what `vertex_count` returned

module _ (ws ss : List ℕ) (r : Bool) (e : r ≡ well_formed limit ws) where
  pub misfit-table : not r ≡ true → false ≡ desk_fits (desk_of ws ss)
  unfolding desk_fits ◌and◌
  misfit-table h = rw (← e, not-true r h)

  module _ (n : ℕ) (q : n ≡ vertex_count ws) (h : not r ≡ false) where
    pub count_fits_lem : n ≤ vertex_limit
    count_fits_lem = omega (arith, (formed-of limit ws (sym e ∙ not-false r h)).shape.vertices-le)

    -- x is what `states_fit` returned
    pub fits-as-states : (x : Bool) → x ≡ states_fit n ss → x ≡ desk_fits (desk_of ws ss)
    unfolding desk_fits ◌and◌
    fits-as-states x p = rw (← e, not-false r h) (p ∙ ap (λ (k : ℕ). states_fit k ss) (q ∙ sym (live-length limit ws)))

-- ---- 1: r is what `desk_fits` returned, and the code tested `!r`

module _ (ws ss : List ℕ) (r : Bool) (e : r ≡ desk_fits (desk_of ws ss)) where
  pub formed-by-desk : not r ≡ false → Formed limit ws
  formed-by-desk h = formed-of limit ws (desk-fits-of (sym e ∙ not-false r h)).formed

  -- there is a state for each record
  pub long-by-desk : not r ≡ false → length ss ≡ vertex_limit
  long-by-desk h = (states-fit-of (desk-fits-of (sym e ∙ not-false r h)).fit).sized

  pub on-misfit : (lent : List ℕ) (f : Table → Result) → not r ≡ true → result_of (Err NotWellFormed) lent ≡ on_desk (desk_of ws ss) lent f
  unfolding on_desk
  on-misfit lent f h = rw (← e, not-true r h)

  pub on-desk : (lent : List ℕ) (f : Table → Result) (x : Result) → not r ≡ false → x ≡ f (read limit ws) → x ≡ on_desk (desk_of ws ss) lent f
  unfolding on_desk
  on-desk lent f x h q = rw (← e, not-false r h) q
