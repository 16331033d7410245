-- A review and releases at the desk, and their sheets by the states before. Assumes nothing.
use Rattle.std.specs.Prelude.{Ok}
use mathlib.Core.Path.{◌≡◌, sym, ap, ◌∙◌}
use mathlib.Core.Bool.{Bool, true, false, not, cond}
use mathlib.Core.List.{List, []}
use Prim.Native.Nat.{ℕ}
use lib.Dec.{eqb}
use lib.ListN.{length}
use borrow.Author.Tests.{not-false}
use Rattle.lists.proofs.Cases.{clash}
use Rattle.layout.specs.declared.VertexIndex.{VertexIndex}
use Rattle.layout.specs.Answers.{Answer}
use Rattle.layout.specs.Content.{live_vertices, is_live}
use Rattle.layout.specs.Layout.{limit, vertex_limit, read}
use Rattle.layout.specs.Inner.{Formed}
use Rattle.layout.specs.Answers.{number, detail, Result, result_of, on_live}
use Rattle.layout.proofs.Read.{formed-of}
use Rattle.commands.specs.declared.Change.TheVariants.{Review, Release}
use Rattle.desk.specs.States.{state_of}
use Rattle.desk.specs.Desk.{Desk, desk_of, outcome, answering, content, desk_fits}
use Rattle.desk.specs.Releases.{on_desk, review_result, state_result}
use Rattle.desk.specs.Calls.{signed}
use Rattle.desk.proofs.States.{states-fit-of}
use Rattle.desk.proofs.Edits.{desk-fits-of}
use Rattle.desk.proofs.Signing.{review-goes}
use Rattle.desk_numbers.specs.Numbers.{release_numbers_result}
use Rattle.wording.specs.Pages.{page, write}
use Rattle.state_sheets.specs.Signed.{review_said, releases_said}
use Rattle.changes.specs.Changes.{told, change_told}
use Rattle.changes.proofs.Told.{change-refused, change-done}

-- a call that writes the states alone left ss' of them, and answered a
as-signed : (ws ss ss' : List ℕ) (a : Answer) (x : Result) → result_of a ss' ≡ x → outcome a (desk_of ws ss') ≡ signed (desk_of ws ss) x
as-signed ws ss ss' a x e = ap (λ (y : Result). answering y (desk_of ws y.lent)) e

-- ---- the state before, where the review is done

module _ (d : Desk) (v : ℕ) where
  shown : desk_fits d ≡ true → is_live (live_vertices (content d)) v ≡ true
      → on_desk d [] (state_result v d.states) ≡ result_of (Ok (state_of (content d) d.states v)) []
  unfolding on_desk state_result on_live
  shown fits live = rw (fits, live)

  shown-before : eqb (on_desk d d.states (review_result v d.states)).number 0 ≡ true
      → (on_desk d [] (state_result v d.states)).detail ≡ state_of (content d) d.states v
  shown-before =
      review-goes (λ (x : Result). eqb x.number 0 ≡ true → (on_desk d [] (state_result v d.states)).detail ≡ state_of (content d) d.states v) d v
      (λ a k q. clash q k) (λ fits live q. ap (λ (x : Result). x.detail) (shown fits live))

-- ---- r is what `is_done` found

module _ (plain : Bool) (ws ss ss' : List ℕ) (a : Answer) (r : Bool) (er : r ≡ eqb (number a) 0) (b : List ℕ) (at : ℕ) where
  module _ (v : VertexIndex) (e : result_of a ss' ≡ on_desk (desk_of ws ss) ss (review_result v.0 ss)) where
    pub review-refused : not r ≡ true → told a (desk_of ws ss') b ≡ change_told plain (Review v) [] (desk_of ws ss) (page b at)
    review-refused = change-refused plain (Review v) [] (desk_of ws ss) a (desk_of ws ss') (as-signed ws ss ss' a _ e) r er b at

    -- before is what `desk_state` answered
    pub review-done : (before : Answer) → result_of before [] ≡ on_desk (desk_of ws ss) [] (state_result v.0 ss) → not r ≡ false
        → (b' : List ℕ) (n : ℕ) → page b' n ≡ write (cond plain [] (review_said (detail before) v.0)) (page b at)
        → told (Ok n) (desk_of ws ss') b' ≡ change_told plain (Review v) [] (desk_of ws ss) (page b at)
    review-done before q h b' n x =
        let z : eqb (on_desk (desk_of ws ss) ss (review_result v.0 ss)).number 0 ≡ true =
        ap (λ (y : Result). eqb y.number 0) (sym e) ∙ sym er ∙ not-false r h in
        let w : detail before ≡ state_of (read limit ws) ss v.0 = ap (λ (y : Result). y.detail) q ∙ shown-before (desk_of ws ss) v.0 z in
        change-done plain (Review v) [] (desk_of ws ss) a (desk_of ws ss') (as-signed ws ss ss' a _ e) r er b at h b' n
        (x ∙ ap (λ (y : ℕ). write (cond plain [] (review_said y v.0)) (page b at)) w)

  module _ (list : List ℕ) (e : result_of a ss' ≡ on_desk (desk_of ws ss) ss (release_numbers_result list ss)) where
    pub releases-refused : not r ≡ true → told a (desk_of ws ss') b ≡ change_told plain Release list (desk_of ws ss) (page b at)
    releases-refused = change-refused plain Release list (desk_of ws ss) a (desk_of ws ss') (as-signed ws ss ss' a _ e) r er b at

    -- before is what `copy_of` returned
    pub releases-done : (before : List ℕ) → before ≡ ss → not r ≡ false
        → (b' : List ℕ) (n : ℕ) → page b' n ≡ write (cond plain [] (releases_said (read limit ws) before list)) (page b at)
        → told (Ok n) (desk_of ws ss') b' ≡ change_told plain Release list (desk_of ws ss) (page b at)
    releases-done before q h b' n x =
        change-done plain Release list (desk_of ws ss) a (desk_of ws ss') (as-signed ws ss ss' a _ e) r er b at h b' n
        (x ∙ ap (λ (y : List ℕ). write (cond plain [] (releases_said (read limit ws) y list)) (page b at)) q)

-- ---- a desk that fits

module _ (ws ss : List ℕ) (h : desk_fits (desk_of ws ss) ≡ true) where
  pub table-formed : Formed limit ws
  table-formed = formed-of limit ws (desk-fits-of h).formed

  pub states-long : length ss ≡ vertex_limit
  states-long = (states-fit-of (desk-fits-of h).fit).sized

  pub copy-long : (before : List ℕ) → before ≡ ss → length before ≡ vertex_limit
  copy-long before q = ap length q ∙ states-long
