-- What is releasable and whether an order is accepted, as the desk's calls told. Assumes nothing.
use Rattle.std.specs.Prelude.{Ok, Err, IsErrAnd}
use mathlib.Core.Path.{◌≡◌, ap, ◌∙◌}
use mathlib.Core.Bool.{Bool, true, false}
use mathlib.Core.List.{List, [], ◌∷◌}
use Prim.Native.Nat.{ℕ, ◌-◌, ◌≤◌}
use native.Mathlib.Omega.{arith}
use lib.ListN.{length, take, drop, replicate, length-replicate}
use Rattle.lists.specs.Lists.{filter}
use Rattle.lists.proofs.Cases.{on}
use Rattle.layout.specs.declared.Refusal.{Refusal}
use Rattle.layout.specs.Answers.{Answer}
use Rattle.layout.specs.Content.{Table, live_vertices}
use Rattle.layout.specs.Layout.{limit, read}
use Rattle.layout.specs.Answers.{detail, Result, result_of, listed}
use Rattle.layout.proofs.Read.{formed-of, live-length}
use Rattle.desk.specs.Desk.{desk_of, desk_fits}
use Rattle.desk.specs.Releases.{on_desk, is_releasable, releasable, releasable_result}
use Rattle.desk.specs.Orders.{accept_result}
use Rattle.desk.proofs.Edits.{desk-fits-of}
use Rattle.wording.specs.Texts.{text}
use Rattle.wording.specs.Pages.{Page, page, write}
use Rattle.wording.specs.Forms.{number_line}
use Rattle.saying.proofs.Listings.{listing-words, listing-within}
use Rattle.saying.proofs.Sheets.{word-refused, word-written}
use Rattle.desk_sheets.specs.Sheets.{releasable_line, order_sheet, order_result}

-- a call on a desk that fits answers of its content
on-fit : (ws ss lent : List ℕ) (g : Table → Result) → desk_fits (desk_of ws ss) ≡ true → on_desk (desk_of ws ss) lent g ≡ g (read limit ws)
unfolding on_desk
on-fit ws ss lent g e = rw e

filter-short : (p : ℕ → Bool) (xs : List ℕ) → length (filter p xs) ≤ length xs
unfolding filter
filter-short p [] = omega arith
filter-short p (x ∷ xs) =
    let h : length (filter p xs) ≤ length xs = filter-short p xs in on (p x) (λ e. rw e (omega arith)) (λ e. rw e (omega arith))

-- ---- what is releasable: a is what the call answered, w the words that it left

-- the words lent for it
unfoldable pub releasable_room : List ℕ
releasable_room = replicate 256 0

releasable-fits : (ws ss : List ℕ) → desk_fits (desk_of ws ss) ≡ true → length (releasable ss (read limit ws)) ≤ length releasable_room
unfolding releasable releasable_room
releasable-fits ws ss f =
    omega (
      arith,
      length-replicate {A = ℕ} 256 0,
      filter-short (is_releasable (read limit ws) ss) (live_vertices (read limit ws)),
      live-length limit ws,
      (formed-of limit ws (desk-fits-of f).formed).shape.vertices-le,
    )

module _ (ws ss : List ℕ) (f : desk_fits (desk_of ws ss) ≡ true) (a : Answer) (w : List ℕ)
    (e : result_of a w ≡ on_desk (desk_of ws ss) releasable_room (releasable_result ss releasable_room)) (d : ℕ) (m : d ≡ detail a) where
  answered : result_of a w ≡ listed (releasable ss (read limit ws)) releasable_room
  unfolding releasable_result
  answered = e ∙ on-fit ws ss releasable_room (releasable_result ss releasable_room) f

  pub releasable-within : d ≤ length w
  releasable-within = listing-within (releasable ss (read limit ws)) releasable_room (releasable-fits ws ss f) a w answered d m

  pub releasable-put : (p : Page) (c : List ℕ) (q : ℕ) → page c q ≡ write (number_line (text "can be released now: ") (text "none") (take (d - 0) (drop 0 w))) p
      → page c q ≡ write (releasable_line ss (read limit ws)) p
  unfolding releasable_line
  releasable-put p c q h =
      h ∙ ap (λ (xs : List ℕ). write (number_line (text "can be released now: ") (text "none") xs) p)
      (listing-words (releasable ss (read limit ws)) releasable_room (releasable-fits ws ss f) a w answered d m)

-- ---- the order: a is what the call answered

module _ (ws ss list : List ℕ) (f : desk_fits (desk_of ws ss) ≡ true) (a : Answer) (e : result_of a [] ≡ on_desk (desk_of ws ss) [] (accept_result list))
    (plain : Bool) where
  accepted : result_of a [] ≡ accept_result list (read limit ws)
  accepted = e ∙ on-fit ws ss [] (accept_result list) f

  pub order-refused : (r : Refusal) → a ≡ Err r → (x : Answer) → IsErrAnd x (λ y. y ≡ r) → (b : List ℕ) (at : ℕ)
      → result_of x b ≡ order_result plain list (page b at) (read limit ws)
  unfolding order_result
  order-refused r h x by b at = word-refused a [] (accept_result list (read limit ws)) accepted (order_sheet plain) r h x by b at

  pub order-plain : (d : ℕ) → a ≡ Ok d → (p : Page) (c : List ℕ) (q : ℕ) → plain ≡ true → page c q ≡ write (text "1\n") p
      → result_of (Ok q) c ≡ order_result plain list p (read limit ws)
  unfolding order_result order_sheet
  order-plain d g p c q h w = word-written a [] (accept_result list (read limit ws)) accepted (order_sheet plain) d g p (text "1\n") c q (rw h) w

  pub order-worded : (d : ℕ) → a ≡ Ok d → (p : Page) (c : List ℕ) (q : ℕ) → plain ≡ false → page c q ≡ write (text "order accepted\n") p
      → result_of (Ok q) c ≡ order_result plain list p (read limit ws)
  unfolding order_result order_sheet
  order-worded d g p c q h w = word-written a [] (accept_result list (read limit ws)) accepted (order_sheet plain) d g p (text "order accepted\n") c q (rw h) w
