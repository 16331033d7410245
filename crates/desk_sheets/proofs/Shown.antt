-- The sheets of records and of states, from what the code read and wrote. Assumes nothing.
use Rattle.std.specs.Prelude.{Option, Some, ok_or, Ok}
use mathlib.Core.Path.{◌≡◌, sym, ap, ◌∙◌}
use mathlib.Core.Bool.{Bool, true, false}
use mathlib.Core.List.{List, [], ◌∷◌}
use Prim.Native.Nat.{ℕ, ◌<◌}
use Rattle.lists.proofs.Tab.{length-tab}
use Rattle.layout.specs.declared.Refusal.{Refusal}
use Rattle.layout.specs.Content.{Table, vertex_of, hyperedge_of, live_vertices, live_hyperedges, position}
use Rattle.layout.specs.Layout.{limit, vertex_count, hyperedge_count, vertex_at, hyperedge_at, read}
use Rattle.layout.specs.Inner.{Formed}
use Rattle.layout.specs.Answers.{Answer, result_of, vertex_missing, hyperedge_missing}
use Rattle.layout.proofs.Answers.{on-found, taken}
use Rattle.layout.proofs.Read.{vertex-found, hyperedge-found}
use Rattle.edits.specs.Results.{members_of}
use Rattle.reads.specs.Reads.{vertex_weight, hyperedge_weight}
use Rattle.reads.proofs.Theorems.{vertex-weight-is, hyperedge-weight-is, members-are}
use Rattle.wording.specs.Texts.{text}
use Rattle.wording.specs.Pages.{Page, page, write}
use Rattle.wording.specs.Forms.{filled}
use Rattle.wording.proofs.Writing.{then}
use Rattle.saying.specs.Saying.{paged}
use Rattle.record_sheets.specs.Records.{tube_line, transfer_line, tube_lines, transfer_lines, transfers_of}
use Rattle.desk_sheets.specs.Sheets.{transfer_form, count_line, show_sheet, tube_sheet, tube_result, transfer_sheet, transfer_result, releasable_line, states_sheet}

-- ---- all records: n and m are what `vertex_count` and `hyperedge_count` returned

pub counts-put : (ws : List ℕ) (n m : ℕ) (p : Page) (c : List ℕ) (q : ℕ) → n ≡ vertex_count ws → m ≡ hyperedge_count ws
    → page c q ≡ write (filled (text "A B\n") (n ∷ m ∷ []) []) p → page c q ≡ write (count_line (read limit ws)) p
unfolding count_line
counts-put ws n m p c q a b e = rw (length-tab (vertex_at ws) (vertex_count ws), length-tab (hyperedge_at limit ws) (hyperedge_count ws), ← a, ← b) e

module _ (plain : Bool) (ss : List ℕ) (t : Table) (p : Page) (d : List ℕ) (o : ℕ) where
  pub show-plain : (b c : List ℕ) (r q : ℕ) → plain ≡ true → page b r ≡ write (count_line t) p → page c q ≡ write (tube_lines [] (text "A B\n") ss t) (page b r)
      → page d o ≡ write (transfer_lines (text "A B ") t) (page c q) → page d o ≡ write (show_sheet plain ss t) p
  unfolding show_sheet transfer_form
  show-plain b c r q h e f g = rw h (then p b d _ _ r o e (then (page b r) c d _ _ q o f g))

  pub show-worded : (b : List ℕ) (r : ℕ) → plain ≡ false → page b r ≡ write (tube_lines (text "none\n") (text "tube A   weight B\n") ss t) p
      → page d o ≡ write (transfer_lines (text "transfer A   cost B   tubes ") t) (page b r) → page d o ≡ write (show_sheet plain ss t) p
  unfolding show_sheet transfer_form
  show-worded b r h e f = rw h (then p b d _ _ r o e f)

  pub states-plain : plain ≡ true → page d o ≡ write (tube_lines [] (text "A C\n") ss t) p → page d o ≡ write (states_sheet plain ss t) p
  unfolding states_sheet
  states-plain h e = rw h e

  pub states-worded : (b c : List ℕ) (r q : ℕ) → plain ≡ false → page b r ≡ write (text "states\n") p
      → page c q ≡ write (tube_lines (text "  none\n") (text "  tube A   U\n") ss t) (page b r) → page d o ≡ write (releasable_line ss t) (page c q)
      → page d o ≡ write (states_sheet plain ss t) p
  unfolding states_sheet
  states-worded b c r q h e f g = rw h (then p b d _ _ r o e (then (page b r) c d _ _ q o f g))

-- ---- the tube of record i: v is what `vertex_number` returned

module _ (plain : Bool) (ss ws : List ℕ) (f : Formed limit ws) (i v : ℕ) (l : i < vertex_count ws) (n : v ≡ (vertex_at ws i).number) (p : Page) (b c : List ℕ) (r q : ℕ) where
  here : vertex_of (vertex_at ws i).number (vertex_weight (vertex_at ws i).number (read limit ws)) ≡ vertex_at ws i
  here = ap (vertex_of (vertex_at ws i).number) (vertex-weight-is f i l)

  pub tube-plain : plain ≡ true → page b r ≡ write (tube_line (text "A B C\n") ss (read limit ws) (vertex_at ws i)) p
      → page c q ≡ write (transfers_of [] (text "A B ") v (read limit ws)) (page b r) → page c q ≡ write (tube_sheet plain (vertex_at ws i).number ss (read limit ws)) p
  unfolding tube_sheet transfer_form
  tube-plain h e g = rw (h, here) (then p b c _ _ r q e (rw n at g))

  pub tube-worded : plain ≡ false → page b r ≡ write (tube_line (text "tube A   weight B   U\n") ss (read limit ws) (vertex_at ws i)) p
      → page c q ≡ write (transfers_of (text "  none\n") (text "  transfer A   cost B   tubes ") v (read limit ws)) (page b r)
      → page c q ≡ write (tube_sheet plain (vertex_at ws i).number ss (read limit ws)) p
  unfolding tube_sheet
  tube-worded h e g = rw (h, here) (then p b c _ _ r q e (rw n at g))

-- k is what `find_vertex` returned, and a what `ok_or` made of it
module _ (ws : List ℕ) (v i : ℕ) (k : Option ℕ) (e : k ≡ position v (live_vertices (read limit ws)))
    (z : Refusal) (a : Answer) (made : a ≡ ok_or k z) (got : a ≡ Ok i) where
  lies : k ≡ Some i
  lies = taken k z a made i got

  pub tube-within : i < vertex_count ws
  tube-within = (vertex-found limit ws v i (sym e ∙ lies)).0

  pub tube-shown : (plain : Bool) (ss : List ℕ) (p : Page) (c : List ℕ) (q : ℕ) → page c q ≡ write (tube_sheet plain (vertex_at ws i).number ss (read limit ws)) p
      → result_of (Ok q) c ≡ tube_result plain v ss p (read limit ws)
  unfolding tube_result
  tube-shown plain ss p c q w =
      ap paged (w ∙ ap (λ (x : ℕ). write (tube_sheet plain x ss (read limit ws)) p) (vertex-found limit ws v i (sym e ∙ lies)).1)
      ∙ on-found (live_vertices (read limit ws)) vertex_missing v p.bytes _ k e i lies

-- ---- the transfer of record j

module _ (plain : Bool) (ws : List ℕ) (f : Formed limit ws) (j : ℕ) (l : j < hyperedge_count ws) (p : Page) (c : List ℕ) (q : ℕ) where
  found : hyperedge_of (hyperedge_at limit ws j).number (hyperedge_weight (hyperedge_at limit ws j).number (read limit ws))
      (members_of (hyperedge_at limit ws j).number (read limit ws).hyperedges) ≡ hyperedge_at limit ws j
  found = rw (hyperedge-weight-is f j l, members-are f j l)

  pub transfer-plain : plain ≡ true → page c q ≡ write (transfer_line (text "A B ") (hyperedge_at limit ws j)) p
      → page c q ≡ write (transfer_sheet plain (hyperedge_at limit ws j).number (read limit ws)) p
  unfolding transfer_sheet transfer_form
  transfer-plain h e = rw (h, found) e

  pub transfer-worded : plain ≡ false → page c q ≡ write (transfer_line (text "transfer A   cost B   tubes ") (hyperedge_at limit ws j)) p
      → page c q ≡ write (transfer_sheet plain (hyperedge_at limit ws j).number (read limit ws)) p
  unfolding transfer_sheet transfer_form
  transfer-worded h e = rw (h, found) e

-- k is what `find_hyperedge` returned, and a what `ok_or` made of it
module _ (ws : List ℕ) (x j : ℕ) (k : Option ℕ) (e : k ≡ position x (live_hyperedges (read limit ws)))
    (z : Refusal) (a : Answer) (made : a ≡ ok_or k z) (got : a ≡ Ok j) where
  stands : k ≡ Some j
  stands = taken k z a made j got

  pub transfer-within : j < hyperedge_count ws
  transfer-within = (hyperedge-found limit ws x j (sym e ∙ stands)).0

  pub transfer-shown : (plain : Bool) (p : Page) (c : List ℕ) (q : ℕ) → page c q ≡ write (transfer_sheet plain (hyperedge_at limit ws j).number (read limit ws)) p
      → result_of (Ok q) c ≡ transfer_result plain x p (read limit ws)
  unfolding transfer_result
  transfer-shown plain p c q w =
      ap paged (w ∙ ap (λ (y : ℕ). write (transfer_sheet plain y (read limit ws)) p) (hyperedge-found limit ws x j (sym e ∙ stands)).1)
      ∙ on-found (live_hyperedges (read limit ws)) hyperedge_missing x p.bytes _ k e j stands
