-- The sheet of a check, from what the code was told and wrote. Assumes nothing.
use mathlib.Core.Path.{◌≡◌, refl, ap, ◌∙◌}
use mathlib.Core.Bool.{Bool, true, false}
use mathlib.Core.List.{List, [], ◌∷◌}
use Prim.Native.Nat.{ℕ}
use lib.Dec.{eqb}
use Rattle.lists.specs.Tests.{bit}
use Rattle.lists.proofs.Tab.{length-tab}
use Rattle.layout.specs.Answers.{Answer}
use Rattle.layout.specs.Content.{Table}
use Rattle.layout.specs.Layout.{limit, next_vertex_in, next_hyperedge_in, vertex_count, hyperedge_count, read}
use Rattle.layout.specs.Inner.{Formed}
use Rattle.layout.specs.Answers.{detail, Result, result_of, on_formed}
use Rattle.structural.specs.Components.{connected, connected_result}
use Rattle.structural.specs.Sort.{acyclic, acyclic_result}
use Rattle.wording.specs.Texts.{text}
use Rattle.wording.specs.Pages.{Page, page, write}
use Rattle.wording.specs.Forms.{filled}
use Rattle.wording.proofs.Writing.{then}
use Rattle.saying.proofs.Listings.{on-content}
use Rattle.check_sheets.specs.Check.{yes_no, checked, check_lines, check_sheet}

-- ---- yes or no: a is what the call answered, d its detail

pub yes-by : (a : Answer) (d : ℕ) → d ≡ detail a → eqb d 1 ≡ eqb (detail a) 1
yes-by a d e = ap (λ (x : ℕ). eqb x 1) e

bit-yes : (b : Bool) → eqb (bit b) 1 ≡ b
bit-yes true = refl
bit-yes false = refl

module _ (ws : List ℕ) (f : Formed limit ws) (a : Answer) (r : Bool) (y : r ≡ eqb (detail a) 1) where
  told : (b : Bool) (q : Result) → result_of a [] ≡ q → q.detail ≡ bit b → r ≡ b
  told b q e d = y ∙ ap (λ (x : ℕ). eqb x 1) (ap (λ (q : Result). q.detail) e ∙ d) ∙ bit-yes b

  pub connected-told : result_of a [] ≡ on_formed ws [] connected_result → r ≡ connected (read limit ws)
  unfolding connected_result
  connected-told e = told (connected (read limit ws)) _ (e ∙ on-content ws [] connected_result f) refl

  pub acyclic-told : result_of a [] ≡ on_formed ws [] acyclic_result → r ≡ acyclic (read limit ws)
  unfolding acyclic_result
  acyclic-told e = told (acyclic (read limit ws)) _ (e ∙ on-content ws [] acyclic_result f) refl

-- the numbers: each is what the code read or was told
pub numbers-checked : (ws : List ℕ) (linked sortable : Bool) (n m x y a b : ℕ) → linked ≡ connected (read limit ws) → sortable ≡ acyclic (read limit ws)
    → n ≡ vertex_count ws → m ≡ hyperedge_count ws → x ≡ next_vertex_in ws → y ≡ next_hyperedge_in ws → a ≡ bit linked → b ≡ bit sortable
    → (n ∷ m ∷ x ∷ y ∷ a ∷ b ∷ []) ≡ checked (read limit ws)
unfolding checked
numbers-checked ws linked sortable n m x y a b c s p q u v k l =
    rw (length-tab _ (vertex_count ws), length-tab _ (hyperedge_count ws), ← c, ← s, ← p, ← q, ← u, ← v, ← k, ← l)

-- ---- the lines

module _ (form ns : List ℕ) (yes : Bool) (p : Page) (c : List ℕ) (q : ℕ) where
  pub named-yes : yes ≡ true → page c q ≡ write (filled form ns (text "yes")) p → page c q ≡ write (filled form ns (yes_no yes)) p
  unfolding yes_no
  named-yes h e = rw h e

  pub named-no : yes ≡ false → page c q ≡ write (filled form ns (text "no")) p → page c q ≡ write (filled form ns (yes_no yes)) p
  unfolding yes_no
  named-no h e = rw h e

pub lines-put : (ns : List ℕ) (linked sortable : Bool) (p : Page) (b c d : List ℕ) (r q o : ℕ)
    → page b r ≡ write (filled (text "well formed: A tubes, B transfers, next tube C, next transfer D\n") ns []) p
    → page c q ≡ write (filled (text "  connected U\n") ns (yes_no linked)) (page b r)
    → page d o ≡ write (filled (text "  can be sorted U\n") ns (yes_no sortable)) (page c q) → page d o ≡ write (check_lines ns linked sortable) p
unfolding check_lines
lines-put ns linked sortable p b c d r q o e f g = then p b d _ _ r o e (then (page b r) c d _ _ q o f g)

module _ (t : Table) (plain : Bool) (ns : List ℕ) (n : ns ≡ checked t) (p : Page) (c : List ℕ) (q : ℕ) where
  pub check-plain : plain ≡ true → page c q ≡ write (filled (text "A B C D E F\n") ns []) p → page c q ≡ write (check_sheet plain t) p
  unfolding check_sheet
  check-plain h e = rw (h, ← n) e

  pub check-worded : (linked sortable : Bool) → plain ≡ false → linked ≡ connected t → sortable ≡ acyclic t → page c q ≡ write (check_lines ns linked sortable) p
      → page c q ≡ write (check_sheet plain t) p
  unfolding check_sheet
  check-worded linked sortable h l s e = rw (h, ← n, ← l, ← s) e
