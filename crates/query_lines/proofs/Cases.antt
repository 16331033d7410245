-- From the case of a question, or of a shape, to what is written. Assumes nothing.
use mathlib.Core.Path.{◌≡◌, refl, sym, ap, ◌∙◌}
use mathlib.Core.Bool.{Bool, true, false}
use mathlib.Core.List.{List, [], ◌∷◌}
use Prim.Native.Nat.{ℕ}
use native.Mathlib.Omega.{arith}
use lib.ListN.{length}
use Rattle.wording.specs.Texts.{text}
use Rattle.wording.specs.Pages.{Page, write}
use Rattle.wording.proofs.Writing.{write-append}
use Rattle.commands.specs.declared.Query.{Query}
use Rattle.query_titles.specs.Titles.{title}
use Rattle.query_lines.specs.declared.Shape.{Shape}
use Rattle.query_lines.specs.Queries.{shape, entries, plainly, entries_or_none, query_sheet}

pub as-shaped : (s : Shape) (q k : Query) → q ≡ k → s ≡ shape k → s ≡ shape q
as-shaped s q k e p = p ∙ ap shape (sym e)

pub as-entered : (x p : Page) (ws : List ℕ) (s k : Shape) → s ≡ k → x ≡ write (entries k ws) p → x ≡ write (entries s ws) p
as-entered x p ws s k e h = h ∙ ap (λ (y : Shape). write (entries y ws) p) (sym e)

pub as_plain : (x p : Page) (ws : List ℕ) (s k : Shape) → s ≡ k → x ≡ write (plainly k ws) p → x ≡ write (plainly s ws) p
as_plain x p ws s k e h = h ∙ ap (λ (y : Shape). write (plainly y ws) p) (sym e)

-- ---- the sheet

module _ (x p : Page) (s : Shape) where
  pub none-entered : (ws : List ℕ) → length ws ≡ 0 → x ≡ write (text "  none\n") p → x ≡ write (entries_or_none s ws) p
  unfolding entries_or_none
  none-entered [] e h = h
  none-entered (w ∷ ws) e h = absurd (omega (arith, e))

  pub some-entered : (ws : List ℕ) → (length ws ≡ 0 → ⊥) → x ≡ write (entries s ws) p → x ≡ write (entries_or_none s ws) p
  unfolding entries_or_none
  some-entered [] e h = absurd (e refl)
  some-entered (w ∷ ws) e h = h

  pub plain-sheet : (plain : Bool) (q : Query) (ws : List ℕ) → plain ≡ true → s ≡ shape q → x ≡ write (plainly s ws) p → x ≡ write (query_sheet plain q ws) p
  unfolding query_sheet
  plain-sheet plain q ws t e h = rw (t, ← e) h

  pub worded-sheet : (y : Page) (plain : Bool) (q : Query) (ws : List ℕ) → plain ≡ false → s ≡ shape q → y ≡ write (title q) p → x ≡ write (entries_or_none s ws) y → x ≡ write (query_sheet plain q ws) p
  unfolding query_sheet
  worded-sheet y plain q ws t e g h = rw (t, ← e, write-append (title q) (entries_or_none s ws) p, ← g) h
