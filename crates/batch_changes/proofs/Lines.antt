-- Whether some line is a change, line by line. Assumes nothing.
use mathlib.Core.Path.{◌≡◌, refl, sym, ap, ◌∙◌}
use mathlib.Core.Bool.{Bool, true, false, ◌||◌}
use mathlib.Core.List.{List}
use Prim.Native.Nat.{ℕ, ◌-◌, ◌≤◌, ◌<◌}
use lib.ListN.{length, take, drop, drop_of_length-le}
use Rattle.lists.specs.Lists.{any}
use Rattle.text_lines.specs.Lines.{first_line, other_lines, Ends, Begins}
use Rattle.commands.specs.declared.Parsed.{Parsed}
use Rattle.commands.specs.Commands.{command_on, Parsing}
use Rattle.causes.specs.Causes.{is_change}
use Rattle.messages.specs.Messages.{any_change}
use Rattle.batches.specs.Batches.{lines_of}
use Rattle.batches.proofs.Carrying.{lines_from}
use Rattle.batch_changes.specs.Changing.{changing, has_change}

pub changing-read : (line lent exit : List ℕ) (r : Parsed) (b : Bool) → Parsing line lent r exit → b ≡ is_change any_change r.command → b ≡ changing line
unfolding changing
changing-read line lent exit r b q e = e ∙ rw q.command

-- what is left has a change exactly where the whole has
module _ (text : List ℕ) (from end : ℕ) (line : List ℕ) (h : from < length text) (e : Ends text from end) (l : line ≡ take (end - from) (drop from text)) (b : Bool)
    (c : b ≡ changing line) (inv : any changing (lines_of (drop from text)) ≡ has_change text) where
  here : any changing (lines_of (drop from text)) ≡ (b || any changing (lines_of (other_lines (drop from text))))
  unfolding any
  here = rw (lines_from text from h, c, l, e.line)

  pub change-found : b ≡ true → true ≡ has_change text
  change-found z = sym (rw z at here) ∙ inv

  pub change-later : (next : ℕ) → Begins text from next → b ≡ false → any changing (lines_of (drop next text)) ≡ has_change text
  change-later next n z = ap (λ (xs : List ℕ). any changing (lines_of xs)) n.rest ∙ sym (rw z at here) ∙ inv

pub change-first : (text : List ℕ) → any changing (lines_of (drop 0 text)) ≡ has_change text
unfolding has_change
change-first text = refl

pub change-none : (text : List ℕ) (from : ℕ) → length text ≤ from → any changing (lines_of (drop from text)) ≡ has_change text → false ≡ has_change text
unfolding lines_of any
change-none text from h inv = rw (drop_of_length-le text {i = from} h) at inv
