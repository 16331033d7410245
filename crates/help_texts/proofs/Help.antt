-- Laws of the help: its parts, one after the other. Assumes nothing.
use mathlib.Core.Path.{◌≡◌, sym, ◌∙◌}
use mathlib.Core.List.{List, [], ◌∷◌, ◌++◌}
use Prim.Native.Nat.{ℕ, ◌-◌}
use lib.ListN.{take, drop}
use Rattle.wording.specs.Pages.{Page, page, write_byte, write}
use Rattle.wording.proofs.Writing.{one_byte, then}
use Rattle.text_lines.specs.Lines.{line_at, Ends, Stands}
use Rattle.text_lines.proofs.Lines.{line-part}
use Rattle.help_texts.specs.Help.{command_lines, call_lines, file_lines, help_text, help_on}

module _ (p : Page) (b c : List ℕ) (r q : ℕ) where
  pub help-put : (d : List ℕ) (s : ℕ) → page b r ≡ write call_lines p → page c q ≡ write command_lines (page b r) → page d s ≡ write file_lines (page c q) → page d s ≡ write help_text p
  unfolding help_text
  help-put d s e f g = then p b d call_lines (command_lines ++ file_lines) r s e (then (page b r) c d command_lines file_lines q s f g)

  pub line-put : (k : ℕ) → page b r ≡ write (line_at k command_lines) p → page c q ≡ write_byte 10 (page b r) → page c q ≡ write (help_on k) p
  unfolding help_on
  line-put k e f = then p b c (line_at k command_lines) (10 ∷ []) r q e (f ∙ sym (one_byte 10 (page b r)))

pub line_of : (text : List ℕ) (k from end : ℕ) (p e : Page) → Stands text k from → Ends text from end → e ≡ write (take (end - from) (drop from text)) p → e ≡ write (line_at k text) p
line_of text k from end p e s l w = rw (line-part text k from end s l) at w
