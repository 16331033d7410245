-- `command_words::word_end` meets its contract: the end of the word that is left is the end of the word. Assumes nothing.
use mathlib.Core.Path.{◌≡◌}
use Prim.Native.Nat.{◌+◌, ◌≤◌}
use lib.ListN.{length, drop}
use Rattle.command_words.specs.Scans.{first_word}
use Rattle.command_words.proofs.word_end.Given as goal

abbrev pub invariant-loop-i : goal.invariant-loop-i
invariant-loop-i l = (l.i ≤ length l.line) × (l.i + length (first_word (drop l.i l.line)) ≡ l.from + length (first_word (drop l.from l.line)))
