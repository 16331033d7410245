-- `command_words::value` meets its contract: the worth of what is left is that of the word. Assumes nothing.
use mathlib.Core.Path.{◌≡◌}
use Prim.Native.Nat.{◌≤◌}
use lib.ListN.{length, drop}
use Rattle.commands.specs.Words.{largest}
use Rattle.command_words.specs.Scans.{worth}
use Rattle.command_words.proofs.Values.{worth_from}
use Rattle.command_words.proofs.value.Given as goal

abbrev pub invariant-loop-i : goal.invariant-loop-i
invariant-loop-i l = (l.i ≤ length l.word) × (l.n ≤ largest) × (worth_from l.n (drop l.i l.word) ≡ worth l.word)
