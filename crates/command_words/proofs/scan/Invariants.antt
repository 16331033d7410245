-- `command_words::scan` meets its contract: the numbers that were seen, and the words that are left. Assumes nothing.
use Prim.Native.Nat.{◌-◌}
use lib.ListN.{length, drop}
use Rattle.commands.specs.Words.{words_behind}
use Rattle.command_words.proofs.Scans.{Reading}
use Rattle.command_words.proofs.scan.Given as goal

abbrev pub invariant-loop-at : goal.invariant-loop-at
invariant-loop-at l = Reading (words_behind (drop l.start l.line)) l.line l.initial.numbers l.numbers l.at l.seen

abbrev pub decreases-loop-at : goal.decreases-loop-at
decreases-loop-at l = length l.line - l.at
