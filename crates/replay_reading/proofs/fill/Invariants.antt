-- `replay_reading::fill` meets its contract. Assumes nothing.
use mathlib.Core.Path.{◌≡◌}
use Prim.Native.Nat.{◌≤◌}
use lib.ListN.{length}
use Rattle.lists.specs.Lists.{over, tab}
use Rattle.replay.specs.Records.{after_words, word_number}
use Rattle.replay_reading.proofs.fill.Given as goal

abbrev pub invariant-loop-k : goal.invariant-loop-k
invariant-loop-k l =
    (l.k ≤ l.n) × (l.n ≤ length l.list) × (length l.list ≡ length l.initial.list) × (l.here ≡ after_words l.s l.at l.k)
    × (l.list ≡ over (tab (word_number l.s l.at) l.k) l.initial.list)
