-- `withdraw_marked::keep_spared` meets its contract: `Kept` at each word. Assumes nothing.
use Prim.Native.Nat.{◌≤◌}
use lib.ListN.{length}
use Rattle.edits.proofs.KeptWords.{Kept}
use Rattle.withdraw_marked.specs.Sifting.{member_spared}
use Rattle.withdraw_marked.proofs.keep_spared.Given as goal

abbrev pub invariant-loop-i : goal.invariant-loop-i
invariant-loop-i l = (l.i ≤ length l.list) × Kept (member_spared l.vertices l.old) l.list l.initial.t l.to l.i l.c l.t
