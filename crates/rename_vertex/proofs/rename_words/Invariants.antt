-- `rename_vertex::rename_words` meets its contract: after i turns i words are read. Assumes nothing.
use Prim.Native.Nat.{◌≤◌}
use Rattle.edits.proofs.Copied.{Copied}
use Rattle.rename_vertex.proofs.Renaming.{words_read}
use Rattle.rename_vertex.proofs.rename_words.Given as goal

abbrev pub invariant-loop-i : goal.invariant-loop-i
invariant-loop-i l = (l.i ≤ l.n) × Copied l.initial.t l.a (words_read l.v l.w l.initial.t l.a l.n) l.i l.t
