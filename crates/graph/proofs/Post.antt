-- The marks of a search say what is reached. Assumes nothing.
use mathlib.Core.Path.{◌≡◌, ap, ◌∙◌}
use mathlib.Core.Bool.{Bool, false}
use mathlib.Core.List.{List}
use Prim.Native.Nat.{ℕ, ◌<◌}
use Rattle.graph.proofs.Bfs.{bfs-sound, bfs-complete}
use Rattle.graph.specs.Bfs.{bfs}
use Rattle.graph.specs.Held.{Held}
use Rattle.lists.proofs.Cases.{on}
use Rattle.lists.specs.Lists.{memb}
use Rattle.lists.specs.Tests.{bit}
use Rattle.graph.specs.Post.{Reached}

-- the marks of a search are such marks
pub reached : {E : ℕ → ℕ → Bool} {n s : ℕ} {m o : List ℕ} {t : ℕ} → s < n → Held n m o t (bfs E n s) → Reached E n s m
reached {E} {n} {s} {m} {o} {t} h g = record {
  long = g.wide;
  yes = λ j l w. g.marks j l ∙ ap bit (bfs-complete E n s h j w);
  no = λ j l f. g.marks j l ∙ ap bit (on {C = memb j (bfs E n s) ≡ false} (memb j (bfs E n s)) (λ e. absurd (f (bfs-sound E n s h j e))) (λ e. e));
}
