-- `edits::shift::drop_vertex` meets its contract. Assumes nothing.
use mathlib.Core.Path.{ap₂}
use mathlib.Core.List.{List, ◌++◌}
use Prim.Native.Nat.{ℕ, ◌*◌, ◌-◌}
use lib.ListN.{take, set}
use lib.Seq.{drop-drop}
use Rattle.layout.specs.Layout.{vertex_limit, vertex_size, vertices_at}
use Rattle.edits.proofs.shift.drop_vertex.Goals as goal

pub returns : goal.returns
returns c =
    let ws = c.args.t.now in
    ap₂ (λ (l r : List ℕ). set (take vertices_at ws ++ (l ++ r)) 2 (c.args.n - 1))
    c.shift_down.ensures (drop-drop (vertex_limit * vertex_size) vertices_at ws)
