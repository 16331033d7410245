-- `remove_hyperedge::drop_hyperedge` meets its contract. Assumes nothing.
use mathlib.Core.Path.{ap, ◌∙◌}
use mathlib.Core.List.{List, ◌++◌}
use Prim.Native.Nat.{ℕ, ◌*◌, ◌-◌}
use lib.ListN.{take, set}
use Rattle.lists.specs.Inner.{shifted}
use Rattle.lists.proofs.Parts.{part-tail, back-tail}
use Rattle.layout.specs.Layout.{limit, record_size, hyperedges_at}
use Rattle.remove_hyperedge.proofs.drop_hyperedge.Goals as goal

pub returns : goal.returns
returns c =
    let ws = c.args.t.now in
    ap (λ (l : List ℕ). set l 3 (c.args.m - 1)) (back-tail hyperedges_at ws _ ∙ ap (λ (r : List ℕ). take hyperedges_at ws ++ r)
    (c.shift_down.ensures ∙ ap (λ (d : List ℕ). shifted d (c.args.j * record_size limit) (record_size limit)) (part-tail hyperedges_at ws)))
