-- `dijkstra_connections::list_pair` meets its contract. Assumes nothing.
use Prim.Native.Nat.{ℕ}
use lib.ListN.{length-replicate}
use Rattle.paths.proofs.Values.{values-within}
use Rattle.paths.proofs.Numbers.{pair-laid}
use Rattle.paths.proofs.Answers.{none-answer, walk-answer}
use borrow.Author.Rules.{rules}
use Rattle.dijkstra_connections.proofs.list_pair.Goals as goal

pub choices-requires : goal.choices-requires
choices-requires c = record { formed = search rules; weights = (search rules, length-replicate {A = ℕ} 65536 0) }

pub best_walk-r-requires : goal.best_walk-r-requires
best_walk-r-requires c =
    let q = c.choices.ensures in
    (search rules, search rules, search rules, search rules, q.1, values-within q.0 c.requires.formed.shape.vertices-le _ c.vertex_count-n.ensures)

pub returns-then-not-r : goal.returns-then-not-r
returns-then-not-r c =
    none-answer c.requires.formed _ c.weights.ensures _ c.choices.ensures.0 c.args.i c.args.j c.requires.i_bound.0 c.requires.i_bound.1
    _ c.vertex_count-n.ensures _ _ _ _ c.best_walk-r.ensures _ _ c.if-not-r.true c.list_none.ensures

pub list_walk-requires : goal.list_walk-requires
list_walk-requires c = record {
  formed = c.requires.formed;
  chosen = (
    c.choices.ensures.0,
    c.requires.i_bound.0,
    pair-laid c.requires.formed _ c.weights.ensures _ c.choices.ensures.0 c.args.i c.args.j c.requires.i_bound.0 c.requires.i_bound.1
        _ c.vertex_count-n.ensures _ _ _ _ c.best_walk-r.ensures c.if-not-r.false,
  );
}

pub returns : goal.returns
returns c =
    walk-answer c.requires.formed _ c.weights.ensures _ c.choices.ensures.0 c.args.i c.args.j c.requires.i_bound.0 c.requires.i_bound.1
    _ c.vertex_count-n.ensures _ _ _ _ c.best_walk-r.ensures _ _ c.if-not-r.false c.list_walk.ensures
