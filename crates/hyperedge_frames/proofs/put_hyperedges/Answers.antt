-- `hyperedge_frames::put_hyperedges` meets its contract. Assumes nothing.
use mathlib.Core.Path.{refl}
use Rattle.layout.specs.Layout.{limit}
use Rattle.frames.proofs.Text.{hyperedges-none, line-room, hyperedges-more, hyperedges-end}
use borrow.Author.Rules.{rules}
use Rattle.hyperedge_frames.proofs.put_hyperedges.Goals as goal

pub loop-j-init : goal.loop-j-init
loop-j-init c = (search rules, refl, hyperedges-none limit c.args.t.now _ _ (search rules))

pub put_hyperedge_at-next-requires : goal.put_hyperedge_at-next-requires
put_hyperedge_at-next-requires c = record { pairs = search rules; formed = search rules; j_bound = search rules; j_in_bounds = search line-room }

pub loop-j-preserved : goal.loop-j-preserved
loop-j-preserved c = (search rules, search rules, search hyperedges-more)

pub returns : goal.returns
returns c = search hyperedges-end
