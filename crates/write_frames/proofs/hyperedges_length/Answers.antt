-- `write_frames::hyperedges_length` meets its contract. Assumes nothing.
use Rattle.layout.specs.Layout.{limit}
use Rattle.frames.proofs.Text.{length_none, length_more, length-end}
use borrow.Author.Rules.{rules}
use Rattle.write_frames.proofs.hyperedges_length.Goals as goal

pub loop-j-init : goal.loop-j-init
loop-j-init c = (search rules, search rules, length_none limit c.args.t.now)

pub loop-j-preserved : goal.loop-j-preserved
loop-j-preserved c = (search rules, search rules, search length_more)

pub returns : goal.returns
returns c = (search length-end, search rules)
