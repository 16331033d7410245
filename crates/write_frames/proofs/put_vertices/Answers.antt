-- `write_frames::put_vertices` meets its contract. Assumes nothing.
use mathlib.Core.Path.{refl}
use Rattle.frames.proofs.Text.{vertices-none, vertices-more, vertices-end}
use borrow.Author.Rules.{rules}
use Rattle.write_frames.proofs.put_vertices.Goals as goal

pub loop-i-init : goal.loop-i-init
loop-i-init c = (search rules, refl, vertices-none c.args.t.now _ _ (search rules))

pub loop-i-preserved : goal.loop-i-preserved
loop-i-preserved c = (search rules, search rules, search vertices-more)

pub returns : goal.returns
returns c = search vertices-end
