-- `sift_vertices::sift_vertices` meets its contract. Assumes nothing.
use mathlib.Core.Path.{◌∙◌}
use lib.ListN.{length-set}
use Rattle.sift_vertices.proofs.Turns.{vertices-none, vertices-done}
use borrow.Author.Rules.{rules}
use Rattle.sift_vertices.proofs.sift_vertices.Goals as goal

pub loop-i-init : goal.loop-i-init
loop-i-init c = (search rules, search vertices-none)

pub loop-i-preserved : goal.loop-i-preserved
loop-i-preserved c = (search rules, c.move_vertex-k.ensures _ c.loop-i.invariant.1)

pub shape_of-t : goal.shape_of-t
shape_of-t c =
    length-set c.clear_words.new.s 2 c.loop-i.k ∙ c.clear_words.auto.s ∙ c.loop-i.invariant.1.same

pub returns : goal.returns
returns c = search vertices-done
