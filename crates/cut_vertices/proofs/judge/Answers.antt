-- `cut_vertices::judge` meets its contract: the records before v are judged, and the copy is whole. Assumes nothing.
use mathlib.Core.Path.{refl}
use Rattle.cut.proofs.Searching.{judged-none, judged-more, judged-end}
use borrow.Author.Rules.{rules}
use Rattle.cut_vertices.proofs.judge.Goals as goal

pub loop-v-init : goal.loop-v-init
loop-v-init c = (search rules, search judged-none, refl)

pub loop-v-preserved : goal.loop-v-preserved
loop-v-preserved c = (search rules, search judged-more, search rules)

pub returns : goal.returns
returns c = search judged-end
