-- `cut_vertices::all_kept` meets its contract: all before the place. Assumes nothing.
use mathlib.Core.Path.{refl}
use Rattle.lists.specs.Tests.{every}
use Rattle.lists.proofs.Every.{every-on, every-no, every-end}
use borrow.Author.Rules.{rules}
use Rattle.cut_vertices.proofs.all_kept.Goals as goal

pub loop-j-init : goal.loop-j-init
unfolding every
loop-j-init c = (search rules, refl)

pub returns-then-not-is_kept : goal.returns-then-not-is_kept
returns-then-not-is_kept c = search every-no

pub loop-j-preserved : goal.loop-j-preserved
loop-j-preserved c = (search rules, search every-on)

pub returns : goal.returns
returns c = search every-end
