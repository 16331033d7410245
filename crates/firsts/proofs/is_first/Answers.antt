-- `firsts::is_first` meets its contract. Assumes nothing.
use mathlib.Core.Path.{sym}
use lib.Seq.{length-take-le}
use Rattle.walk.proofs.FirstPlaces.{first-is}
use borrow.Author.Rules.{rules}
use Rattle.firsts.proofs.is_first.Goals as goal

pub slice_bounds-lists_vertex-end : goal.slice_bounds-lists_vertex-end
slice_bounds-lists_vertex-end c = sym (length-take-le _ _ (search rules))

pub returns : goal.returns
returns c = search first-is
