-- `hyperedge_lines::put_fitting` meets its contract. Assumes nothing.
use mathlib.Core.Path.{sym}
use lib.Seq.{length-take-le}
use Rattle.reader.proofs.HyperedgeLine.{fits-other, fits-number}
use Rattle.reader.proofs.HyperedgeLines.{line-unfit, line_dead, line-live}
use Rattle.reader.proofs.Words.{list-covers}
use Rattle.hyperedge_lines.proofs.put_fitting.Goals as goal

pub returns-then-byte_at-ne2 : goal.returns-then-byte_at-ne2
returns-then-byte_at-ne2 c = line-unfit _ _ _ _ _ _ (search fits-other)

pub returns-then-not-number_fits : goal.returns-then-not-number_fits
returns-then-not-number_fits c = line-unfit _ _ _ _ _ _ (search fits-number)

pub slice_bounds-list_live-end : goal.slice_bounds-list_live-end
slice_bounds-list_live-end c = sym (length-take-le _ _ (search list-covers))

pub returns-then-not-list_live : goal.returns-then-not-list_live
returns-then-not-list_live c = search line_dead

pub put_hyperedge-requires : goal.put_hyperedge-requires
put_hyperedge-requires c = let framed = c.requires.sealed in
    record { valued = c.requires.valued; sealed = (framed.0, (framed.1.0, framed.1.1.1)); list_value = c.requires.list_value; limit_in_bounds = c.requires.limit_in_bounds.0 }

pub returns : goal.returns
returns c = search line-live
