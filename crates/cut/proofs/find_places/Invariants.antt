-- `cut::find_places` meets its contract: the places of the first i members. Assumes nothing.
use Rattle.layout.specs.Content.{live_vertices}
use Rattle.layout.specs.Layout.{limit, read}
use Rattle.cut.proofs.Gathering.{Placing}
use Rattle.cut.proofs.find_places.Given as goal

abbrev pub invariant-loop-i : goal.invariant-loop-i
invariant-loop-i l = Placing (live_vertices (read limit l.t)) l.ms l.i l.places
