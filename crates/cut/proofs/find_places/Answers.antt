-- `cut::find_places` meets its contract: the places of the first i members. Assumes nothing.
use Rattle.cut.proofs.Gathering.{record-fits, members-short, place_in, placing-none, placing-more, placing-end}
use Rattle.cut.proofs.find_places.Goals as goal

pub loop-i-init : goal.loop-i-init
loop-i-init c = search placing-none

pub overflow_cast-places : goal.overflow_cast-places
overflow_cast-places c = search record-fits

pub bounds-places-i : goal.bounds-places-i
bounds-places-i c = search place_in

pub loop-i-preserved : goal.loop-i-preserved
loop-i-preserved c = search (placing-more, members-short)

pub returns : goal.returns
returns c = search placing-end
