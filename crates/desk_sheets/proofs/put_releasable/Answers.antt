-- `desk_sheets::put_releasable` meets its contract. Assumes nothing.
use Rattle.desk_sheets.proofs.Told.{releasable_room, releasable-within, releasable-put}
use Rattle.desk_sheets.proofs.put_releasable.Goals as goal

pub slice_bounds-put_line-end-3 : goal.slice_bounds-put_line-end-3
unfolding releasable_room
slice_bounds-put_line-end-3 c = search releasable-within

pub returns : goal.returns
unfolding releasable_room
returns c = search releasable-put
