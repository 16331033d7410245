-- `sealed::frame_end` meets its contract. Assumes nothing.
use Rattle.reader.proofs.Frame.{frame-none, frame-room, frame-unsummed, frame-summed}
use borrow.Author.Rules.{rules}
use Rattle.sealed.proofs.frame_end.Goals as goal

pub returns-then-end-at : goal.returns-then-end-at
returns-then-end-at c = search frame-none

pub frame_sum-requires : goal.frame_sum-requires
frame_sum-requires c = record { valued = search rules; k_in_bounds = (search frame-room, search rules) }

pub returns-then-frame_sum-ne0 : goal.returns-then-frame_sum-ne0
returns-then-frame_sum-ne0 c = search frame-unsummed

pub returns : goal.returns
returns c = search frame-summed
