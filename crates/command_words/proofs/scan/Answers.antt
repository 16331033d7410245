-- `command_words::scan` meets its contract: the numbers that were seen, and the words that are left. Assumes nothing.
use Rattle.command_words.proofs.Scans.{reading-first, reading-length, reading-end, end_fits, reading-fault, reading-more}
use Rattle.command_words.proofs.scan.Goals as goal

pub loop-at-init : goal.loop-at-init
loop-at-init c = search reading-first

pub slice_bounds-value-end : goal.slice_bounds-value-end
slice_bounds-value-end c = search end_fits

pub returns-then-x-gt-LARGEST : goal.returns-then-x-gt-LARGEST
returns-then-x-gt-LARGEST c = search reading-fault

pub store-requires : goal.store-requires
store-requires c = search reading-length

pub loop-at-preserved : goal.loop-at-preserved
loop-at-preserved c = search (reading-more c.loop-at.invariant)

pub returns : goal.returns
returns c = search reading-end
