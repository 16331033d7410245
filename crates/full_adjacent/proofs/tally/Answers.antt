-- `full_adjacent::tally` meets its contract. Assumes nothing.
use Prim.Native.Nat.{◌<◌, ◌≤◌}
use native.Mathlib.Omega.{arith}
use lib.ListN.{get_or}
use Rattle.lookups.specs.State.{listing_most}
use Rattle.lookups.proofs.Tally.{tally-none, tally-one, tally-in, tally-most}
use Rattle.full_adjacent.proofs.tally.Goals as goal

pub offset_bounds-counts-k : goal.offset_bounds-counts-k
offset_bounds-counts-k c = let within : c.in-Some.k < 256 = search tally-in in omega (arith, within)

pub bounds-counts-k : goal.bounds-counts-k
bounds-counts-k c = let within : c.in-Some.k < 256 = search tally-in in within

pub overflow_add-counts : goal.overflow_add-counts
overflow_add-counts c = let most : get_or c.args.counts.now c.in-Some.k 0 ≤ listing_most = search tally-most in omega (arith, most)

pub bounds-counts-k-in-Some : goal.bounds-counts-k-in-Some
bounds-counts-k-in-Some c = let within : c.in-Some.k < 256 = search tally-in in within

pub returns-in_default : goal.returns-in_default
returns-in_default c = search tally-none

pub returns-in-Some : goal.returns-in-Some
returns-in-Some c = search tally-one
