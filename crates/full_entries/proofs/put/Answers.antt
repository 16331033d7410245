-- `full_entries::put` meets its contract. Assumes nothing.
use Prim.Native.Nat.{◌<◌}
use native.Mathlib.Omega.{arith}
use lib.ListN.{length, get_or}
use Rattle.lookups.proofs.Tally.{tally-none, tally-one, tally-in}
use Rattle.lookups.proofs.Full.{put-none, put_one, put_in}
use borrow.Author.Rules.{rules}
use Rattle.full_entries.proofs.put.Goals as goal

pub offset_bounds-nexts-k : goal.offset_bounds-nexts-k
offset_bounds-nexts-k c = let within : c.in-Some.k < 256 = search tally-in in omega (arith, within)

pub bounds-nexts-k : goal.bounds-nexts-k
bounds-nexts-k c = let within : c.in-Some.k < 256 = search tally-in in within

pub offset_bounds-out-p : goal.offset_bounds-out-p
offset_bounds-out-p c = search (rules, put_in)

pub bounds-out-p : goal.bounds-out-p
bounds-out-p c = search put_in

pub overflow_add-nexts : goal.overflow_add-nexts
overflow_add-nexts c = let inside : get_or c.args.nexts.now c.in-Some.k 0 < length c.args.out.now = search put_in in omega (arith, inside)

pub offset_bounds-nexts-k-in-Some : goal.offset_bounds-nexts-k-in-Some
offset_bounds-nexts-k-in-Some c = let within : c.in-Some.k < 256 = search tally-in in omega (arith, within)

pub bounds-nexts-k-in-Some : goal.bounds-nexts-k-in-Some
bounds-nexts-k-in-Some c = let within : c.in-Some.k < 256 = search tally-in in within

pub returns-in_default : goal.returns-in_default
returns-in_default c = record { nexts_after = search tally-none; out_after = search put-none }

pub returns-in-Some : goal.returns-in-Some
returns-in-Some c = record { nexts_after = search tally-one; out_after = search put_one }
