-- `full_entries::write_head` meets its contract. Assumes nothing.
use native.Mathlib.Omega.{arith}
use lib.ListN.{length, length-set}
use Prim.Native.Nat.{◌+◌, ◌≤◌}
use Rattle.lookups.proofs.Full.{head-none, head-some, head-fits, heading-none, heading-some}
use Rattle.full_entries.proofs.write_head.Goals as goal

pub returns-then-count-eq0 : goal.returns-then-count-eq0
returns-then-count-eq0 c = record { value = search head-none; out_after = search heading-none }

pub bounds-out-c : goal.bounds-out-c
bounds-out-c c = let fits : c.args.c + 2 ≤ length c.args.out.now = search head-fits in omega (arith, fits)

pub bounds-out-c-2 : goal.bounds-out-c-2
bounds-out-c-2 c = let fits : c.args.c + 2 ≤ length c.args.out.now = search head-fits in rw length-set (omega (arith, fits))

pub returns : goal.returns
returns c = record { value = search head-some; out_after = search heading-some }
