-- `hyperedge_blocks::counted_members` meets its contract. Assumes nothing.
use Prim.Native.Nat.{◌≤◌}
use native.Mathlib.Omega.{arith}
use Rattle.layout.specs.Layout.{limit}
use Rattle.lookups.proofs.Laid.{counted-part}
use Rattle.hyperedge_blocks.proofs.counted_members.Goals as goal

pub overflow_add-e : goal.overflow_add-e
overflow_add-e c = let within : c.member_count-n.result ≤ limit = omega (arith, c.requires.formed.counts _ c.requires.j_bound, c.member_count-n.ensures) in omega (arith, within)

pub overflow_add-e-2 : goal.overflow_add-e-2
overflow_add-e-2 c = let within : c.member_count-n.result ≤ limit = omega (arith, c.requires.formed.counts _ c.requires.j_bound, c.member_count-n.ensures) in omega (arith, within)

pub slice_bounds-result-end : goal.slice_bounds-result-end
slice_bounds-result-end c = let within : c.member_count-n.result ≤ limit = omega (arith, c.requires.formed.counts _ c.requires.j_bound, c.member_count-n.ensures) in omega (arith, within)

pub returns : goal.returns
returns c = counted-part limit _ _ _ c.requires.formed c.requires.j_bound c.member_count-n.ensures
