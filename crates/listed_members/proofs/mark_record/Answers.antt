-- `listed_members::mark_record` meets its contract. Assumes nothing.
use Prim.Native.Nat.{◌<◌}
use native.Mathlib.Omega.{arith}
use lib.ListN.{length}
use Rattle.layout.specs.Layout.{limit}
use Rattle.steps.proofs.Members.{members-some}
use Rattle.properties.proofs.Marking.{trimmed-marked}
use Rattle.listed_members.proofs.mark_record.Goals as goal

pub overflow_sub-e : goal.overflow_sub-e
overflow_sub-e c = let some : 0 < length c.members_formed-ms.result.now = members-some limit c.args.t.now c.requires.formed _ c.requires.j_bound.0 _ c.members_formed-ms.ensures in omega (arith, some)

pub slice_bounds-mark_members-count : goal.slice_bounds-mark_members-count
slice_bounds-mark_members-count c = let some : 0 < length c.members_formed-ms.result.now = members-some limit c.args.t.now c.requires.formed _ c.requires.j_bound.0 _ c.members_formed-ms.ensures in omega (arith, some)

pub slice_bounds-mark_members-start : goal.slice_bounds-mark_members-start
slice_bounds-mark_members-start c = let some : 0 < length c.members_formed-ms.result.now = members-some limit c.args.t.now c.requires.formed _ c.requires.j_bound.0 _ c.members_formed-ms.ensures in omega (arith, some)

pub returns : goal.returns
returns c = search trimmed-marked
