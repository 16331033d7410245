-- `write_frames::hyperedge_length` meets its contract. Assumes nothing.
use Prim.Native.Nat.{◌≤◌}
use native.Mathlib.Omega.{arith}
use lib.ListN.{length}
use Rattle.layout.specs.Layout.{limit}
use Rattle.frames.proofs.Text.{members-limit, hyperedge-at-length}
use Rattle.write_frames.proofs.hyperedge_length.Goals as goal

pub overflow_add-result : goal.overflow_add-result
overflow_add-result c = let few : length c.members_formed-members.result.now ≤ limit = members-limit limit _ _ _ c.members_formed-members.ensures c.requires.formed c.requires.j_bound in omega (arith, few)

pub returns : goal.returns
returns c = let few : length c.members_formed-members.result.now ≤ limit = members-limit limit _ _ _ c.members_formed-members.ensures c.requires.formed c.requires.j_bound in (search hyperedge-at-length, omega (arith, few))
