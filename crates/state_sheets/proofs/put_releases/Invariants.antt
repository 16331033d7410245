-- `state_sheets::put_releases` meets its contract. Assumes nothing.
use mathlib.Core.Path.{◌≡◌}
use Prim.Native.Nat.{◌≤◌}
use lib.ListN.{length, drop}
use Rattle.lists.specs.Lists.{flat}
use Rattle.layout.specs.Layout.{limit, read}
use Rattle.wording.specs.Pages.{page, write}
use Rattle.state_sheets.specs.Signed.{release_said, releases_said}
use Rattle.state_sheets.proofs.put_releases.Given as goal

abbrev pub invariant-loop-i : goal.invariant-loop-i
invariant-loop-i l = (l.i ≤ length l.list) × (write (flat (release_said (read limit l.t) l.s) (drop l.i l.list)) (page l.out l.next) ≡ write (releases_said (read limit l.t) l.s l.list) (page l.initial.out l.at))
