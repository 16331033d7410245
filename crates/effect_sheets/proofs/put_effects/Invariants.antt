-- `effect_sheets::put_effects` meets its contract. Assumes nothing.
use mathlib.Core.Path.{◌≡◌}
use Prim.Native.Nat.{◌≤◌}
use lib.ListN.{drop}
use Rattle.lists.specs.Lists.{flat}
use Rattle.layout.specs.Layout.{limit, read_hyperedges, read}
use Rattle.wording.specs.Pages.{page, write}
use Rattle.effect_sheets.specs.Effects.{effect, effects}
use Rattle.effect_sheets.proofs.put_effects.Given as goal

abbrev pub invariant-loop-j : goal.invariant-loop-j
invariant-loop-j l = (l.j ≤ l.n) × (write (flat (effect l.verb (read limit l.after)) (drop l.j (read_hyperedges limit l.before))) (page l.out l.next) ≡ write (effects l.verb (read limit l.before) (read limit l.after)) (page l.initial.out l.at))
