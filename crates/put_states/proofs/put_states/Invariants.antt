-- `put_states::put_states` meets its contract. Assumes nothing.
use mathlib.Core.Path.{◌≡◌}
use lib.ListN.{drop}
use Rattle.layout.specs.Content.{live_vertices}
use Rattle.layout.specs.Layout.{limit, read}
use Rattle.wording.specs.Pages.{page, write}
use Rattle.states_text.specs.StatesText.{states_text}
use Rattle.put_states.proofs.put_states.Given as goal

abbrev pub invariant-loop-i : goal.invariant-loop-i
invariant-loop-i l =
    write (states_text (drop l.i (live_vertices (read limit l.t))) (drop l.i l.s)) (page l.out l.next) ≡ write (states_text (live_vertices (read limit l.t)) l.s) (page l.initial.out l.at)
