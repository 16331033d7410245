-- What any tray keeps to, over the calls. Assumes nothing.
use mathlib.Core.Path.{◌≡◌, ◌∙◌}
use mathlib.Core.Bool.{true}
use mathlib.Core.List.{List, map}
use Prim.Native.Nat.{ℕ}
use Rattle.layout.specs.Layout.{limit}
use Rattle.layout.specs.WellFormed.{well_formed}
use Rattle.removals.specs.Orders.{same}
use Rattle.removals.proofs.Theorems.{removals-words}
use Rattle.trays.specs.declared.Withdrawal.{Withdrawal}
use Rattle.trays.specs.Trays.{asked}
use Rattle.trays.proofs.Answered.{left-removals}
use Rattle.trays.proofs.Theorems.{same_end, order_same, single-removals, tray-formed, tray-reach}
use Rattle.demands.specs.Removals.{Withdraws}
use Rattle.demands.specs.Trays.{TrayWithdraws}
use Rattle.demands.proofs.Removals.{removals-withdraw}

-- of any tray, with repeats, of any kinds and numbers
pub tray-withdraws : (rs : List Withdrawal) (ws : List ℕ) → well_formed limit ws ≡ true → TrayWithdraws rs ws
tray-withdraws rs ws formed =
    let q = left-removals ws formed rs in
    let d : Withdraws q.0 ws = removals-withdraw q.0 ws formed in
    record {
      formed = tray-formed ws formed rs;
      any_order = λ ss p. same_end ws formed rs ss (order_same p);
      words_are = λ a. single-removals ws formed same a ∙ removals-words ws formed (map asked rs);
      singles = single-removals ws formed same;
      reaches = tray-reach ws formed rs;
      answers-yes = λ x y e. d.answers-yes x y (rw q.1 at e);
      still-sorts = λ lent s. rw q.1 (d.still-sorts lent s);
    }
