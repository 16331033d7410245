-- What carrying out a judged tray at the desk leaves is what the tray asks for there. Assumes nothing.
use mathlib.Core.Path.{◌≡◌, refl, sym, ap, subst}
use mathlib.Core.Bool.{Bool, false, not}
use mathlib.Core.List.{List, map}
use Prim.Native.Nat.{ℕ}
use lib.ListN.{take}
use Rattle.layout.specs.Answers.{Answer}
use Rattle.layout.specs.Layout.{vertex_count}
use Rattle.layout.specs.Inner.{vertex_column}
use Rattle.layout.specs.Answers.{Result, result_of}
use Rattle.removals.specs.Removals.{stays_vertex}
use Rattle.trays.specs.declared.Withdrawal.{Withdrawal}
use Rattle.trays.specs.Trays.{asked, tray}
use Rattle.tray_marks.specs.declared.Tray.{Tray}
use Rattle.tray_marks.specs.Marking.{OpenFormed, tray_of}
use Rattle.tray_marks.proofs.Marking.{tray-formed}
use Rattle.withdraw_tray.specs.Carried.{carried_out}
use Rattle.withdraw_tray.proofs.Carried.{tray-result}
use Rattle.calls.specs.Calls.{edit, withdraw}
use Rattle.desk.specs.Desk.{desk_of, outcome, edited, desk_edit}
use Rattle.desk.proofs.Edits.{live_after}
use Rattle.desk_states.specs.Open.{is_open}
use Rattle.desk_states.specs.Following.{Noted, followed, Followable}
use Rattle.desk_states.proofs.Removed.{Removes, edit-removes, removed-left, removed-edited}
use Rattle.desk_tray.specs.Judged.{Judged}

carried-tray : (ws : List ℕ) (rs : List Withdrawal) → carried_out (tray_of ws rs) ws ≡ edit (withdraw rs) ws
unfolding edit tray
carried-tray ws rs = tray-result ws rs

pub tray-edited : (ws ss : List ℕ) (rs : List Withdrawal) → edited (carried_out (tray_of ws rs) ws) (desk_of ws ss) ≡ desk_edit (withdraw rs) (desk_of ws ss)
unfolding desk_edit
tray-edited ws ss rs = ap (λ (r : Result). edited r (desk_of ws ss)) (carried-tray ws rs)

-- a tray takes vertices out where it is done, and changes nothing where it is refused
tray-removes : (ws : List ℕ) (rs : List Withdrawal) → Removes ws (edit (withdraw rs) ws)
unfolding live_after
tray-removes ws rs = edit-removes (withdraw rs) ws (stays_vertex (map asked rs)) refl

-- ---- for `search`

module _ (tray : Tray) (ws : List ℕ) (j : Judged tray ws) where
  pub judged-formed : OpenFormed tray ws
  judged-formed = subst (λ (d : Tray). OpenFormed d ws) (sym j.judged) (tray-formed ws j.records)

  carried-removes : Removes ws (carried_out tray ws)
  carried-removes = rw (j.judged, carried-tray ws j.records) (tray-removes ws j.records)

  -- b is what `is_open` found, and the code tested `!b`; n is what `vertex_count` found, numbers what `note_numbers` did; then `carry_out` answered a
  -- and left the words left
  module _ (ss : List ℕ) (b : Bool) (eb : b ≡ is_open (desk_of ws ss)) (hb : not b ≡ false) (n : ℕ) (en : n ≡ vertex_count ws)
      (numbers : List ℕ) (noted : Noted ws numbers) (a : Answer) (left : List ℕ) (er : result_of a left ≡ carried_out tray ws) where
    pub carried-left : Followable a numbers n left ss
    carried-left = removed-left ws ss b eb hb n en numbers noted a left (carried_out tray ws) er carried-removes

    pub carried-edited : (ss' : List ℕ) → ss' ≡ followed a (take n numbers) ss (vertex_column left)
        → outcome a (desk_of left ss') ≡ edited (carried_out tray ws) (desk_of ws ss)
    carried-edited = removed-edited ws ss b eb hb n en numbers noted a left (carried_out tray ws) er carried-removes
