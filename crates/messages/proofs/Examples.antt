-- Messages as they come out, computed. Assumes nothing.
use mathlib.Core.Path.{◌≡◌, refl}
use mathlib.Core.Bool.{true, false}
use mathlib.Core.List.{List, [], ◌∷◌}
use Prim.Native.Nat.{ℕ}
use Rattle.lists.specs.Tests.{◌and◌}
use Rattle.lists.specs.Lists.{flat}
use Rattle.wording.specs.Texts.{text, spelled, decimal}
use Rattle.wording.specs.Forms.{within, wide_at, meant, filled, joined}
use Rattle.text_lines.specs.Lines.{first_line, other_lines, line_at}
use Rattle.commands.specs.declared.Command.{Command}
use Rattle.commands.specs.declared.Command.TheVariants.{Ask, View, Make}
use Rattle.commands.specs.declared.Query.TheVariants.{Sort}
use Rattle.commands.specs.declared.Look.TheVariants.{Order}
use Rattle.commands.specs.declared.Change.TheVariants.{WithdrawTubes, WithdrawTransfers, Release}
use Rattle.causes.specs.Causes.{causes, named, cause, is_change, transfer_tray, cause_number, walk_text, no_order, cause_text}
use Rattle.messages.specs.Messages.{opening, ending, any_change, could_change, refusal_text, fault_ending, faulty_text}

-- a command on day.frames, which has handed in the numbers 7, 9 and 4, is refused
abbrev refused : Command → List ℕ → ℕ → ℕ → List ℕ
refused c walk number detail = refusal_text true 0 c (7 ∷ 9 ∷ 4 ∷ []) (text "day.frames") walk number detail

pub messages : ◌≡◌ {A = List (List ℕ)}
    (refused (Make Release) [] 3 9
    ∷ refused (Make Release) [] 18 5
    ∷ refused (Make WithdrawTubes) [] 15 1
    ∷ refused (Make WithdrawTransfers) [] 15 1
    ∷ refused (View Order) [] 19 2
    ∷ refused (View Order) [] 19 3
    ∷ refused (Ask Sort) (0 ∷ 1 ∷ 2 ∷ []) 9 0
    ∷ refused (Ask Sort) (0 ∷ []) 9 0
    ∷ refused (Ask Sort) [] 9 0
    ∷ refusal_text false 3 (Ask Sort) [] (text "day.frames") (4 ∷ 1 ∷ []) 9 0
    ∷ faulty_text (text "day.frames") 4 false
    ∷ faulty_text (text "day.frames") 4 true
    ∷ [])
    (text "vaultsorrel: tube 9 is not in day.frames (3); nothing was changed\n"
    ∷ text "vaultsorrel: upstream tube 5 is not released (18); nothing was changed\n"
    ∷ text "vaultsorrel: tube 9, place 2 of the tray, is not in day.frames (15); nothing was changed\n"
    ∷ text "vaultsorrel: transfer 9, place 2 of the tray, is not in day.frames (15); nothing was changed\n"
    ∷ text "vaultsorrel: the order fails at place 3, tube 4 (19)\n"
    ∷ text "vaultsorrel: the order stops short after 3 tubes (19)\n"
    ∷ text "vaultsorrel: no order: tubes 0 1 2 lead back to 0 (9)\n"
    ∷ text "vaultsorrel: no order: tube 0 leads back to itself (9)\n"
    ∷ text "vaultsorrel: no order (9)\n"
    ∷ text "vaultsorrel: line 3: no order: tubes 4 1 lead back to 4 (9); nothing was changed\n"
    ∷ text "vaultsorrel: day.frames line 4 is faulty (12)\n"
    ∷ text "vaultsorrel: day.frames line 4 is faulty (12): it ends in CR LF\n"
    ∷ [])
unfolding ◌and◌ flat spelled decimal within wide_at meant filled joined first_line other_lines line_at causes named cause is_change transfer_tray cause_number walk_text no_order cause_text opening ending any_change could_change refusal_text fault_ending faulty_text
messages = refl
