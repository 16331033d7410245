-- What is said of lines that are no command, and the lines of the help beside the names of the commands, computed. Assumes nothing.
use Rattle.std.specs.Prelude.{Some}
use mathlib.Core.Path.{◌≡◌, refl}
use mathlib.Core.Bool.{true, false}
use mathlib.Core.List.{List, [], ◌∷◌, map}
use Prim.Native.Nat.{ℕ}
use Rattle.lists.specs.Tests.{◌and◌}
use Rattle.lists.specs.Lists.{same_list, tab, up_to, flat}
use Rattle.edits.specs.Results.{first_passing, first_passing_from}
use Rattle.wording.specs.Texts.{text, spelled, decimal}
use Rattle.wording.specs.Forms.{within, wide_at, meant, filled}
use Rattle.text_lines.specs.Lines.{first_line, other_lines, line_at}
use Rattle.commands.specs.declared.Command.TheVariants.{Init, Help, Unknown, NotNumber, WrongCount, TooMany}
use Rattle.commands.specs.Commands.{forms, names, command_count, ends_at, opens_with, named}
use Rattle.help_texts.specs.Help.{command_lines, help_on}
use Rattle.messages.specs.Messages.{opening, ending}
use Rattle.misuses.specs.Misuses.{spoken, number_text, usage_text, misuse_text}

pub misuses : ◌≡◌ {A = List (List ℕ)}
    (misuse_text true 0 Unknown (text "shows")
    ∷ misuse_text true 0 (NotNumber 2) (text "path 3 x")
    ∷ misuse_text true 0 (WrongCount 12) (text "path 3")
    ∷ misuse_text false 3 Unknown (text "shows")
    ∷ misuse_text false 3 (WrongCount 12) (text "path 3")
    ∷ misuse_text false 7 TooMany (text "release 1")
    ∷ misuse_text true 0 Init (text "init")
    ∷ misuse_text true 0 Help (text "help")
    ∷ [])
    (text "vaultsorrel: 'shows' is no command; help lists them\n"
    ∷ text "vaultsorrel: argument 2 of 'path 3 x' is no number from 0 to 4294967295\n"
    ∷ text "vaultsorrel: usage: vaultsorrel FILE path A B                the cheapest path from tube A to tube B\n"
    ∷ text "vaultsorrel: line 3: 'shows' is no command; help lists them; nothing was changed\n"
    ∷ text "vaultsorrel: line 3: usage: vaultsorrel FILE path A B                the cheapest path from tube A to tube B\n"
    ∷ text "vaultsorrel: line 7: a line takes at most 1024 numbers; nothing was changed\n"
    ∷ text "vaultsorrel: init makes a file that is not there yet, and stands first\n"
    ∷ []
    ∷ [])
unfolding ◌and◌ flat spelled decimal within wide_at meant filled first_line other_lines line_at command_lines help_on opening ending spoken number_text usage_text misuse_text
misuses = refl

-- line k of the help opens with the name of command k
pub help-in-order : map (λ (k : ℕ). named (help_on k)) (up_to command_count) ≡ map Some (up_to command_count)
unfolding ◌and◌ same_list tab first_passing first_passing_from first_line other_lines line_at forms names ends_at opens_with named command_lines help_on
help-in-order = refl
