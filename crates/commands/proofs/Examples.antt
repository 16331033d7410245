-- Lines, each with the command that it asks for and its numbers, computed. Assumes nothing.
use mathlib.Core.Path.{◌≡◌, refl}
use mathlib.Core.List.{List, [], ◌∷◌, map}
use Prim.Native.Nat.{ℕ}
use Prim.Native.String.{String}
use Rattle.lists.specs.Tests.{◌and◌}
use Rattle.lists.specs.Lists.{all, same_list}
use Rattle.edits.specs.Results.{first_passing, first_passing_from}
use Rattle.wording.specs.Texts.{text}
use Rattle.commands.specs.declared.Query.TheVariants.{Walk}
use Rattle.commands.specs.declared.Look.TheVariants.{ShowTube}
use Rattle.commands.specs.declared.Change.TheVariants.{Transfer}
use Rattle.commands.specs.declared.Command.{Command}
use Rattle.commands.specs.declared.Command.TheVariants.{Ask, View, Make, Help, HelpOn, Unknown, NotNumber, WrongCount}
use Rattle.commands.specs.Words.{onto, split, words_behind, is_digit, value_from, value_of, is_number, leading}
use Rattle.commands.specs.Commands.{forms, names, form_at, name_at, ends_at, opens_with, named, behind_name, words_by, numbers_on, takes, asked, asked_by, help_by, help_on, command_by, command_on, tube}

-- a line, its command and its numbers
pub record Example : Type 0 where
  pub line : List ℕ
  pub command : Command
  pub numbers : List ℕ

abbrev on : String → Command → List ℕ → Example
on line command numbers = record { line = text line; command = command; numbers = numbers }

-- the examples as they are written, and as the definitions compute them
abbrev written : List Example
written =
    on "show tube 3" (View (ShowTube (tube 3))) (3 ∷ [])
    ∷ on "show tubes" (NotNumber 1) []
    ∷ on "shows" Unknown []
    ∷ on "transfer 04294967295 2 3" (Make (Transfer 4294967295)) (4294967295 ∷ 2 ∷ 3 ∷ [])
    ∷ on "transfer 7 4294967296 2" (NotNumber 2) (7 ∷ [])
    ∷ on "merge 1  2" (NotNumber 2) (1 ∷ [])
    ∷ on "show " (NotNumber 1) []
    ∷ on "walk 1 2" (WrongCount 26) (1 ∷ 2 ∷ [])
    ∷ on "walk 1 2 3" (Ask (Walk (tube 1) 2 3)) (1 ∷ 2 ∷ 3 ∷ [])
    ∷ on "help" Help []
    ∷ on "help find transfer" (HelpOn 25) []
    ∷ on "help find" Unknown []
    ∷ on "" Unknown []
    ∷ []

abbrev computed : Example → Example
computed e = record { line = e.line; command = command_on e.line; numbers = numbers_on e.line }

pub examples : map computed written ≡ written
unfolding onto split words_behind is_digit value_from value_of is_number leading forms names form_at name_at ends_at opens_with named behind_name words_by numbers_on takes asked asked_by help_by help_on command_by command_on all same_list ◌and◌ first_passing first_passing_from
examples = refl
