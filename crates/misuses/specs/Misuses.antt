-- What is said of a line that is no command. Assumes nothing.
use Rattle.std.specs.Prelude.{Bool, not, List, [], ◌++◌, ℕ}
use Rattle.wording.specs.Texts.{text}
use Rattle.wording.specs.Forms.{filled}
use Rattle.commands.specs.declared.Command.{Command}
use Rattle.commands.specs.declared.Command.TheVariants.{Init, Ask, View, Make, Help, HelpOn, Version, Unknown, NotNumber, WrongCount, TooMany}
use Rattle.help_texts.specs.Help.{help_on}
use Rattle.causes.specs.Causes.{halves}
use Rattle.messages.specs.Messages.{opening, ending}

-- what is wrong, as a form in which U is the line itself
unfoldable pub spoken : Bool → ℕ → List ℕ → List ℕ → List ℕ → List ℕ
spoken single line form ns said = opening single line ++ (filled form ns said ++ ending (not single))

-- word p is no number
unfoldable pub number_text : Bool → ℕ → ℕ → List ℕ → List ℕ
number_text single line p said =
    spoken single line (text "argument K of 'U' is no number from 0 to 4294967295") (halves p []) said

-- the usage of command k; its line in the help has its line feed
unfoldable pub usage_text : Bool → ℕ → ℕ → List ℕ
usage_text single line k = opening single line ++ (text "usage: vaultsorrel FILE " ++ help_on k)

-- what is said of a line, by what it was taken for; nothing of a command other than init
unfoldable pub misuse_text : Bool → ℕ → Command → List ℕ → List ℕ
misuse_text single line Unknown said = spoken single line (text "'U' is no command; help lists them") [] said
misuse_text single line (NotNumber p) said = number_text single line p said
misuse_text single line TooMany said = spoken single line (text "a line takes at most 1024 numbers") [] said
misuse_text single line Init said =
    spoken single line (text "init makes a file that is not there yet, and stands first") [] said
misuse_text single line (WrongCount k) said = usage_text single line k
misuse_text single line (Ask q) said = []
misuse_text single line (View l) said = []
misuse_text single line (Make m) said = []
misuse_text single line Help said = []
misuse_text single line (HelpOn k) said = []
misuse_text single line Version said = []
