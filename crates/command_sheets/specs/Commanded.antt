-- What a command answers and leaves, and what it says. Assumes nothing.
use Rattle.std.specs.Prelude.{Bool, true, false, not, List, [], ℕ, eqb, drop}
use Rattle.lists.specs.Tests.{◌and◌}
use Rattle.layout.specs.Answers.{Result}
use Rattle.desk.specs.Desk.{Desk}
use Rattle.wording.specs.Texts.{text}
use Rattle.wording.specs.Pages.{Page, write}
use Rattle.wording.specs.Forms.{filled}
use Rattle.saying.specs.Saying.{paged, sheet_on}
use Rattle.commands.specs.declared.Command.{Command}
use Rattle.commands.specs.declared.Command.TheVariants.{Init, Ask, View, Make, Help, HelpOn, Version, Unknown, NotNumber, WrongCount, TooMany}
use Rattle.commands.specs.declared.Change.{Change}
use Rattle.commands.specs.declared.Change.TheVariants.{Tube, Transfer, Relist, WithdrawTubes, WithdrawTransfers, Merge, Review, Release}
use Rattle.asking.specs.Asking.{asked}
use Rattle.query_lines.specs.Queries.{query_sheet}
use Rattle.query_sheets.specs.Room.{no_words}
use Rattle.look_sheets.specs.Looks.{look_result}
use Rattle.changes.specs.Changes.{Told, change_told}
use Rattle.help_texts.specs.Help.{help_text, help_on, version_text}
use Rattle.command_sheets.specs.declared.Manner.{Manner}

-- `how` says whether in numbers alone, as a single command, for a file that is made; `name` is that of the file

-- a call that leaves the desk as it was
abbrev pub told_of : Desk → Result → Told
told_of d r = record { number = r.number; detail = r.detail; desk = d; lent = r.lent }

-- the numbers that a change takes as its list: the members of a transfer stand behind its cost, those of a new list behind the transfer
unfoldable pub list_of : Change → List ℕ → List ℕ
list_of (Tube w) ns = ns
list_of (Transfer cost) ns = drop 1 ns
list_of (Relist e) ns = drop 1 ns
list_of WithdrawTubes ns = ns
list_of WithdrawTransfers ns = ns
list_of (Merge v w) ns = ns
list_of (Review v) ns = ns
list_of Release ns = ns

-- those of any command
unfoldable pub list_in : Command → List ℕ → List ℕ
list_in Init ns = ns
list_in (Ask q) ns = ns
list_in (View look) ns = ns
list_in (Make c) ns = list_of c ns
list_in Help ns = ns
list_in (HelpOn k) ns = ns
list_in Version ns = ns
list_in Unknown ns = ns
list_in (NotNumber place) ns = ns
list_in (WrongCount k) ns = ns
list_in TooMany ns = ns

-- what a command answers and leaves
unfoldable pub command_told : Manner → List ℕ → Command → List ℕ → Desk → Page → Told
command_told how name Init ns d p = told_of d (paged (write (filled (text "U made\n") [] name) p))
command_told how name (Ask q) ns d p = told_of d (sheet_on (asked q d.table no_words) (query_sheet how.plain q) p)
command_told how name (View look) ns d p = told_of d (look_result look ns how.plain d p)
command_told how name (Make c) ns d p = change_told how.plain c (list_of c ns) d p
command_told how name Help ns d p = told_of d (paged (write help_text p))
command_told how name (HelpOn k) ns d p = told_of d (paged (write (help_on k) p))
command_told how name Version ns d p = told_of d (paged (write version_text p))
command_told how name Unknown ns d p = told_of d (paged p)
command_told how name (NotNumber place) ns d p = told_of d (paged p)
command_told how name (WrongCount k) ns d p = told_of d (paged p)
command_told how name TooMany ns d p = told_of d (paged p)

-- the i-th line is no command, or `init` where it does not stand first for a file that is made
unfoldable pub is_misused : Manner → ℕ → Command → Bool
is_misused how i Init = not (how.makes and eqb i 1)
is_misused how i (Ask q) = false
is_misused how i (View look) = false
is_misused how i (Make c) = false
is_misused how i Help = false
is_misused how i (HelpOn k) = false
is_misused how i Version = false
is_misused how i Unknown = true
is_misused how i (NotNumber place) = true
is_misused how i (WrongCount k) = true
is_misused how i TooMany = true
