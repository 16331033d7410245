-- `command_sheets::tell` meets its contract. Assumes nothing.
use Rattle.command_sheets.proofs.Told.{told-as, make-told, said-told, page-told}
use Rattle.command_sheets.specs.Commanded.{command_told}
use Rattle.command_sheets.proofs.tell.Goals as goal

pub returns-in-Init : goal.returns-in-Init
unfolding command_told
returns-in-Init c = search (told-as, page-told)

pub returns-in-Ask : goal.returns-in-Ask
unfolding command_told
returns-in-Ask c = search (told-as, said-told)

pub returns-in-View : goal.returns-in-View
unfolding command_told
returns-in-View c = search (told-as, said-told)

pub returns-in-Make : goal.returns-in-Make
returns-in-Make c = search make-told

pub returns-in-Help : goal.returns-in-Help
unfolding command_told
returns-in-Help c = search (told-as, page-told)

pub returns-in-HelpOn : goal.returns-in-HelpOn
unfolding command_told
returns-in-HelpOn c = search (told-as, page-told)

pub returns-in-Version : goal.returns-in-Version
unfolding command_told
returns-in-Version c = search (told-as, page-told)

pub returns-in-Unknown : goal.returns-in-Unknown
unfolding command_told
returns-in-Unknown c = search told-as

pub returns-in-NotNumber : goal.returns-in-NotNumber
unfolding command_told
returns-in-NotNumber c = search told-as

pub returns-in-WrongCount : goal.returns-in-WrongCount
unfolding command_told
returns-in-WrongCount c = search told-as

pub returns-in-TooMany : goal.returns-in-TooMany
unfolding command_told
returns-in-TooMany c = search told-as
