-- `command_sheets::list_in` meets its contract. Assumes nothing.
use Rattle.command_sheets.proofs.Told.{list-in-as}
use Rattle.command_sheets.specs.Commanded.{list_in}
use Rattle.command_sheets.proofs.list_in.Goals as goal

pub returns-in-Init : goal.returns-in-Init
unfolding list_in
returns-in-Init c = search list-in-as

pub returns-in-Ask : goal.returns-in-Ask
unfolding list_in
returns-in-Ask c = search list-in-as

pub returns-in-View : goal.returns-in-View
unfolding list_in
returns-in-View c = search list-in-as

pub returns-in-Make : goal.returns-in-Make
unfolding list_in
returns-in-Make c = search list-in-as

pub returns-in-Help : goal.returns-in-Help
unfolding list_in
returns-in-Help c = search list-in-as

pub returns-in-HelpOn : goal.returns-in-HelpOn
unfolding list_in
returns-in-HelpOn c = search list-in-as

pub returns-in-Version : goal.returns-in-Version
unfolding list_in
returns-in-Version c = search list-in-as

pub returns-in-Unknown : goal.returns-in-Unknown
unfolding list_in
returns-in-Unknown c = search list-in-as

pub returns-in-NotNumber : goal.returns-in-NotNumber
unfolding list_in
returns-in-NotNumber c = search list-in-as

pub returns-in-WrongCount : goal.returns-in-WrongCount
unfolding list_in
returns-in-WrongCount c = search list-in-as

pub returns-in-TooMany : goal.returns-in-TooMany
unfolding list_in
returns-in-TooMany c = search list-in-as
