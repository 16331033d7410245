-- `command_sheets::is_misused` meets its contract. Assumes nothing.
use Rattle.command_sheets.proofs.Told.{misused-as, init-misused}
use Rattle.command_sheets.specs.Commanded.{is_misused}
use Rattle.command_sheets.proofs.is_misused.Goals as goal

pub returns-in-Init : goal.returns-in-Init
returns-in-Init c = search init-misused

pub returns-in-Ask : goal.returns-in-Ask
unfolding is_misused
returns-in-Ask c = search misused-as

pub returns-in-View : goal.returns-in-View
unfolding is_misused
returns-in-View c = search misused-as

pub returns-in-Make : goal.returns-in-Make
unfolding is_misused
returns-in-Make c = search misused-as

pub returns-in-Help : goal.returns-in-Help
unfolding is_misused
returns-in-Help c = search misused-as

pub returns-in-HelpOn : goal.returns-in-HelpOn
unfolding is_misused
returns-in-HelpOn c = search misused-as

pub returns-in-Version : goal.returns-in-Version
unfolding is_misused
returns-in-Version c = search misused-as

pub returns-in-Unknown : goal.returns-in-Unknown
unfolding is_misused
returns-in-Unknown c = search misused-as

pub returns-in-NotNumber : goal.returns-in-NotNumber
unfolding is_misused
returns-in-NotNumber c = search misused-as

pub returns-in-WrongCount : goal.returns-in-WrongCount
unfolding is_misused
returns-in-WrongCount c = search misused-as

pub returns-in-TooMany : goal.returns-in-TooMany
unfolding is_misused
returns-in-TooMany c = search misused-as
