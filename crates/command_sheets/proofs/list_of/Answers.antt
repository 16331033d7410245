-- `command_sheets::list_of` meets its contract. Assumes nothing.
use Rattle.command_sheets.proofs.Told.{list-as}
use Rattle.command_sheets.specs.Commanded.{list_of}
use Rattle.command_sheets.proofs.list_of.Goals as goal

pub returns-in-Tube : goal.returns-in-Tube
unfolding list_of
returns-in-Tube c = search list-as

pub returns-in-Transfer : goal.returns-in-Transfer
unfolding list_of
returns-in-Transfer c = search list-as

pub returns-in-Relist : goal.returns-in-Relist
unfolding list_of
returns-in-Relist c = search list-as

pub returns-in-WithdrawTubes : goal.returns-in-WithdrawTubes
unfolding list_of
returns-in-WithdrawTubes c = search list-as

pub returns-in-WithdrawTransfers : goal.returns-in-WithdrawTransfers
unfolding list_of
returns-in-WithdrawTransfers c = search list-as

pub returns-in-Merge : goal.returns-in-Merge
unfolding list_of
returns-in-Merge c = search list-as

pub returns-in-Review : goal.returns-in-Review
unfolding list_of
returns-in-Review c = search list-as

pub returns-in-Release : goal.returns-in-Release
unfolding list_of
returns-in-Release c = search list-as
