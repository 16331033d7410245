-- `change_sheets::make_fitting` meets its contract. Assumes nothing.
use Rattle.change_sheets.proofs.Cases.{with-list, as-tube, as-merge, as-review}
use Rattle.change_sheets.proofs.make_fitting.Goals as goal

pub returns-in-Tube : goal.returns-in-Tube
returns-in-Tube c = search as-tube

pub returns-in-Transfer : goal.returns-in-Transfer
returns-in-Transfer c = search with-list

pub returns-in-Relist : goal.returns-in-Relist
returns-in-Relist c = search with-list

pub returns-in-WithdrawTubes : goal.returns-in-WithdrawTubes
returns-in-WithdrawTubes c = search with-list

pub returns-in-WithdrawTransfers : goal.returns-in-WithdrawTransfers
returns-in-WithdrawTransfers c = search with-list

pub returns-in-Merge : goal.returns-in-Merge
returns-in-Merge c = search as-merge

pub returns-in-Review : goal.returns-in-Review
returns-in-Review c = search as-review

pub returns-in-Release : goal.returns-in-Release
returns-in-Release c = search with-list
