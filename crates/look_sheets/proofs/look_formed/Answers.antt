-- `look_sheets::look_formed` meets its contract. Assumes nothing.
use Rattle.look_sheets.proofs.Seen.{seen-check, seen-show, seen-tube, seen-transfer, seen-path, seen-states, seen-order}
use Rattle.look_sheets.proofs.look_formed.Goals as goal

pub returns-in-Check : goal.returns-in-Check
returns-in-Check c = search seen-check

pub returns-in-Show : goal.returns-in-Show
returns-in-Show c = search seen-show

pub returns-in-ShowTube : goal.returns-in-ShowTube
returns-in-ShowTube c = search seen-tube

pub returns-in-ShowTransfer : goal.returns-in-ShowTransfer
returns-in-ShowTransfer c = search seen-transfer

pub returns-in-Path : goal.returns-in-Path
returns-in-Path c = search seen-path

pub returns-in-States : goal.returns-in-States
returns-in-States c = search seen-states

pub returns-in-Order : goal.returns-in-Order
returns-in-Order c = search seen-order
