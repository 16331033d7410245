-- `record_sheets::put_listing` meets its contract. Assumes nothing.
use Rattle.record_sheets.proofs.Records.{listing-yes, listing-no}
use Rattle.record_sheets.proofs.put_listing.Goals as goal

pub returns-then-holds : goal.returns-then-holds
returns-then-holds c = search listing-yes

pub returns : goal.returns
returns c = search listing-no
