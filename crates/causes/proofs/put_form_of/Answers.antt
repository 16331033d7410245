-- `causes::put_form_of` meets its contract. Assumes nothing.
use Rattle.causes.proofs.Causes.{form_of}
use Rattle.causes.proofs.put_form_of.Goals as goal

pub returns : goal.returns
returns c = search form_of
