-- `rings::leads_to` meets its contract. Assumes nothing.
use Rattle.rings.proofs.Back.{leads-no, leads-marked}
use Rattle.rings.proofs.leads_to.Goals as goal

pub returns-then-adj-j-ne1 : goal.returns-then-adj-j-ne1
returns-then-adj-j-ne1 c = search leads-no

pub returns : goal.returns
returns c = search leads-marked
