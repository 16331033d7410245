-- `wording::put_number` meets its contract. Assumes nothing.
use Rattle.wording.proofs.Numbers.{one-digit, last-digit}
use Rattle.wording.proofs.+put_number.Goals as goal

pub returns-then-n-lt10 : goal.returns-then-n-lt10
returns-then-n-lt10 t c = search one-digit

pub returns : goal.returns
returns t c = search last-digit
