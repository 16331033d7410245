-- The measure of `wording::put_number`: the digits before the last are a smaller number's. Assumes nothing.
use Rattle.wording.proofs.+put_number.Given as goal

abbrev pub decreases-put_number : goal.decreases-put_number
decreases-put_number l = l.n
