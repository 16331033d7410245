-- `inclusions::pair_length` meets its contract. Assumes nothing.
use Rattle.properties.proofs.Pairs.{pair-none, pair-two}
use Rattle.inclusions.proofs.pair_length.Goals as goal

pub returns-then-not-strictly_within : goal.returns-then-not-strictly_within
returns-then-not-strictly_within c = search pair-none

pub returns : goal.returns
returns c = search pair-two
