-- `nestedness::of_size` meets its contract. Assumes nothing.
use Rattle.properties.proofs.Rows.{size-other, size-marked, size-bare}
use Rattle.nestedness.proofs.of_size.Goals as goal

pub returns-then-x-s : goal.returns-then-x-s
returns-then-x-s c = search size-other

pub returns-then-marked : goal.returns-then-marked
returns-then-marked c = search size-marked

pub returns : goal.returns
returns c = search size-bare
