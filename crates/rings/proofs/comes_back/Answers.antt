-- `rings::comes_back` meets its contract. Assumes nothing.
use Rattle.rings.proofs.Back.{tested}
use Rattle.rings.proofs.comes_back.Goals as goal

pub returns : goal.returns
returns c = search tested
