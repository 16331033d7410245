-- `desk_release::is_held` meets its contract. Assumes nothing.
use Rattle.desk_release.proofs.Released.{unmarked, marked-held}
use Rattle.desk_release.proofs.is_held.Goals as goal

pub returns-then-not-mark : goal.returns-then-not-mark
returns-then-not-mark c = search unmarked

pub returns : goal.returns
returns c = search marked-held
