-- `desk_release::release_live` meets its contract. Assumes nothing.
use Rattle.desk_release.proofs.Released.{released-stays, not-reviewed, released-now}
use Rattle.desk_release.proofs.release_live.Goals as goal

pub returns-then-x-eq-RELEASED : goal.returns-then-x-eq-RELEASED
returns-then-x-eq-RELEASED c = search released-stays

pub returns-then-x-ne-REVIEWED : goal.returns-then-x-ne-REVIEWED
returns-then-x-ne-REVIEWED c = search not-reviewed

pub returns : goal.returns
returns c = search released-now
