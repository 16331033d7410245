-- `choices::place` meets its contract: a live vertex is found. Assumes nothing.
use Rattle.steps.proofs.Members.{place-of}
use Rattle.choices.proofs.place.Goals as goal

pub returns : goal.returns
returns c = search place-of
