-- `lookups::ends_at` meets its contract. Assumes nothing.
use Rattle.lookups.proofs.Places.{ends-from, ends-to}
use Rattle.lookups.proofs.ends_at.Goals as goal

pub returns-in-From : goal.returns-in-From
returns-in-From c = search ends-from

pub returns-in-To : goal.returns-in-To
returns-in-To c = search ends-to
