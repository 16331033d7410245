-- What the code of a run gives. Assumes nothing.
use Rattle.std.specs.Prelude.{List, ℕ}
use Rattle.desk.specs.Desk.{Desk}
use Rattle.wording.specs.Pages.{page}
use Rattle.batches.specs.declared.Ran.{Ran}
use Rattle.batches.specs.Batches.{Said, said, Ended, ended}

-- the status, and the page with the bytes as they stand
abbrev pub said_by : Ran → List ℕ → Said
said_by r bytes = said r.status (page bytes r.length)

-- the same with the desk
abbrev pub ended_by : Ran → Desk → List ℕ → Ended
ended_by r d bytes = ended d (said_by r bytes)
