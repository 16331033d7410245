-- `read_frames::read_rest` meets its contract. Assumes nothing.
use Rattle.reader.proofs.Texts.{text-hyperedge-bad, text-runs-on, text-good}
use Rattle.read_frames.proofs.read_rest.Goals as goal

pub returns-then-walked-m : goal.returns-then-walked-m
returns-then-walked-m c = search text-hyperedge-bad

pub returns-then-walked-text : goal.returns-then-walked-text
returns-then-walked-text c = search text-runs-on

pub returns : goal.returns
returns c = search text-good
