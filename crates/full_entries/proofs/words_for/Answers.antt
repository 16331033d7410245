-- `full_entries::words_for` meets its contract. Assumes nothing.
use Rattle.lookups.proofs.Full.{words-none, words-some}
use Rattle.full_entries.proofs.words_for.Goals as goal

pub returns-then-count-eq0 : goal.returns-then-count-eq0
returns-then-count-eq0 c = search words-none

pub returns : goal.returns
returns c = search words-some
