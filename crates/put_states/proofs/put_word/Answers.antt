-- `put_states::put_word` meets its contract. Assumes nothing.
use Rattle.put_states.proofs.Putting.{word-released, word-reviewed}
use Rattle.put_states.proofs.put_word.Goals as goal

pub returns-then-x-eq-RELEASED : goal.returns-then-x-eq-RELEASED
returns-then-x-eq-RELEASED c = search word-released

pub returns : goal.returns
returns c = search word-reviewed
