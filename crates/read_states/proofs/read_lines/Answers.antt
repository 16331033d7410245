-- `read_states::read_lines` meets its contract. Assumes nothing.
use Rattle.state_lines.proofs.Judging.{judged-word}
use Rattle.read_states.proofs.Noted.{noting-first, noting-length, lines-bad, noting-more, lines_end}
use borrow.Author.Rules.{rules}
use Rattle.read_states.proofs.read_lines.Goals as goal

pub loop-p-init : goal.loop-p-init
loop-p-init c = search noting-first

pub shape_of-ss-then-x-eq-WAITING : goal.shape_of-ss-then-x-eq-WAITING
shape_of-ss-then-x-eq-WAITING c = search noting-length

pub returns-then-x-eq-WAITING : goal.returns-then-x-eq-WAITING
returns-then-x-eq-WAITING c = search lines-bad

pub note-requires : goal.note-requires
note-requires c = record { formed = search rules; v_bound = (search judged-word, search rules) }

pub loop-p-preserved : goal.loop-p-preserved
loop-p-preserved c = search noting-more

pub shape_of-ss : goal.shape_of-ss
shape_of-ss c = search noting-length

pub returns : goal.returns
returns c = search lines_end
