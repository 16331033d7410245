-- `state_lines::state_of` meets its contract. Assumes nothing.
use Rattle.state_lines.proofs.Judging.{state-over, state-reviewed, state-released, state-none}
use Rattle.state_lines.proofs.state_of.Goals as goal

pub returns-then-v-gt-LAST : goal.returns-then-v-gt-LAST
returns-then-v-gt-LAST c = search state-over

pub returns-then-is_line : goal.returns-then-is_line
returns-then-is_line c = search state-reviewed

pub returns-then-is_line-2 : goal.returns-then-is_line-2
returns-then-is_line-2 c = search state-released

pub returns : goal.returns
returns c = search state-none
