-- `state_lines::judge` meets its contract. Assumes nothing.
use Rattle.state_lines.proofs.Judging.{judged-low, judged}
use Rattle.state_lines.proofs.judge.Goals as goal

pub returns-then-v-low : goal.returns-then-v-low
returns-then-v-low c = search judged-low

pub returns : goal.returns
returns c = search judged
