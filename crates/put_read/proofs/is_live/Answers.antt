-- `put_read::is_live` meets its contract. Assumes nothing.
use mathlib.Core.Path.{◌∙◌}
use Rattle.find.proofs.Missing.{searched}
use Rattle.reader.proofs.Live.{live-dense, live-ascends, live-near, live-column}
use Rattle.std.proofs.Common.{rules}
use Rattle.put_read.proofs.is_live.Goals as goal

pub returns-then-wide_word-n : goal.returns-then-wide_word-n
returns-then-wide_word-n c = search live-dense

pub returns-then-wide_word-x : goal.returns-then-wide_word-x
returns-then-wide_word-x c = search live-near

pub find_number-requires : goal.find_number-requires
find_number-requires c = record { step_in_bounds = search rules; step_nonzero = search rules; ascending = search live-ascends }

pub returns : goal.returns
returns c = c.is_some.ensures ∙ searched _ _ _ c.find_number.ensures ∙ live-column _ _ c.requires.live c.vertex_count-n.ensures _
