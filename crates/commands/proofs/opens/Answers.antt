-- `commands::opens` meets its contract. Assumes nothing.
use Rattle.commands.proofs.Names.{opens-short, opens-other, opens-whole, opens-on, opens-blank}
use lib.Seq.{length-take-le}
use mathlib.Core.Path.{sym}
use borrow.Author.Rules.{rules}
use Rattle.commands.proofs.opens.Goals as goal

pub returns-then-line-n : goal.returns-then-line-n
returns-then-line-n c = search opens-short

pub slice_bounds-same_bytes-end : goal.slice_bounds-same_bytes-end
slice_bounds-same_bytes-end c = sym (length-take-le _ _ (search rules))

pub returns-then-not-same_bytes : goal.returns-then-not-same_bytes
returns-then-not-same_bytes c = search opens-other

pub returns-then-line-n-2 : goal.returns-then-line-n-2
returns-then-line-n-2 c = search opens-whole

pub returns-then-line-n-ne32 : goal.returns-then-line-n-ne32
returns-then-line-n-ne32 c = search opens-on

pub returns : goal.returns
returns c = search opens-blank
