-- `mark_rows::count_word` meets its contract. Assumes nothing.
use native.Mathlib.Omega.{arith}
use lib.Count.{ones-le}
use Rattle.mark_rows.proofs.Rows.{word_count_lem}
use Rattle.mark_rows.proofs.count_word.Goals as goal

pub overflow_cast-result : goal.overflow_cast-result
overflow_cast-result c = omega (arith, ones-le 64 c.args.word c.ranges.word.fits)

pub returns : goal.returns
returns c = (word_count_lem c.args.word c.ranges.word.fits, ones-le 64 c.args.word c.ranges.word.fits)
