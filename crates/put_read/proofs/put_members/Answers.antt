-- `put_read::put_members` meets its contract. Assumes nothing.
use Rattle.std.proofs.Common.{refl, rules}
use Rattle.reader.proofs.Words.{numbers-none, numbers_more, numbers-end, member-word}
use Rattle.put_read.proofs.put_members.Goals as goal

pub loop-i-init : goal.loop-i-init
loop-i-init c = (search rules, refl, numbers-none _ _ _ (search rules))

pub put_word-next-requires : goal.put_word-next-requires
put_word-next-requires c = (search rules, search member-word)

pub loop-i-preserved : goal.loop-i-preserved
loop-i-preserved c = (search rules, search rules, search numbers_more)

pub returns : goal.returns
returns c = search numbers-end
