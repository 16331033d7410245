-- What is asked of the answer for a pair and of a yes or no. Assumes nothing.
use Rattle.std.specs.Prelude.{Bool, eqb, ltb}
use Rattle.lists.specs.Tests.{◌and◌}
use Rattle.lists.specs.Lists.{word_at}
use Rattle.layout.specs.Answers.{Result}

-- the answer for a pair has entries: the word that counts them, the third, is not 0
unfoldable pub has_entries : Result → Bool
has_entries r = ltb 0 (word_at r.lent 2)

-- the call is done and answers yes
unfoldable pub says_yes : Result → Bool
says_yes r = eqb r.number 0 and eqb r.detail 1
