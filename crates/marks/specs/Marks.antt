-- One mark for each vertex record, and the numbers of the records that are marked. Assumes nothing.
use Rattle.std.specs.Prelude.{Bool, true, false, List, map, ℕ, length, get_or, set, Option, Some, None}
use Rattle.lists.specs.Tests.{chosen}
use Rattle.lists.specs.Lists.{word_at}

-- record k has a mark
abbrev pub is_marked : List Bool → ℕ → Bool
is_marked marks k = get_or marks k false

-- one mark more: at the place that a search found
abbrev pub marking : Option ℕ → List Bool → List Bool
marking (Some i) marks = set marks i true
marking None marks = marks

-- the numbers of the marked records, in the records' order
unfoldable pub marked : List Bool → List ℕ → List ℕ
marked marks numbers = map (word_at numbers) (chosen (is_marked marks) (length numbers))
