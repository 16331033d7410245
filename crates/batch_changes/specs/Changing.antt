-- Whether a batch can change anything. Assumes nothing.
use Rattle.std.specs.Prelude.{Bool, List, ℕ}
use Rattle.lists.specs.Lists.{any}
use Rattle.commands.specs.Commands.{command_on}
use Rattle.causes.specs.Causes.{is_change}
use Rattle.messages.specs.Messages.{any_change}
use Rattle.batches.specs.Batches.{lines_of}

-- the line's command is a change
unfoldable pub changing : List ℕ → Bool
changing line = is_change any_change (command_on line)

-- some line's is
unfoldable pub has_change : List ℕ → Bool
has_change batch = any changing (lines_of batch)
