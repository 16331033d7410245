-- What a line asks for, by what was read of it. Assumes nothing.
use Rattle.std.specs.Prelude.{◌≡◌, cond, List, ℕ, eqb, ltb, length, take, Option}
use Rattle.lists.specs.Lists.{word_at, over}
use Rattle.commands.specs.declared.Command.{Command}
use Rattle.commands.specs.declared.Command.TheVariants.{NotNumber, WrongCount, TooMany}
use Rattle.commands.specs.declared.Parsed.{Parsed}
use Rattle.commands.specs.Words.{leading}
use Rattle.commands.specs.Commands.{most_numbers, form_at, words_by, takes, command_by}
use Rattle.command_words.specs.declared.Scanned.{Scanned}

-- what command k asks for by what was read: the place of a word that is no number, too many numbers, a wrong count, or what its numbers make
unfoldable pub judged_by : ℕ → Scanned → List ℕ → Command
judged_by k s numbers =
    let ns = take s.seen numbers in
    cond (eqb s.fault 0)
    (cond (ltb most_numbers s.seen) TooMany (cond (takes k s.seen) ((form_at k).asks (word_at ns 0) (word_at ns 1) (word_at ns 2)) (WrongCount k)))
    (NotNumber s.fault)

-- a line was read whose name is f
pub record ParsingAs (f : Option ℕ) (line lent : List ℕ) (r : Parsed) (exit : List ℕ) : Type 0 where
  pub command : r.command ≡ command_by line f
  pub count : r.count ≡ length (take most_numbers (leading (words_by line f)))
  pub numbers : exit ≡ over (take most_numbers (leading (words_by line f))) lent
