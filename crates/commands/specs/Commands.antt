-- What a line of commands asks for: the table of commands, the command of a line and its numbers. Assumes nothing.
use Rattle.std.specs.Prelude.{◌≡◌, Bool, cond, ◌||◌, List, [], ◌∷◌, map, ℕ, suc, eqb, ltb, leb, length, get_or, take, drop, Option, Some, None}
use Prim.Native.String.{String}
use Rattle.lists.specs.Tests.{◌and◌}
use Rattle.lists.specs.Lists.{all, same_list, word_at, over}
use Rattle.layout.specs.declared.VertexIndex.{VertexIndex}
use Rattle.layout.specs.declared.HyperedgeIndex.{HyperedgeIndex}
use Rattle.edits.specs.Results.{first_passing}
use Rattle.wording.specs.Texts.{text}
use Rattle.commands.specs.declared.Query.TheVariants.{Sort, Costs, Upstream, Downstream, Next, Before, Components, Strong, Closure, Cut, Orphans, Endpoints, FindTube, FindTransfer, Walk}
use Rattle.commands.specs.declared.Look.TheVariants.{Check, Show, ShowTube, ShowTransfer, Path as PathOf, States, Order}
use Rattle.commands.specs.declared.Change.TheVariants.{Tube, Transfer, Relist, WithdrawTubes, WithdrawTransfers, Merge, Review, Release}
use Rattle.commands.specs.declared.Command.{Command}
use Rattle.commands.specs.declared.Command.TheVariants.{Init, Ask, View, Make, Help, HelpOn, Version, Unknown, NotNumber, WrongCount, TooMany}
use Rattle.commands.specs.declared.Parsed.{Parsed}
use Rattle.commands.specs.Words.{blank, words_behind, is_number, leading}

-- ---- the table of commands

-- a command: its name, the least and the largest count of numbers that it takes, and what it asks for, by its first three numbers
pub record Form : Type 0 where
  pub name : List ℕ
  pub least : ℕ
  pub most : ℕ
  pub asks : ℕ → ℕ → ℕ → Command

abbrev pub form : String → ℕ → ℕ → (ℕ → ℕ → ℕ → Command) → Form
form name least most asks = record { name = text name; least = least; most = most; asks = asks }

-- as many numbers as a line may have
abbrev pub most_numbers : ℕ
most_numbers = 1024

abbrev pub tube : ℕ → VertexIndex
tube a = record { 0 = a }

abbrev pub transfer : ℕ → HyperedgeIndex
transfer a = record { 0 = a }

-- the commands; a command's number is its place in this list
unfoldable pub forms : List Form
forms =
    form "init" 0 0 (λ a b c. Init)
    ∷ form "check" 0 0 (λ a b c. View Check)
    ∷ form "show tube" 1 1 (λ a b c. View (ShowTube (tube a)))
    ∷ form "show transfer" 1 1 (λ a b c. View (ShowTransfer (transfer a)))
    ∷ form "show" 0 0 (λ a b c. View Show)
    ∷ form "tube" 1 1 (λ a b c. Make (Tube a))
    ∷ form "transfer" 1 most_numbers (λ a b c. Make (Transfer a))
    ∷ form "relist" 1 most_numbers (λ a b c. Make (Relist (transfer a)))
    ∷ form "withdraw tube" 1 most_numbers (λ a b c. Make WithdrawTubes)
    ∷ form "withdraw transfer" 1 most_numbers (λ a b c. Make WithdrawTransfers)
    ∷ form "merge" 2 2 (λ a b c. Make (Merge (tube a) (tube b)))
    ∷ form "sort" 0 0 (λ a b c. Ask Sort)
    ∷ form "path" 2 2 (λ a b c. View (PathOf (tube a) (tube b)))
    ∷ form "costs" 1 1 (λ a b c. Ask (Costs (tube a)))
    ∷ form "upstream" 1 1 (λ a b c. Ask (Upstream (tube a)))
    ∷ form "downstream" 1 1 (λ a b c. Ask (Downstream (tube a)))
    ∷ form "next" 1 1 (λ a b c. Ask (Next (tube a)))
    ∷ form "before" 1 1 (λ a b c. Ask (Before (tube a)))
    ∷ form "components" 0 0 (λ a b c. Ask Components)
    ∷ form "strong" 0 0 (λ a b c. Ask Strong)
    ∷ form "closure" 0 0 (λ a b c. Ask Closure)
    ∷ form "cut" 0 0 (λ a b c. Ask Cut)
    ∷ form "orphans" 0 0 (λ a b c. Ask Orphans)
    ∷ form "endpoints" 0 0 (λ a b c. Ask Endpoints)
    ∷ form "find tube" 1 1 (λ a b c. Ask (FindTube a))
    ∷ form "find transfer" 1 1 (λ a b c. Ask (FindTransfer a))
    ∷ form "walk" 3 3 (λ a b c. Ask (Walk (tube a) b c))
    ∷ form "review" 1 1 (λ a b c. Make (Review (tube a)))
    ∷ form "release" 1 most_numbers (λ a b c. Make Release)
    ∷ form "order" 0 most_numbers (λ a b c. View Order)
    ∷ form "states" 0 0 (λ a b c. View States)
    ∷ form "help" 0 0 (λ a b c. Help)
    ∷ form "version" 0 0 (λ a b c. Version)
    ∷ []

-- how many there are, and the number of help
abbrev pub command_count : ℕ
command_count = 33

abbrev pub help_number : ℕ
help_number = 31

-- the names, in the same order
unfoldable pub names : List (List ℕ)
names = map (λ f. f.name) forms

-- command k; past the last one there is nothing that is asked for
unfoldable pub form_at : ℕ → Form
form_at k = get_or forms k (form "" 0 0 (λ a b c. Unknown))

unfoldable pub name_at : ℕ → List ℕ
name_at k = (form_at k).name

-- ---- the name of a line

-- the line ends at place n, or has a blank there
unfoldable pub ends_at : List ℕ → ℕ → Bool
ends_at line n = leb (length line) n || eqb (word_at line n) blank

-- the line begins with the bytes of the name, and then ends or has a blank
unfoldable pub opens_with : List ℕ → List ℕ → Bool
opens_with line name = same_list (take (length name) line) name and ends_at line (length name)

-- the number of the line's command: the first of the names that it opens with
unfoldable pub named : List ℕ → Option ℕ
named line = first_passing (opens_with line) names

-- what follows the name of command k
unfoldable pub behind_name : ℕ → List ℕ → List ℕ
behind_name k line = drop (length (name_at k)) line

-- ---- the numbers of a line

-- the words behind the line's name; a line with no name has none
unfoldable pub words_by : List ℕ → Option ℕ → List (List ℕ)
words_by line None = []
words_by line (Some k) = words_behind (behind_name k line)

-- the numbers before the first word that is none, as many as a line may have
unfoldable pub numbers_on : List ℕ → List ℕ
numbers_on line = take most_numbers (leading (words_by line (named line)))

-- ---- the command of a line

-- command k takes so many numbers
unfoldable pub takes : ℕ → ℕ → Bool
takes k n = leb (form_at k).least n and leb n (form_at k).most

-- what command k asks for with its numbers; else too many numbers, then a wrong count
unfoldable pub asked : ℕ → List ℕ → Command
asked k ns =
    cond (ltb most_numbers (length ns)) TooMany
    (cond (takes k (length ns)) ((form_at k).asks (word_at ns 0) (word_at ns 1) (word_at ns 2)) (WrongCount k))

-- the same of its words; before the other faults, the place of the first word that is no number, from 1
unfoldable pub asked_by : ℕ → List (List ℕ) → Command
asked_by k ws = cond (all is_number ws) (asked k (leading ws)) (NotNumber (suc (length (leading ws))))

unfoldable pub help_by : Option ℕ → Command
help_by None = Unknown
help_by (Some k) = HelpOn k

-- help alone, or on the name that follows it; anything else is no command
unfoldable pub help_on : List ℕ → Command
help_on [] = Help
help_on (c ∷ cs) = help_by (first_passing (same_list cs) names)

-- a line with no name is no command; help is followed by a name, every other command by numbers
unfoldable pub command_by : List ℕ → Option ℕ → Command
command_by line None = Unknown
command_by line (Some k) = cond (eqb k help_number) (help_on (behind_name k line)) (asked_by k (words_behind (behind_name k line)))

-- the command of a line. Of several faults the first in this order is told: a word that is no number, too many numbers, a wrong count
unfoldable pub command_on : List ℕ → Command
command_on line = command_by line (named line)

-- a line was read: its command, the count of its numbers, and the numbers written from the front of what was lent
pub record Parsing (line lent : List ℕ) (r : Parsed) (exit : List ℕ) : Type 0 where
  pub command : r.command ≡ command_on line
  pub count : r.count ≡ length (numbers_on line)
  pub numbers : exit ≡ over (numbers_on line) lent
