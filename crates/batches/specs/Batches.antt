-- Commands carried out, one line after the other, all or none. Assumes nothing.
use Rattle.std.specs.Prelude.{Bool, true, false, cond, List, [], ◌∷◌, ℕ, suc, eqb, ltb, length, take, Err}
use Rattle.lists.specs.Tests.{◌and◌}
use Rattle.layout.specs.declared.Refusal.TheVariants.{NoRoom}
use Rattle.layout.specs.Layout.{limit, size, vertex_limit}
use Rattle.layout.specs.Answers.{Result, result_of, on_formed}
use Rattle.desk.specs.Desk.{Desk}
use Rattle.desk.specs.States.{all_waiting}
use Rattle.wording.specs.Pages.{Page, page, write}
use Rattle.text_lines.specs.Lines.{line_feed}
use Rattle.commands.specs.declared.Command.{Command}
use Rattle.commands.specs.Commands.{command_on, numbers_on}
use Rattle.changes.specs.Changes.{Told}
use Rattle.messages.specs.Messages.{refusal_text}
use Rattle.misuses.specs.Misuses.{misuse_text}
use Rattle.closed_walk.specs.Named.{closed_walk_result}
use Rattle.command_sheets.specs.declared.Manner.{Manner}
use Rattle.command_sheets.specs.Commanded.{list_in, command_told, is_misused}
use Rattle.batches.specs.declared.Ending.{Ending}
use Rattle.batches.specs.declared.Ending.TheVariants.{Done, Refused, Misused}

-- ---- what is said: done, refused or misused, and the page

abbrev pub is_done : Ending → Bool
is_done Done = true
is_done Refused = false
is_done Misused = false

-- the exit status of rules 19.10
abbrev pub exit_status : Ending → ℕ
exit_status Done = 0
exit_status Refused = 1
exit_status Misused = 2

pub record Said : Type 0 where
  pub status : Ending
  pub page : Page

abbrev pub said : Ending → Page → Said
said status page = record { status = status; page = page }

-- a message stands alone on the page
abbrev pub anew : List ℕ → List ℕ → Page
anew message bytes = write message (page bytes 0)

-- the words that `closed_walk` writes of the table, where the sort met 9
unfoldable pub walk_on : ℕ → List ℕ → List ℕ → List ℕ
walk_on number ws lent =
    let walk = on_formed ws lent (closed_walk_result lent) in
    cond (eqb number 9) (take walk.detail walk.lent) []

abbrev pub walk_named : ℕ → List ℕ → List ℕ
walk_named number ws = walk_on number ws all_waiting

-- the message of a refusal; ws is the table
unfoldable pub refused : Manner → List ℕ → ℕ → Command → List ℕ → List ℕ → Result → Said
refused how name i c ns ws x =
    said Refused (anew (refusal_text how.single i c (list_in c ns) name (walk_named x.number ws) x.number x.detail) x.lent)

-- no room for the whole sheet: 11
abbrev pub unroomed : List ℕ → Result
unroomed bytes = result_of (Err (NoRoom 0)) bytes

-- done, or refused; a page that is full had no room for the whole sheet
unfoldable pub settled : Manner → List ℕ → ℕ → Command → List ℕ → List ℕ → Result → Said
settled how name i c ns ws x =
    cond (eqb x.number 0)
    (cond (ltb x.detail (length x.lent)) (said Done (page x.lent x.detail)) (refused how name i c ns ws (unroomed x.lent)))
    (refused how name i c ns ws x)

-- ---- one line, the i-th, on a desk

-- what the lines so far end with
pub record Ended : Type 0 where
  pub status : Ending
  pub desk : Desk
  pub page : Page

abbrev pub ended : Desk → Said → Ended
ended d x = record { status = x.status; desk = d; page = x.page }

-- the answer and the page of what was told
abbrev pub answered : Told → Result
answered x = record { number = x.number; detail = x.detail; lent = x.lent }

-- the line says the command c with the numbers ns
unfoldable pub commanded : Manner → List ℕ → ℕ → List ℕ → Command → List ℕ → Desk → Page → Ended
commanded how name i line c ns d p =
    let x = command_told how name c ns d p in
    cond (is_misused how i c)
    (ended d (said Misused (anew (misuse_text how.single i c line) p.bytes)))
    (ended x.desk (settled how name i c ns x.desk.table (answered x)))

-- an empty line is passed over
unfoldable pub line_end : Manner → List ℕ → ℕ → List ℕ → Desk → Page → Ended
line_end how name i [] d p = ended d (said Done p)
line_end how name i (b ∷ bs) d p = commanded how name i (b ∷ bs) (command_on (b ∷ bs)) (numbers_on (b ∷ bs)) d p

-- ---- all lines

-- a byte before the first of the lines
unfoldable pub before : ℕ → List (List ℕ) → List (List ℕ)
before b [] = (b ∷ []) ∷ []
before b (line ∷ lines) = (b ∷ line) ∷ lines

-- the lines of a text, without their line feeds; the last may lack its own
unfoldable pub lines_of : List ℕ → List (List ℕ)
lines_of [] = []
lines_of (b ∷ bs) = cond (eqb b line_feed) ([] ∷ lines_of bs) (before b (lines_of bs))

-- each line in turn, from the i-th on, up to the first that is not done
unfoldable pub carried : Manner → List ℕ → ℕ → List (List ℕ) → Ended → Ended
carried how name i [] e = e
carried how name i (line ∷ lines) e =
    cond (is_done e.status) (carried how name (suc i) lines (line_end how name i line e.desk e.page)) e

-- all or none: unless every line is done the desk is as it was
unfoldable pub kept : Ending → Desk → Desk → Desk
kept status new old = cond (is_done status) new old

unfoldable pub all_or_none : Desk → Ended → Ended
all_or_none d e = ended (kept e.status e.desk d) (said e.status e.page)

-- table and states have their lengths, and the batch has fewer than 4,294,967,295 bytes
unfoldable pub has_lengths : List ℕ → Desk → Bool
has_lengths batch d =
    eqb (length d.table) (size limit) and eqb (length d.states) vertex_limit and ltb (length batch) 4294967295

-- the run of a batch on a desk, on a page from its front on; where a length is another it is misused, and writes nothing
unfoldable pub run_of : Manner → List ℕ → List ℕ → Desk → List ℕ → Ended
run_of how name batch d bytes =
    cond (has_lengths batch d)
    (all_or_none d (carried how name 1 (lines_of batch) (ended d (said Done (page bytes 0)))))
    (ended d (said Misused (page bytes 0)))
