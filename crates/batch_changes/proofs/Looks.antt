-- A batch without a change leaves table and states as they are. Assumes nothing.
use mathlib.Core.Path.{◌≡◌, refl, sym, ap, ◌∙◌}
use mathlib.Core.Bool.{Bool, true, false, ◌||◌, true≢false}
use mathlib.Core.List.{List, [], ◌∷◌}
use Prim.Native.Nat.{ℕ, suc}
use Rattle.lists.specs.Lists.{any}
use Rattle.lists.proofs.Cases.{on, or-false-left, or-false-right}
use Rattle.desk.specs.Desk.{Desk}
use Rattle.wording.specs.Pages.{Page, page}
use Rattle.commands.specs.declared.Command.{Command}
use Rattle.commands.specs.declared.Command.TheVariants.{Init, Ask, View, Make, Help, HelpOn, Version, Unknown, NotNumber, WrongCount, TooMany}
use Rattle.commands.specs.Commands.{command_on, numbers_on}
use Rattle.causes.specs.Causes.{is_change}
use Rattle.messages.specs.Messages.{any_change}
use Rattle.command_sheets.specs.declared.Manner.{Manner}
use Rattle.command_sheets.specs.Commanded.{command_told, is_misused}
use Rattle.batches.specs.declared.Ending.TheVariants.{Done}
use Rattle.batches.specs.Batches.{is_done, said, Ended, ended, commanded, line_end, lines_of, carried, kept, all_or_none, has_lengths, run_of}
use Rattle.batch_changes.specs.Changing.{changing, has_change}

-- a command that is no change leaves the desk
told-keeps : (how : Manner) (name : List ℕ) (c : Command) (ns : List ℕ) (d : Desk) (p : Page) → is_change any_change c ≡ false → (command_told how name c ns d p).desk ≡ d
unfolding command_told is_change any_change
told-keeps how name Init ns d p h = refl
told-keeps how name (Ask q) ns d p h = refl
told-keeps how name (View look) ns d p h = refl
told-keeps how name (Make m) ns d p h = absurd (true≢false h)
told-keeps how name Help ns d p h = refl
told-keeps how name (HelpOn k) ns d p h = refl
told-keeps how name Version ns d p h = refl
told-keeps how name Unknown ns d p h = refl
told-keeps how name (NotNumber i) ns d p h = refl
told-keeps how name (WrongCount k) ns d p h = refl
told-keeps how name TooMany ns d p h = refl

-- so does its line
line-keeps : (how : Manner) (name : List ℕ) (i : ℕ) (line : List ℕ) (d : Desk) (p : Page) → changing line ≡ false → (line_end how name i line d p).desk ≡ d
unfolding line_end commanded changing
line-keeps how name i [] d p h = refl
line-keeps how name i (b ∷ bs) d p h =
    on (is_misused how i (command_on (b ∷ bs)))
    (λ q. rw q)
    (λ q. rw q (told-keeps how name (command_on (b ∷ bs)) (numbers_on (b ∷ bs)) d p h))

-- and so do any lines
lines_keep : (how : Manner) (name : List ℕ) (i : ℕ) (lines : List (List ℕ)) (d : Desk) (e : Ended) → any changing lines ≡ false → e.desk ≡ d
    → (carried how name i lines e).desk ≡ d
unfolding carried any
lines_keep how name i [] d e h q = q
lines_keep how name i (line ∷ lines) d e h q =
    on (is_done e.status)
    (λ z.
    rw z
    (lines_keep how name (suc i) lines d (line_end how name i line e.desk e.page) (or-false-right (changing line) (any changing lines) h)
    (line-keeps how name i line e.desk e.page (or-false-left (changing line) (any changing lines) h) ∙ q)))
    (λ z. rw z q)

-- the run of a batch without a change leaves the desk
pub looks-keep : (how : Manner) (name batch : List ℕ) (d : Desk) (bytes : List ℕ) → has_change batch ≡ false → (run_of how name batch d bytes).desk ≡ d
unfolding run_of has_change all_or_none kept
looks-keep how name batch d bytes h =
    let e : Ended = carried how name 1 (lines_of batch) (ended d (said Done (page bytes 0))) in
    let same : e.desk ≡ d = lines_keep how name 1 (lines_of batch) d (ended d (said Done (page bytes 0))) h refl in
    on (has_lengths batch d) (λ q. rw q (on (is_done e.status) (λ z. rw z same) (λ z. rw z))) (λ q. rw q)
