-- Why a command was refused. Assumes nothing.
use Rattle.std.specs.Prelude.{Bool, true, false, cond, List, [], ◌∷◌, ◌++◌, ℕ, suc, ◌/◌, ◌%◌, eqb, length}
use Rattle.lists.specs.Lists.{word_at}
use Rattle.wording.specs.Texts.{text}
use Rattle.wording.specs.Forms.{filled, joined}
use Rattle.text_lines.specs.Lines.{line_at}
use Rattle.commands.specs.declared.Command.{Command}
use Rattle.commands.specs.declared.Command.TheVariants.{Init, Ask, View, Make, Help, HelpOn, Version, Unknown, NotNumber, WrongCount, TooMany}
use Rattle.commands.specs.declared.Change.{Change}
use Rattle.commands.specs.declared.Change.TheVariants.{Tube, Transfer, Relist, WithdrawTubes, WithdrawTransfers, Merge, Review, Release}

-- a line for each answer number from 0 on, then the lines of a transfer in a tray and of an order that stops short.
-- K is the detail, C the handed-in number at that place, D the place counted from 1, U the file
unfoldable pub causes : List ℕ
causes = text "done\nthe table is not well formed (1)\na transfer wants at least one tube (2)\ntube K is not in U (3)\ntransfer K is not in U (4)\ntransfer K has this list already (5)\na list of K tubes is too long (6)\nU has no room for one more (7)\nU has given out its last number (8)\nno order (9)\nfewer than two transfers (10)\nthe sheet is too long (11)\nU line K is faulty (12)\ntube K can't be merged into itself (13)\ntransfer K lists the two tubes side by side (14)\ntube C, place D of the tray, is not in U (15)\n(16)\ntube K is not reviewed (17)\nupstream tube K is not released (18)\nthe order fails at place D, tube C (19)\ntube K stands twice in a row (20)\ntransfer C, place D of the tray, is not in U (15)\nthe order stops short after K tubes (19)\n"

-- a number in two words
abbrev pub halves : ℕ → List ℕ → List ℕ
halves n ns = n % 4294967296 ∷ n / 4294967296 ∷ ns

-- the numbers that a cause can name: the detail, the handed-in number at that place, the place counted from 1
unfoldable pub named : ℕ → List ℕ → List ℕ
named detail list = halves detail (word_at list detail ∷ suc detail % 4294967296 ∷ [])

-- line k of the causes, filled in
unfoldable pub cause : ℕ → ℕ → List ℕ → List ℕ → List ℕ
cause k detail list name = filled (line_at k causes) (named detail list) name

-- the command is a change that passes the test
unfoldable pub is_change : (Change → Bool) → Command → Bool
is_change p (Make m) = p m
is_change p Init = false
is_change p (Ask q) = false
is_change p (View l) = false
is_change p Help = false
is_change p (HelpOn k) = false
is_change p Version = false
is_change p Unknown = false
is_change p (NotNumber i) = false
is_change p (WrongCount k) = false
is_change p TooMany = false

-- a tray of transfers
unfoldable pub transfer_tray : Change → Bool
transfer_tray WithdrawTransfers = true
transfer_tray (Tube w) = false
transfer_tray (Transfer w) = false
transfer_tray (Relist e) = false
transfer_tray WithdrawTubes = false
transfer_tray (Merge v w) = false
transfer_tray (Review v) = false
transfer_tray Release = false

-- the line of a refusal among the causes
unfoldable pub cause_number : Command → ℕ → ℕ → ℕ → ℕ
cause_number c count number detail =
    cond (eqb number 15) (cond (is_change transfer_tray c) 21 15) (cond (eqb number 19) (cond (eqb detail count) 22 19) number)

-- a closed walk: tubes that lead back to the first
unfoldable pub walk_text : List ℕ → List ℕ
walk_text [] = []
walk_text (v ∷ []) = filled (text ": tube A leads back to itself") (v ∷ []) []
walk_text (v ∷ w ∷ vs) = text ": tubes " ++ (joined (v ∷ w ∷ vs) ++ filled (text " lead back to A") (v ∷ w ∷ vs) [])

-- why there is no order
unfoldable pub no_order : List ℕ → List ℕ
no_order walk = text "no order" ++ (walk_text walk ++ text " (9)")

-- why the command was refused
unfoldable pub cause_text : Command → List ℕ → List ℕ → List ℕ → ℕ → ℕ → List ℕ
cause_text c list name walk number detail =
    cond (eqb number 9) (no_order walk) (cause (cause_number c (length list) number detail) detail list name)
