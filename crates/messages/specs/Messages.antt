-- What is said of a command that was refused, and of a file that has a faulty line. Assumes nothing.
use Rattle.std.specs.Prelude.{Bool, true, false, cond, List, [], ◌∷◌, ◌++◌, ℕ}
use Rattle.wording.specs.Texts.{text}
use Rattle.wording.specs.Forms.{filled}
use Rattle.commands.specs.declared.Command.{Command}
use Rattle.commands.specs.declared.Change.{Change}
use Rattle.causes.specs.Causes.{cause, is_change, cause_text}

-- ---- how a message begins and ends

-- the program; in a batch, the line too
unfoldable pub opening : Bool → ℕ → List ℕ
opening true line = text "vaultsorrel: "
opening false line = filled (text "vaultsorrel: line A: ") (line ∷ []) []

-- that nothing was changed, where something could have been
unfoldable pub ending : Bool → List ℕ
ending true = text "; nothing was changed\n"
ending false = text "\n"

-- ---- refusals

-- the test that every change passes
unfoldable pub any_change : Change → Bool
any_change m = true

-- a change, and any line of a batch, could have changed something
unfoldable pub could_change : Bool → Command → Bool
could_change single c = cond single (is_change any_change c) true

-- what is said of a command that was refused with an answer's number and detail
unfoldable pub refusal_text : Bool → ℕ → Command → List ℕ → List ℕ → List ℕ → ℕ → ℕ → List ℕ
refusal_text single line c list name walk number detail =
    opening single line ++ (cause_text c list name walk number detail ++ ending (could_change single c))

-- ---- a file that has a faulty line

-- that the line ends in CR LF, where it does
unfoldable pub fault_ending : Bool → List ℕ
fault_ending true = text ": it ends in CR LF\n"
fault_ending false = text "\n"

-- the line is counted from 1
unfoldable pub faulty_text : List ℕ → ℕ → Bool → List ℕ
faulty_text name line crlf = opening true 0 ++ (cause 12 line [] name ++ fault_ending crlf)
