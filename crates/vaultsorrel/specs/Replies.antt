-- What a call over the C interface leaves. Assumes nothing.
use Rattle.std.specs.Prelude.{List, ℕ}
use Rattle.layout.specs.declared.Reply.{Reply}
use Rattle.layout.specs.Answers.{Result}
use Rattle.desk.specs.Desk.{Desk, Outcome}

-- the reply's number and detail, and the words of the lent slice that the call may write
abbrev pub replied : Reply → List ℕ → Result
replied r lent = record { number = r.number; detail = r.detail; lent = lent }

-- the reply's number and detail, and both slices lent to the desk
abbrev pub replied_at : Reply → Desk → Outcome
replied_at r d = record { number = r.number; detail = r.detail; desk = d }
