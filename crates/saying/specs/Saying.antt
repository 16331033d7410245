-- What a call that writes on a page answers and leaves. Assumes nothing.
use Rattle.std.specs.Prelude.{cond, List, ℕ, eqb, take}
use Rattle.layout.specs.Answers.{Result}
use Rattle.wording.specs.Pages.{Page, write}

-- done: the detail is the place of the next byte
abbrev pub paged : Page → Result
paged p = record { number = 0; detail = p.next; lent = p.bytes }

-- refused as the call below was, and nothing is written
abbrev pub unwritten : Result → Page → Result
unwritten q p = record { number = q.number; detail = q.detail; lent = p.bytes }

-- what f makes of the words that a listing wrote, or the listing's refusal
unfoldable pub sheet_on : Result → (List ℕ → List ℕ) → Page → Result
sheet_on q f p = cond (eqb q.number 0) (paged (write (f (take q.detail q.lent)) p)) (unwritten q p)

-- the same of a call that answers with a number alone
unfoldable pub word_on : Result → (ℕ → List ℕ) → Page → Result
word_on q f p = cond (eqb q.number 0) (paged (write (f q.detail) p)) (unwritten q p)
