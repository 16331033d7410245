-- From the case of a question to what is asked. Assumes nothing.
use mathlib.Core.Path.{◌≡◌, sym, ap, ◌∙◌}
use mathlib.Core.List.{List}
use Prim.Native.Nat.{ℕ}
use Rattle.layout.specs.Answers.{Result}
use Rattle.commands.specs.declared.Query.{Query}
use Rattle.asking.specs.Asking.{asked}

-- q is the question k, and x is what k asks
pub as-asked : (ws lent : List ℕ) (x : Result) (q k : Query) → q ≡ k → x ≡ asked k ws lent → x ≡ asked q ws lent
as-asked ws lent x q k e p = p ∙ ap (λ (y : Query). asked y ws lent) (sym e)
