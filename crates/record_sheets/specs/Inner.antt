-- What inner functions are stated with. Assumes nothing.
use Rattle.std.specs.Prelude.{Bool, cond, List, [], ℕ}

-- the line of what passes a test, and nothing for what does not
unfoldable pub line_where : {A : Type 0} → (A → Bool) → (A → List ℕ) → A → List ℕ
line_where p line x = cond (p x) (line x) []
