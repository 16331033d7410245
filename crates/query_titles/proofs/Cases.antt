-- From the case of a question to its title. Assumes nothing.
use mathlib.Core.Path.{◌≡◌, sym, ap, ◌∙◌}
use Rattle.wording.specs.Pages.{Page, write}
use Rattle.commands.specs.declared.Query.{Query}
use Rattle.query_titles.specs.Titles.{title}

-- q is the question k, and the title of k was written
pub as-titled : (x p : Page) (q k : Query) → q ≡ k → x ≡ write (title k) p → x ≡ write (title q) p
as-titled x p q k e h = h ∙ ap (λ (y : Query). write (title y) p) (sym e)
