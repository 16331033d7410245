-- Every member is live, said of one record's words. Assumes nothing.
use Rattle.std.specs.Prelude.{Bool, List, ℕ}
use Rattle.lists.specs.Lists.{all, is_below}
use Rattle.layout.specs.Content.{members_live}
use Rattle.layout.specs.Layout.{members_at, hyperedge_at}

-- every member of hyperedge record j is live
unfoldable pub record_live : ℕ → List ℕ → List ℕ → ℕ → Bool
record_live L live ws j = members_live live (hyperedge_at L ws j)

-- the same where the live numbers are those below n
unfoldable pub record_below : ℕ → ℕ → List ℕ → ℕ → Bool
record_below L n ws j = all (is_below n) (members_at L ws j)
