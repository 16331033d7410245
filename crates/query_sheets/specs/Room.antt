-- The words that a question's call is lent. Assumes nothing.
use Rattle.std.specs.Prelude.{List, ℕ, replicate}

-- room for the longest listing, the closure of 256 vertices
abbrev pub room : ℕ
room = 131072

-- that many zeros
unfoldable pub no_words : List ℕ
no_words = replicate room 0
