-- Records written anew in place, one after the other. Assumes nothing.
use Rattle.std.specs.Prelude.{◌≡◌, List, ◌++◌, ℕ, ◌+◌, ◌*◌, ◌≤◌, length, take, drop}
use Rattle.lists.specs.Lists.{flat}
use Rattle.layout.specs.Content.{Hyperedge}
use Rattle.layout.specs.Layout.{record_size, hyperedges_at, hyperedge_words}

-- after j records of ws, each of r words, the first at a: xs, k of them, stand in s from a on, and record j and what is behind it are as they were
pub record Relaid {A : Type 0} (f : A → List ℕ) (a r : ℕ) (ws : List ℕ) (xs : List A) (j k : ℕ) (s : List ℕ) : Type 0 where
  pub same : length s ≡ length ws
  pub behind : k ≤ j
  pub count : k ≡ length xs
  pub front : take (a + k * r) s ≡ take a ws ++ flat f xs
  pub ahead : drop (a + j * r) s ≡ drop (a + j * r) ws

-- the same of hyperedge records
abbrev pub Rewritten : ℕ → List ℕ → List Hyperedge → ℕ → ℕ → List ℕ → Type 0
Rewritten L ws es j k s = Relaid (hyperedge_words L) hyperedges_at (record_size L) ws es j k s
