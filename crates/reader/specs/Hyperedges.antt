-- What the pass over the hyperedge lines judges and stores. Assumes nothing.
use Rattle.std.specs.Prelude.{◌≡◌, Bool, true, List, ℕ, ◌+◌, ◌*◌, ◌≤◌, length}
use Rattle.lists.specs.Tests.{◌and◌, every}
use Rattle.lists.specs.Lists.{tab, flat}
use Rattle.layout.specs.Content.{live_vertices, members_live}
use Rattle.layout.specs.Layout.{limit, record_size, hyperedges_at, hyperedge_words}
use Rattle.layout.specs.WellFormed.{count_fits}
use Rattle.layout.specs.Inner.{vertex_column}
use Rattle.frames.specs.Frames.{hyperedge_line, hyperedge_length}
use Rattle.frames.specs.Put.{Put}
use Rattle.frames.specs.Reading.{vertices_due, vertex_place, number_in, count_in, hyperedge_place, hyperedge_from, hyperedge_in, hyperedge_good, content_of, stands_at}
use Rattle.reader.specs.Lines.{behind, number_fits}
use Rattle.reader.specs.Passes.{Live, HeadStored}

-- the hyperedge line at p: what the writer gives for it, a number from low to high, a count that fits and every member live
unfoldable pub hyperedge_fits : List ℕ → ℕ → ℕ → ℕ → List ℕ → Bool
hyperedge_fits text p low high live =
    stands_at text p (hyperedge_line (hyperedge_from text p))
    and number_fits (number_in text p) low high
    and count_fits limit (hyperedge_from text p)
    and members_live live (hyperedge_from text p)

-- the head's numbers and every vertex stand in the words, and the text goes on behind the vertex lines
pub record VerticesStored (text ws : List ℕ) : Type 0 where
  pub head : HeadStored text ws
  pub live : Live ws
  pub same : vertex_column ws ≡ live_vertices (content_of text)
  pub within : vertex_place (vertices_due text) ≤ length text

-- the hyperedge line at p was judged with the vertices that stand in the words: r is the place behind it where it fits, and it is
-- stored at `to`; else r is p and no word changed
pub record HyperedgeRead (text : List ℕ) (p low high to : ℕ) (before after : List ℕ) (r : ℕ) : Type 0 where
  pub judged : r ≡ behind (hyperedge_fits text p low high (vertex_column before)) p (hyperedge_length (count_in text p))
  pub kept : r ≡ p → after ≡ before
  pub put : (r ≡ p → ⊥) → Put to (record_size limit) (hyperedge_words limit (hyperedge_from text p)) before after (to + record_size limit)

-- r of the m hyperedges are good, one after the other from the first on, and they are stored; at is the place behind them
pub record HyperedgesRead (text : List ℕ) (m : ℕ) (before after : List ℕ) (r at : ℕ) : Type 0 where
  pub some : r ≤ m
  pub good : every (hyperedge_good text) r ≡ true
  pub reached : at ≡ hyperedge_place text r
  pub within : at ≤ length text
  pub put : Put hyperedges_at (r * record_size limit) (flat (hyperedge_words limit) (tab (hyperedge_in text) r)) before after (hyperedges_at + r * record_size limit)
