-- What stands in the words that are being read into, and what a pass over the lines of a kind has judged and stored. Assumes nothing.
use Rattle.std.specs.Prelude.{ℕ, ◌+◌, ◌-◌, ◌*◌, ◌≤◌, ◌<◌, ◌≡◌, true, false, cond, List, [], ◌∷◌, ◌++◌, eqb, length, get_or, Ok, Err}
use Rattle.lists.specs.Tests.{every}
use Rattle.lists.specs.Lists.{tab, flat, pad, Ascending}
use Rattle.lists.specs.Inner.{blank}
use Rattle.layout.specs.Answers.{Answer}
use Rattle.layout.specs.declared.Refusal.TheVariants.{BadText}
use Rattle.layout.specs.Layout.{limit, size, vertex_limit, hyperedge_limit, vertex_size, record_size, vertices_at, vertex_word, next_vertex_in, next_hyperedge_in, vertex_count, hyperedge_count, vertex_words, words}
use Rattle.layout.specs.Inner.{vertex_column}
use Rattle.frames.specs.Put.{Put}
use Rattle.frames.specs.Reading.{next_vertex_of, next_hyperedge_of, vertices_due, hyperedges_due, vertex_place, vertex_in, content_of, head_good, vertex_good, accepted, faulty_line}

-- the vertices that stand in the words ascend, below the next number
pub record Live (ws : List ℕ) : Type 0 where
  pub sized : length ws ≡ size limit
  pub some : vertex_count ws ≤ vertex_limit
  pub ascend : Ascending (vertex_column ws)
  pub below : (i : ℕ) → i < vertex_count ws → get_or ws (vertex_word i) 0 < next_vertex_in ws

-- the head is good, and its numbers stand in the words
pub record HeadStored (text ws : List ℕ) : Type 0 where
  pub sized : length ws ≡ size limit
  pub good : head_good text ≡ true
  pub next-vertex : next_vertex_in ws ≡ next_vertex_of text
  pub next-hyperedge : next_hyperedge_in ws ≡ next_hyperedge_of text
  pub vertices : vertex_count ws ≡ vertices_due text
  pub hyperedges : hyperedge_count ws ≡ hyperedges_due text

-- words 0 to 3 of the text's content: the head's numbers
abbrev pub head_words : List ℕ → List ℕ
head_words text = next_vertex_of text ∷ next_hyperedge_of text ∷ vertices_due text ∷ hyperedges_due text ∷ []

-- r vertices are good, one after the other from the first on, and they are stored; at is the place behind them, and the next one
-- that is due is not good
pub record VerticesRead (text before after : List ℕ) (r at : ℕ) : Type 0 where
  pub some : r ≤ vertices_due text
  pub good : every (vertex_good text) r ≡ true
  pub reached : at ≡ vertex_place r
  pub within : at ≤ length text
  pub put : Put vertices_at (r * vertex_size) (flat vertex_words (tab (vertex_in text) r)) before after (vertices_at + r * vertex_size)
  pub stopped : r < vertices_due text → vertex_good text r ≡ false

-- the head's words in words of 0
pub record HeadMade (text ws : List ℕ) : Type 0 where
  pub is : ws ≡ head_words text ++ blank (size limit - vertices_at)

-- the head and every vertex are good, and their words stand in words of 0
pub record VerticesMade (text ws : List ℕ) : Type 0 where
  pub head : head_good text ≡ true
  pub good : every (vertex_good text) (vertices_due text) ≡ true
  pub is : ws ≡ (head_words text ++ pad (vertex_limit * vertex_size) (flat vertex_words (tab (vertex_in text) (vertices_due text)))) ++ blank (hyperedge_limit * record_size limit)

-- the number of the faulty line, or 0 where the text is accepted
unfoldable pub verdict : List ℕ → ℕ
verdict text = cond (accepted text) 0 (faulty_line text)

-- what reading makes of words of 0
pub record TextRead (text after : List ℕ) (r : ℕ) : Type 0 where
  pub sized : length after ≡ size limit
  pub judged : r ≡ verdict text
  pub made : r ≡ 0 → after ≡ words limit (content_of text)

-- the words that were read where no line is faulty, else the lent ones
unfoldable pub stored_read : ℕ → List ℕ → List ℕ → List ℕ
stored_read line ws lent = cond (eqb line 0) ws lent

-- done, or 12 with the faulty line
unfoldable pub answer_of : ℕ → Answer
answer_of line = cond (eqb line 0) (Ok 0) (Err (BadText line))
