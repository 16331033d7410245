-- What the loops of the lookups mark, count and fill in on the way. Assumes nothing.
use Rattle.std.specs.Prelude.{◌≡◌, Bool, false, not, cond, ◌||◌, List, [], ◌∷◌, ℕ, suc, ◌+◌, ◌*◌, ◌-◌, ◌≤◌, ◌<◌, eqb, length, get_or, take, drop, set, replicate, Option, Some, None}
use Rattle.lists.specs.Tests.{◌and◌}
use Rattle.lists.specs.Lists.{any, flat, sum_over}
use Rattle.layout.specs.Content.{Table, Hyperedge}
use Rattle.layout.specs.Layout.{vertex_limit, hyperedge_limit, limit, vertex_at}
use Rattle.marks.specs.Marks.{is_marked}
use Rattle.lookups.specs.declared.Direction.{Direction}
use Rattle.lookups.specs.declared.Direction.TheVariants.{From, To}
use Rattle.lookups.specs.declared.Ends.{Ends}
use Rattle.lookups.specs.declared.Listing.TheVariants.{Connecting}
use Rattle.lookups.specs.Lookups.{oriented, block, weighs}
use Rattle.layout.specs.Steps.{Step}
use Rattle.lookups.specs.declared.Listing.{Listing}

-- ---- marks

-- y passes with some element of the list, or with x
unfoldable pub some_of : {A : Type 0} → (ℕ → A → Bool) → List A → ℕ → Bool
some_of r xs y = any (r y) xs

abbrev pub with : {A : Type 0} → (ℕ → A → Bool) → A → ℕ → Bool
with r x y = r y x

-- member m is y, and is not v
unfoldable pub is_other : ℕ → ℕ → ℕ → Bool
is_other v y m = eqb y m and not (eqb m v)

-- no vertex is marked
unfoldable pub no_marks : List Bool
no_marks = replicate vertex_limit false

-- what was marked still is, and besides every live vertex that passes the test
pub record MarkedBy (live : List ℕ) (p : ℕ → Bool) (old new : List Bool) : Type 0 where
  pub sized : length new ≡ length old
  pub each : (k : ℕ) → k < length live → is_marked new k ≡ (is_marked old k || p (get_or live k 0))

-- of what was marked, every live vertex that passes the test still is
pub record KeptBy (live : List ℕ) (p : ℕ → Bool) (old new : List Bool) : Type 0 where
  pub sized : length new ≡ length old
  pub each : (k : ℕ) → k < length live → is_marked new k ≡ (is_marked old k and p (get_or live k 0))

-- marked are those that were, and that the others mark
pub record Both (others old new : List Bool) : Type 0 where
  pub sized : length new ≡ length old
  pub each : (k : ℕ) → k < vertex_limit → is_marked new k ≡ (is_marked old k and is_marked others k)

-- the mark of each record of a weight
unfoldable pub weighs_at : ℕ → List ℕ → ℕ → Bool
weighs_at w ws k = weighs w (vertex_at ws k)

-- ---- counts by record

-- no listing of hyperedges has more words
abbrev pub listing_most : ℕ
listing_most = hyperedge_limit * suc limit

-- what the hyperedges from record j on list of the steps v to y, or y to v
unfoldable pub listing_ahead : Direction → Table → ℕ → ℕ → ℕ → List ℕ
listing_ahead dir t v j y = flat (block (oriented dir Connecting v y)) (drop j t.hyperedges)

-- nothing is left
abbrev pub nothing : ℕ → List ℕ
nothing y = []

-- one more at the place that a search found
abbrev pub tallying : Option ℕ → List ℕ → List ℕ
tallying (Some k) counts = set counts k (get_or counts k 0 + 1)
tallying None counts = counts

-- of the list of each live vertex, what is not left is counted
pub record Tallied (live : List ℕ) (whole left : ℕ → List ℕ) (counts : List ℕ) : Type 0 where
  pub sized : length counts ≡ vertex_limit
  pub each : (k : ℕ) → k < length live → get_or counts k 0 + length (left (get_or live k 0)) ≡ length (whole (get_or live k 0))

-- ---- a full listing, laid out by the counts

-- the words of a vertex with so many hyperedges, and those before the hyperedges
unfoldable pub words_for : ℕ → ℕ
words_for count = cond (eqb count 0) 0 (count + 2)

unfoldable pub head_for : ℕ → ℕ
head_for count = cond (eqb count 0) 0 2

-- where the words of the vertex in record k start, by the counts
unfoldable pub start : List ℕ → ℕ → ℕ
start counts k = sum_over words_for (take k counts)

-- vertex and count, written at c
unfoldable pub heading : ℕ → ℕ → ℕ → List ℕ → List ℕ
heading c y count out = cond (eqb count 0) out (set (set out c y) (c + 1) count)

-- the words from total on are as they were
pub record Beyond (total : ℕ) (old new : List ℕ) : Type 0 where
  pub same : length new ≡ length old
  pub rest : (p : ℕ) → total ≤ p → get_or new p 0 ≡ get_or old p 0

-- vertex and count of the first n records are written, and the next word of each is the first after them
pub record Headed (live counts old : List ℕ) (n : ℕ) (nexts new : List ℕ) : Type 0 where
  pub sized : length nexts ≡ vertex_limit
  pub each : (k : ℕ) → k < n → get_or nexts k 0 ≡ start counts k + head_for (get_or counts k 0)
  pub named : (k : ℕ) → k < n → 0 < get_or counts k 0 → get_or new (start counts k) 0 ≡ get_or live k 0
  pub counted : (k : ℕ) → k < n → 0 < get_or counts k 0 → get_or new (start counts k + 1) 0 ≡ get_or counts k 0
  pub kept : Beyond (start counts n) old new

-- ---- the full listing, filled in

-- the words of vertex y: none, where its list is empty
unfoldable pub full_words : (ℕ → List ℕ) → ℕ → List ℕ
full_words whole y = cond (eqb (length (whole y)) 0) [] (y ∷ length (whole y) ∷ whole y)

-- where the words of the vertex in record k start, by the lists
unfoldable pub offset : List ℕ → (ℕ → List ℕ) → ℕ → ℕ
offset live whole k = length (flat (full_words whole) (take k live))

-- e written where the word at the found place says
abbrev pub placing : Option ℕ → List ℕ → ℕ → List ℕ → List ℕ
placing (Some k) nexts e out = set out (get_or nexts k 0) e
placing None nexts e out = out

-- the words of each live vertex stand before its next word, and what is left belongs from there on
pub record Filling (live : List ℕ) (whole left : ℕ → List ℕ) (nexts out : List ℕ) : Type 0 where
  pub sized : length nexts ≡ vertex_limit
  pub fits : offset live whole (length live) ≤ length out
  pub low : (k : ℕ) → k < length live → offset live whole k ≤ get_or nexts k 0
  pub room : (k : ℕ) → k < length live → get_or nexts k 0 + length (left (get_or live k 0)) ≡ offset live whole (suc k)
  pub todo : (k : ℕ) → k < length live → drop (get_or nexts k 0 - offset live whole k) (full_words whole (get_or live k 0)) ≡ left (get_or live k 0)
  pub done : (k p : ℕ) → k < length live → offset live whole k ≤ p → p < get_or nexts k 0
      → get_or out p 0 ≡ get_or (full_words whole (get_or live k 0)) (p - offset live whole k) 0

-- near is where the step starts and far where it arrives, or the other way round
abbrev pub ends_of : Direction → Step → Ends
ends_of From s = record { near = s.from; far = s.to }
ends_of To s = record { near = s.to; far = s.from }

-- how many words that is
unfoldable pub block_length : Listing → Hyperedge → ℕ
block_length q e = length (block q e)
