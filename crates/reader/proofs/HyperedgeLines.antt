-- The hyperedge lines: what a pass over them has judged and stored. Assumes nothing.
use mathlib.Core.Path.{◌≡◌, refl, sym, ap, ◌∙◌}
use mathlib.Core.Bool.{Bool, true, false, not}
use mathlib.Core.List.{List}
use Prim.Native.Nat.{ℕ, ◌+◌, ◌*◌, ◌-◌, ◌≤◌, ◌<◌}
use native.Mathlib.Numerals.{add-one}
use native.Mathlib.Omega.{arith}
use lib.ListN.{length, get_or, take}
use borrow.Author.Tests.{not-true, not-false}
use Rattle.lists.specs.Tests.{every}
use Rattle.lists.specs.Lists.{all, tab, pad, flat}
use Rattle.lists.proofs.Cases.{and_both}
use Rattle.lists.proofs.Tab.{tab-ext, tab-suc}
use Rattle.lists.proofs.Flat.{flat-snoc}
use Rattle.layout.specs.Content.{is_live, live_vertices}
use Rattle.layout.specs.Layout.{limit, hyperedge_limit, record_size, hyperedges_at, vertex_word, vertex_count, hyperedge_count, next_hyperedge_in, hyperedge_words}
use Rattle.layout.specs.Inner.{vertex_column}
use Rattle.frames.specs.Frames.{hyperedge_length}
use Rattle.frames.specs.Put.{Put}
use Rattle.frames.specs.Reading.{next_hyperedge_of, vertices_due, hyperedges_due, vertex_place, byte_at, number_in, count_in, member_in, hyperedge_place, hyperedge_from, hyperedge_in, hyperedge_number_in, hyperedge_good, content_of}
use Rattle.frames.proofs.Laws.{put-length, put-append, put_as}
use Rattle.frames.proofs.Lines.{put-none}
use Rattle.reader.specs.Lines.{Sealed, lowest, number_fits}
use Rattle.reader.specs.Passes.{Live}
use Rattle.reader.specs.Hyperedges.{hyperedge_fits, VerticesStored, HyperedgeRead, HyperedgesRead}
use Rattle.reader.proofs.Ends.{behind-failed, behind-passed, stays-failed, goes-passed, goes_by}
use Rattle.reader.proofs.Numbers.{number-good, lowest-next}
use Rattle.reader.proofs.HeadLine.{hyperedges-few, hyperedges-given}
use Rattle.reader.proofs.HyperedgeLine.{fits-framed, fits-rest}
use Rattle.reader.proofs.Words.{list-front}
use Rattle.reader.proofs.Puts.{put-before}

-- ---- one line

pub line-unfit : (text : List ℕ) (p low high to : ℕ) (ws : List ℕ) → false ≡ hyperedge_fits text p low high (vertex_column ws) → HyperedgeRead text p low high to ws ws p
line-unfit text p low high to ws e = record {
  judged = behind-failed p (hyperedge_length (count_in text p)) _ e;
  kept = λ z. refl;
  put = λ n. absurd (n refl);
}

-- the line is a frame of k members, which are the list, with 0 behind them; t is what the code found of those
module _ (text : List ℕ) (p low high : ℕ) (ws : List ℕ) (k : ℕ) (list : List ℕ) (b x : ℕ) (r t : Bool)
    (s : Sealed text p (11 + k * 4)) (e : k ≡ count_in text p) (some : 0 < k) (few : k ≤ limit) (l : list ≡ pad limit (tab (member_in text p) k))
    (eb : b ≡ byte_at text p) (two : b ≡ 2) (ex : x ≡ number_in text p) (er : r ≡ number_fits x low high) (nr : not r ≡ false)
    (et : t ≡ all (is_live (vertex_column ws)) (take k list)) where
  listed : t ≡ hyperedge_fits text p low high (vertex_column ws)
  listed = fits-rest text p low high (vertex_column ws) k e s b x r t some few eb two ex er nr (et ∙ ap (all (is_live (vertex_column ws))) (list-front (member_in text p) k list l few))

  pub line_dead : (to : ℕ) → not t ≡ true → HyperedgeRead text p low high to ws ws p
  line_dead to n = line-unfit text p low high to ws (sym (not-true t n) ∙ listed)

  pub line-live : {to q end : ℕ} {later : List ℕ} → not t ≡ false → Put to (record_size limit) (hyperedge_words limit (hyperedge_from text p)) ws later q
      → end ≡ p + hyperedge_length k → HyperedgeRead text p low high to ws later end
  line-live {end = end} n f g = record {
    judged =
        behind-passed p (hyperedge_length (count_in text p)) _ end (sym (not-false t n) ∙ listed)
        (g ∙ ap (λ (j : ℕ). p + hyperedge_length j) e);
    kept = λ z. absurd (omega arith);
    put = λ z. rw (← f.reached) f;
  }

-- what is known of a line that was read
module _ {text : List ℕ} {p low high to : ℕ} {ws later : List ℕ} {r : ℕ} (h : HyperedgeRead text p low high to ws later r) where
  abbrev fits : Bool
  fits = hyperedge_fits text p low high (vertex_column ws)

  read_none : r ≡ p → fits ≡ false
  read_none z = stays-failed p (hyperedge_length (count_in text p)) fits r h.judged (omega arith) z

  module _ (n : r ≡ p → ⊥) where
    read_fits : fits ≡ true
    read_fits = goes-passed p (hyperedge_length (count_in text p)) fits r h.judged n

    read_behind : r ≡ p + hyperedge_length (count_in text p)
    read_behind = goes_by p (hyperedge_length (count_in text p)) fits r h.judged n

    read-framed : p ≤ length text → Sealed text p (11 + count_in text p * 4)
    read-framed l = fits-framed text p low high (vertex_column ws) l read_fits

    pub read-room : p ≤ length text → p + 2 + 8 ≤ length text
    read-room l = omega (arith, (read-framed l).room)

-- ---- the vertices stay where a record is put behind them

module _ {ws later : List ℕ} {to n q : ℕ} {xs : List ℕ} (f : Put to n xs ws later q) (behind : hyperedges_at ≤ to) (l : Live ws) where
  same_count : vertex_count later ≡ vertex_count ws
  same_count = put-before f 2 (omega arith)

  same_number : (i : ℕ) → i < vertex_count ws → get_or later (vertex_word i) 0 ≡ get_or ws (vertex_word i) 0
  same_number i h = put-before f (vertex_word i) (omega (arith, l.some))

  column-kept : vertex_column later ≡ vertex_column ws
  column-kept =
      ap (tab (λ i. get_or later (vertex_word i) 0)) same_count
      ∙ tab-ext (λ i. get_or later (vertex_word i) 0) (λ i. get_or ws (vertex_word i) 0) (vertex_count ws) same_number

  live-kept : Live later
  live-kept = record {
    sized = put-length f ∙ l.sized;
    some = rw same_count l.some;
    ascend = rw column-kept l.ascend;
    below = λ i h.
        let k : i < vertex_count ws = rw same_count at h in
        rw (same_number i k, put-before f 0 (omega arith)) (l.below i k);
  }

-- ---- i hyperedges are judged and stored: the least number of the next one, the place of its line and the word that it goes to

pub record HyperedgesSo (text before after : List ℕ) (low at to i : ℕ) : Type 0 where
  pub some : i ≤ hyperedges_due text
  pub good : every (hyperedge_good text) i ≡ true
  pub least : low ≡ lowest (hyperedge_number_in text) i
  pub place : at ≡ hyperedge_place text i
  pub within : at ≤ length text
  pub word : to ≡ hyperedges_at + i * record_size limit
  pub put : Put hyperedges_at (i * record_size limit) (flat (hyperedge_words limit) (tab (hyperedge_in text) i)) before after to
  pub live : Live after
  pub same : vertex_column after ≡ live_vertices (content_of text)

pub hyperedges-none : (text ws : List ℕ) (p : ℕ) → VerticesStored text ws → p ≡ vertex_place (vertices_due text) → HyperedgesSo text ws ws 0 p hyperedges_at 0
unfolding every lowest hyperedge_place tab flat
hyperedges-none text ws p v e = record {
  some = omega arith;
  good = refl;
  least = refl;
  place = e;
  within = omega (arith, v.within);
  word = refl;
  put = put-none hyperedges_at ws (omega (arith, v.live.sized));
  live = v.live;
  same = v.same;
}

hyperedges-end : {text before after : List ℕ} {low at to i : ℕ} → HyperedgesSo text before after low at to i
    → HyperedgesRead text (hyperedges_due text) before after i at
hyperedges-end v = record {
  some = v.some;
  good = v.good;
  reached = v.place;
  within = v.within;
  put = rw (← v.word) v.put;
}

pub hyperedges-stop : {text before after later : List ℕ} {low high at to i end : ℕ} → HyperedgesSo text before after low at to i
    → HyperedgeRead text at low high to after later end → end ≡ at → HyperedgesRead text (hyperedges_due text) before later i at
hyperedges-stop v h z = rw (h.kept z) (hyperedges-end v)

place-next : (text : List ℕ) (i p : ℕ) → p ≡ hyperedge_place text i → p + hyperedge_length (count_in text p) ≡ hyperedge_place text (i + 1)
unfolding hyperedge_place
place-next text i p e = rw (add-one i, ← e)

module _ (text : List ℕ) (m next : ℕ) (em : m ≡ hyperedges_due text) (ex : next ≡ next_hyperedge_of text) (given : m ≤ next) where
  hyperedge-judged : (i : ℕ)
      → hyperedge_fits text (hyperedge_place text i) (lowest (hyperedge_number_in text) i) (next - (m - i)) (live_vertices (content_of text)) ≡ hyperedge_good text i
  unfolding hyperedge_fits hyperedge_good
  hyperedge-judged i = rw (← em, ← ex, number-good (hyperedge_number_in text) m next i given)

  module _ {before after : List ℕ} {low at to i : ℕ} (v : HyperedgesSo text before after low at to i)
      {later : List ℕ} {end : ℕ} (h : HyperedgeRead text at low (next - (m - i)) to after later end) where
    found : fits h ≡ hyperedge_good text i
    found = rw (v.place, v.least, v.same) (hyperedge-judged i)

    pub hyperedges-bad : end ≡ at → hyperedge_good text i ≡ false
    hyperedges-bad z = sym found ∙ read_none h z

    pub hyperedges-more : {x : ℕ} → (end ≡ at → ⊥) → i < m → x ≡ number_in text at
        → HyperedgesSo text before later (x + 1) end (to + record_size limit) (i + 1)
    unfolding every
    hyperedges-more z l exn =
        let f = h.put z in
        record {
          some = omega arith;
          good = rw (add-one i) (and_both _ _ v.good (sym found ∙ read_fits h z));
          least = lowest-next (hyperedge_number_in text) i _ (exn ∙ ap (number_in text) v.place);
          place = read_behind h z ∙ place-next text i at v.place;
          within = omega (arith, read_behind h z, (read-framed h z v.within).room);
          word = omega (arith, v.word);
          put = put_as (omega arith)
              (sym (flat-snoc (hyperedge_words limit) (tab (hyperedge_in text) i) (hyperedge_in text i))
              ∙ ap (flat (hyperedge_words limit)) (sym (tab-suc (hyperedge_in text) i) ∙ ap (tab (hyperedge_in text)) (sym (add-one i))))
              (put-append v.put (rw v.place at f));
          live = live-kept f (omega (arith, v.word)) v.live;
          same = column-kept f (omega (arith, v.word)) v.live ∙ v.same;
        }

-- all m
module _ (text : List ℕ) (m : ℕ) (e : m ≡ hyperedges_due text) where
  pub hyperedges-all : {before after : List ℕ} {low at to i : ℕ} → HyperedgesSo text before after low at to i → m ≤ i
      → HyperedgesRead text (hyperedges_due text) before after m at
  hyperedges-all {i = i} v h = let q : m ≡ i = omega (arith, v.some) in rw q (hyperedges-end v)

  pub hyperedges-over : m < hyperedges_due text → hyperedge_good text m ≡ false
  hyperedges-over l = absurd (omega arith)

pub hyperedges-word : {text before after : List ℕ} {low at to i m : ℕ} → HyperedgesSo text before after low at to i → i < m → m ≤ hyperedge_limit → to + record_size limit ≤ length after
hyperedges-word v l h = omega (arith, v.word, v.live.sized)

-- ---- the head's numbers, as they stand in the words

module _ {text ws : List ℕ} (v : VerticesStored text ws) where
  module _ (m : ℕ) (e : m ≡ hyperedge_count ws) where
    pub stored-due : m ≡ hyperedges_due text
    stored-due = e ∙ v.head.hyperedges

    pub stored-few : m ≤ hyperedge_limit
    stored-few = omega (arith, stored-due, hyperedges-few text v.head.good)

    pub stored-given : (u w : ℕ) → u ≡ next_hyperedge_in ws → w ≡ u → m ≤ w
    stored-given u w f g = omega (arith, stored-due, f, g, v.head.next-hyperedge, hyperedges-given text v.head.good)

  pub stored_next : (u w : ℕ) → u ≡ next_hyperedge_in ws → w ≡ u → w ≡ next_hyperedge_of text
  stored_next u w f g = g ∙ f ∙ v.head.next-hyperedge
