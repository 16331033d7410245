-- The vertex lines: what a pass over them has judged and stored, and what then stands in the words. Assumes nothing.
use mathlib.Core.Path.{◌≡◌, refl, sym, ap, ap₂, ◌∙◌}
use mathlib.Core.Bool.{Bool, true}
use mathlib.Core.List.{List}
use Prim.Native.Nat.{ℕ, zero, suc, ◌+◌, ◌-◌, ◌*◌, ◌≤◌, ◌<◌}
use native.Mathlib.Nat.{add-zero, le_antisymm}
use native.Mathlib.Numerals.{add-one}
use native.Mathlib.Omega.{arith}
use lib.ListN.{length, get_or}
use borrow.Author.Tests.{ltb-true, leb-true}
use Rattle.lists.specs.Tests.{◌and◌, every}
use Rattle.lists.specs.Lists.{tab, flat}
use Rattle.lists.proofs.Cases.{on_same, and_left, and_right, and_both}
use Rattle.lists.proofs.Every.{every-at}
use Rattle.lists.proofs.Tab.{tab-ext, tab-suc, length-tab, getD-tab, map-tab}
use Rattle.lists.proofs.Flat.{flat-snoc, flat-at}
use Rattle.layout.specs.Content.{vertex_number, live_vertices, vertex_of, no_vertex}
use Rattle.layout.specs.Layout.{limit, size, vertex_limit, vertex_size, vertices_at, vertex_word, next_vertex_in, vertex_count, vertex_words}
use Rattle.layout.specs.Inner.{vertex_column}
use Rattle.frames.specs.Frames.{head_length, vertex_length, vertex_line}
use Rattle.frames.specs.Put.{Put}
use Rattle.frames.specs.Reading.{next_vertex_of, vertices_due, vertex_place, number_in, weight_in, vertex_in, vertex_number_in, content_of, climbs_to, number_good, stands_at, vertex_good}
use Rattle.frames.proofs.Laws.{put-length, put-append, put_as}
use Rattle.frames.proofs.Lines.{put-none}
use Rattle.reader.specs.Lines.{behind, lowest, vertex_fits}
use Rattle.reader.specs.Passes.{Live, HeadStored, VerticesRead}
use Rattle.reader.proofs.Ends.{stays-failed, goes-passed, goes_by}
use Rattle.reader.proofs.Numbers.{number-good, lowest-first, lowest-next}
use Rattle.reader.proofs.HeadLine.{head-room, vertices-few, vertices-given}
use Rattle.reader.proofs.Records.{vertex-framed}
use Rattle.reader.proofs.Puts.{put-before, put_in}

-- i vertices are judged and stored: the least number of the next one, the place of its line and the word that it goes to
pub record VerticesSo (text before after : List ℕ) (low at to i : ℕ) : Type 0 where
  pub some : i ≤ vertices_due text
  pub good : every (vertex_good text) i ≡ true
  pub least : low ≡ lowest (vertex_number_in text) i
  pub place : at ≡ vertex_place i
  pub within : at ≤ length text
  pub word : to ≡ vertex_word i
  pub sized : length after ≡ length before
  pub put : Put vertices_at (i * vertex_size) (flat vertex_words (tab (vertex_in text) i)) before after to

pub vertices-none : (text ws : List ℕ) (p : ℕ) → length ws ≡ size limit → p ≡ head_length → p ≤ length text → VerticesSo text ws ws 0 p vertices_at 0
unfolding every tab flat
vertices-none text ws p l e h = record {
  some = omega arith;
  good = refl;
  least = lowest-first (vertex_number_in text);
  place = e;
  within = h;
  word = refl;
  sized = refl;
  put = put-none vertices_at ws (omega arith);
}

module _ (text : List ℕ) (n next : ℕ) (en : n ≡ vertices_due text) (ex : next ≡ next_vertex_of text) (given : n ≤ next) where
  vertex-judged : (i : ℕ) → vertex_good text i ≡ vertex_fits text (vertex_place i) (lowest (vertex_number_in text) i) (next - (n - i))
  unfolding vertex_good vertex_fits
  vertex-judged i =
      ap (λ (b : Bool). stands_at text (vertex_place i) (vertex_line (vertex_in text i)) and b)
      (ap₂ (λ (k x : ℕ). number_good (vertex_number_in text) k x i) (sym en) (sym ex) ∙ sym (number-good (vertex_number_in text) n next i given))

  module _ {before after : List ℕ} {low at to i : ℕ} (v : VerticesSo text before after low at to i)
      (r : ℕ) (e : r ≡ behind (vertex_fits text at low (next - (n - i))) at vertex_length) where
    found : vertex_fits text at low (next - (n - i)) ≡ vertex_good text i
    found = ap₂ (λ (p l : ℕ). vertex_fits text p l (next - (n - i))) v.place v.least ∙ sym (vertex-judged i)

    pub vertices-stop : r ≡ at → VerticesRead text before after i at
    vertices-stop q = record {
      some = v.some;
      good = v.good;
      reached = v.place;
      within = v.within;
      put = rw (← v.word) v.put;
      stopped = λ h. sym found ∙ stays-failed at vertex_length _ r e (omega arith) q;
    }

    pub vertices-more : {x to₂ : ℕ} {later : List ℕ} → (r ≡ at → ⊥) → i < n → x ≡ number_in text at
        → Put to 2 (vertex_words (vertex_of (number_in text at) (weight_in text at))) after later to₂ → VerticesSo text before later (x + 1) r to₂ (i + 1)
    unfolding every
    vertices-more q h exn f =
        let w : r ≡ at + vertex_length = goes_by at vertex_length _ r e q in
        record {
          some = omega arith;
          good = rw (add-one i) (and_both _ _ v.good (sym found ∙ goes-passed at vertex_length _ r e q));
          least = lowest-next (vertex_number_in text) i _ (exn ∙ ap (number_in text) v.place);
          place = omega (arith, v.place);
          within = omega (arith, (vertex-framed text at low (next - (n - i)) r v.within e q).room);
          word = omega (arith, f.reached, v.word);
          sized = put-length f ∙ v.sized;
          put = put_as (omega arith)
              (sym (flat-snoc vertex_words (tab (vertex_in text) i) (vertex_in text i)) ∙ ap (flat vertex_words) (sym (tab-suc (vertex_in text) i) ∙ ap (tab (vertex_in text)) (sym (add-one i))))
              (put-append v.put (rw v.place at f));
        }

  pub vertices-end : {before after : List ℕ} {low at to i : ℕ} → VerticesSo text before after low at to i → n ≤ i → VerticesRead text before after n at
  vertices-end {i = i} v h =
      let e : n ≡ i = omega (arith, v.some) in
      rw e (record {
        some = v.some;
        good = v.good;
        reached = v.place;
        within = v.within;
        put = rw (← v.word) v.put;
        stopped = λ l. absurd (omega arith);
      })

-- the head's counts and numbers, as they stand in the words
module _ {text ws : List ℕ} (h : HeadStored text ws) (n : ℕ) (e : n ≡ vertex_count ws) where
  pub stored-due : n ≡ vertices_due text
  stored-due = e ∙ h.vertices

  pub stored-few : n ≤ vertex_limit
  stored-few = omega (arith, stored-due, vertices-few text h.good)

  pub stored-given : (u w : ℕ) → u ≡ next_vertex_in ws → w ≡ u → n ≤ w
  stored-given u w f g = omega (arith, stored-due, f, g, h.next-vertex, vertices-given text h.good)

pub stored_next : {text ws : List ℕ} → HeadStored text ws → (u w : ℕ) → u ≡ next_vertex_in ws → w ≡ u → w ≡ next_vertex_of text
stored_next h u w f g = g ∙ f ∙ h.next-vertex

pub stored-within : {text ws : List ℕ} → HeadStored text ws → (p : ℕ) → p ≡ head_length → p ≤ length text
stored-within {text} h p e = rw e (head-room text h.good)

-- ---- all vertices read: what stands in the words

numbers-climb : (text : List ℕ) (n : ℕ) → every (vertex_good text) n ≡ true → (i j : ℕ) → i < j → j < n → vertex_number_in text i < vertex_number_in text j
unfolding vertex_good number_good climbs_to
numbers-climb text n g i zero h l = absurd (omega arith)
numbers-climb text n g i (suc j) h l =
    let up : vertex_number_in text j < vertex_number_in text (suc j) = ltb-true _ _ (and_left _ _ (and_right _ _ (every-at (vertex_good text) n (suc j) g l))) in
    on_same i j (λ e. rw e up) (λ e. omega (arith, numbers-climb text n g i j (omega arith) (omega arith)))

numbers-below : (text : List ℕ) (i : ℕ) → vertex_good text i ≡ true → i < vertices_due text → vertex_number_in text i < next_vertex_of text
unfolding vertex_good number_good
numbers-below text i g l =
    let room : vertex_number_in text i + (vertices_due text - i) ≤ next_vertex_of text = leb-true _ _ (and_right _ _ (and_right _ _ g)) in
    omega arith

module _ (text before after : List ℕ) (r at : ℕ) (h : HeadStored text before) (v : VerticesRead text before after r at) where
  pub vertices-head : HeadStored text after
  vertices-head = record {
    sized = put-length v.put ∙ h.sized;
    good = h.good;
    next-vertex = put-before v.put 0 (omega arith) ∙ h.next-vertex;
    next-hyperedge = put-before v.put 1 (omega arith) ∙ h.next-hyperedge;
    vertices = put-before v.put 2 (omega arith) ∙ h.vertices;
    hyperedges = put-before v.put 3 (omega arith) ∙ h.hyperedges;
  }

  module _ (all_read : vertices_due text ≤ r) where
    due : r ≡ vertices_due text
    due = le_antisymm v.some all_read

    number-read-back : (i : ℕ) → i < vertices_due text → get_or after (vertex_word i) 0 ≡ vertex_number_in text i
    number-read-back i l =
        let k : i < r = rw due l in
        put_in v.put (i * vertex_size) (omega arith)
        ∙ ap (λ (p : ℕ). get_or (flat vertex_words (tab (vertex_in text) r)) p 0) (sym (add-zero (i * vertex_size)))
        ∙ flat-at vertex_words vertex_size (tab (vertex_in text) r) no_vertex (λ j m. refl) i 0 (rw length-tab k) (omega arith)
        ∙ ap vertex_number (getD-tab (vertex_in text) r i no_vertex k)

    column-read : vertex_column after ≡ tab (vertex_number_in text) (vertices_due text)
    column-read =
        ap (tab (λ i. get_or after (vertex_word i) 0)) vertices-head.vertices
        ∙ tab-ext (λ i. get_or after (vertex_word i) 0) (vertex_number_in text) (vertices_due text) number-read-back

    -- the live vertices of the text's content stand in the words
    pub column-live : vertex_column after ≡ live_vertices (content_of text)
    unfolding content_of
    column-live = column-read ∙ sym (map-tab vertex_number (vertex_in text) (vertices_due text))

    pub vertices-live : Live after
    vertices-live = record {
      sized = vertices-head.sized;
      some = rw vertices-head.vertices (vertices-few text h.good);
      ascend = rw column-read (λ i j l m.
          let k : j < vertices_due text = rw length-tab at m in
          rw (getD-tab (vertex_number_in text) (vertices_due text) i 0 (omega arith), getD-tab (vertex_number_in text) (vertices_due text) j 0 k)
          (numbers-climb text r v.good i j l (rw due k)));
      below = λ i l.
          let k : i < vertices_due text = rw vertices-head.vertices at l in
          rw (number-read-back i k, vertices-head.next-vertex) (numbers-below text i (every-at (vertex_good text) r i v.good (rw due k)) k);
    }
