-- A content whose text has the good lines that a text begins with: the records that follow are filled in. Assumes nothing.
use mathlib.Core.Path.{◌≡◌, refl, sym, ap, ap₂, ◌∙◌}
use mathlib.Core.Bool.{true, cond}
use mathlib.Core.List.{List, [], ◌∷◌, map}
use Prim.Native.Nat.{ℕ, zero, suc, ◌+◌, ◌-◌, ◌≤◌, ◌<◌}
use native.Mathlib.Nat.{add-zero}
use native.Mathlib.Omega.{arith}
use lib.Dec.{eqb, ltb}
use lib.ListN.{length, get_or}
use borrow.Author.Tests.{ltb-true, leb-true, eqb-true, lt-ltb, le-ltb}
use Rattle.lists.specs.Tests.{◌and◌}
use Rattle.lists.specs.Lists.{all, tab, is_below}
use Rattle.lists.proofs.Cases.{on_below, and_left, and_right, and_both, or-true}
use Rattle.lists.proofs.All.{all_of}
use Rattle.lists.proofs.Ascend.{ascending-of}
use Rattle.lists.proofs.Tab.{tab-ext, length-tab, getD-tab, map-tab}
use Rattle.lists.proofs.Memb.{memb-getD}
use mathlib.Core.Logic.{⊎_elim}
use Rattle.layout.specs.Content.{Vertex, Hyperedge, Table, vertex_number, hyperedge_number, live_vertices, is_live, numbered, members_live, vertex_of, hyperedge_of, no_vertex, no_hyperedge}
use Rattle.layout.specs.Layout.{vertex_limit, hyperedge_limit, limit}
use Rattle.layout.specs.WellFormed.{count_fits}
use Rattle.layout.proofs.Holdable.{Holdable}
use Rattle.frames.specs.Frames.{head_line, vertex_line, hyperedge_line, hyperedge_length}
use Rattle.frames.specs.Reading.{stands_at, next_vertex_of, next_hyperedge_of, vertices_due, hyperedges_due, vertex_place, weight_in, count_in, member_in, vertex_in, hyperedge_place, hyperedge_in, content_of, head_good, climbs_to, number_good, vertex_number_in, hyperedge_number_in, vertex_good, hyperedge_good}
use Rattle.frames.specs.Faulty.{is_word}
use Rattle.frame_laws.proofs.Rows.{row_at, place_at, Agrees, row-vertex, row-hyperedge, vertex-place, hyperedge-next}
use Rattle.frame_laws.proofs.Standing.{word_values, next-vertex-fits, next-hyperedge-fits, vertex-fits, hyperedge-fits, hyperedge-members-fit}
use Rattle.frame_laws.proofs.Held.{Worded}

-- ---- numbers

-- the first k numbers, and then the last that are below the next number
unfoldable pub fill_number : (ℕ → ℕ) → ℕ → ℕ → ℕ → ℕ → ℕ
fill_number number k n next i = cond (ltb i k) (number i) (next - n + i)

rising-far : (f : ℕ → ℕ) (n : ℕ) → ((i : ℕ) → suc i < n → f i < f (suc i)) → (i d : ℕ) → i + suc d < n → f i < f (i + suc d)
rising-far f n r i zero h = let e : i + 1 ≡ suc i = omega arith in rw e (r i (omega arith))
rising-far f n r i (suc d) h =
    let e : i + suc (suc d) ≡ suc (i + suc d) = omega arith in
    rw e (omega (arith, rising-far f n r i d (omega arith), r (i + suc d) (omega arith)))

pub numbered-tab : (f : ℕ → ℕ) (n next : ℕ) → ((i : ℕ) → suc i < n → f i < f (suc i)) → ((i : ℕ) → i < n → f i < next) → numbered (tab f n) next ≡ true
unfolding numbered
numbered-tab f n next r b =
    let len : length (tab f n) ≡ n = length-tab f n in
    and_both _ _
    (ascending-of (tab f n) (λ i j l h.
    let e : i + suc (j - suc i) ≡ j = omega arith in
    let q : j < n = rw len at h in
    rw (getD-tab f n i 0 (omega arith), getD-tab f n j 0 q) (rw e at (rising-far f n r i (j - suc i) (omega arith)))))
    (all_of (is_below next) (tab f n) 0 (λ i h. let q : i < n = rw len at h in rw (getD-tab f n i 0 q) (lt-ltb (f i) next (b i q))))

module _ (number : ℕ → ℕ) (k n next : ℕ) (room : n ≤ next) (h : k ≤ n) (good : (i : ℕ) → i < k → number_good number n next i ≡ true) where
  ahead : (i : ℕ) → i < k → number i + (n - i) ≤ next
  unfolding number_good
  ahead i l = leb-true (number i + (n - i)) next (and_right _ _ (good i l))

  climbs-to : (i : ℕ) → suc i < k → number i < number (suc i)
  unfolding number_good climbs_to
  climbs-to i l = ltb-true (number i) (number (suc i)) (and_left _ _ (good (suc i) l))

  fill-below : (i : ℕ) → i < n → fill_number number k n next i < next
  unfolding fill_number
  fill-below i l =
      on_below i k (λ q. rw (lt-ltb i k q) (omega (arith, ahead i q))) (λ q. rw (le-ltb i k q) (omega arith))

  fill-rises : (i : ℕ) → suc i < n → fill_number number k n next i < fill_number number k n next (suc i)
  unfolding fill_number
  fill-rises i l =
      on_below (suc i) k
      (λ q. rw (lt-ltb i k (omega arith), lt-ltb (suc i) k q) (climbs-to i q))
      (λ q. on_below i k
      (λ s. rw (lt-ltb i k s, le-ltb (suc i) k q) (omega (arith, ahead i s)))
      (λ s. rw (le-ltb i k s, le-ltb (suc i) k q) (omega arith)))

  fill-numbered : numbered (tab (fill_number number k n next) n) next ≡ true
  fill-numbered = numbered-tab (fill_number number k n next) n next fill-rises fill-below

-- ---- the content: the first a vertices and the first b hyperedges of the text

unfoldable pub filled_vertex : List ℕ → ℕ → ℕ → Vertex
filled_vertex text a i =
    vertex_of (fill_number (vertex_number_in text) a (vertices_due text) (next_vertex_of text) i) (cond (ltb i a) (weight_in text (vertex_place i)) 0)

unfoldable pub filled_hyperedge : List ℕ → ℕ → ℕ → ℕ → Hyperedge
filled_hyperedge text a b j =
    hyperedge_of (fill_number (hyperedge_number_in text) b (hyperedges_due text) (next_hyperedge_of text) j) (cond (ltb j b) (weight_in text (hyperedge_place text j)) 0)
    (cond (ltb j b) (tab (member_in text (hyperedge_place text j)) (count_in text (hyperedge_place text j))) ((filled_vertex text a 0).number ∷ []))

abbrev pub filled : List ℕ → ℕ → ℕ → Table
filled text a b = record {
  next_vertex = next_vertex_of text;
  next_hyperedge = next_hyperedge_of text;
  vertices = tab (filled_vertex text a) (vertices_due text);
  hyperedges = tab (filled_hyperedge text a b) (hyperedges_due text);
}

-- the head, the first a vertices and the first b hyperedges are good
pub record Begun (text : List ℕ) (a b : ℕ) : Type 0 where
  pub head : head_good text ≡ true
  pub vertices-le : a ≤ vertices_due text
  pub hyperedges-le : b ≤ hyperedges_due text
  pub vertices : (i : ℕ) → i < a → vertex_good text i ≡ true
  pub hyperedges : (j : ℕ) → j < b → hyperedge_good text j ≡ true
  pub all-before : 0 < b → a ≡ vertices_due text

module _ (text : List ℕ) (a b : ℕ) (s : Begun text a b) where
  abbrev n : ℕ
  n = vertices_due text

  abbrev m : ℕ
  m = hyperedges_due text

  abbrev t : Table
  t = filled text a b

  filled-n : length t.vertices ≡ n
  filled-n = length-tab (filled_vertex text a) n

  filled-m : length t.hyperedges ≡ m
  filled-m = length-tab (filled_hyperedge text a b) m

  -- ---- what the head says

  n-le : n ≤ vertex_limit
  unfolding head_good
  n-le = leb-true _ _ (and_left _ _ (and_right _ _ s.head))

  m-le : m ≤ hyperedge_limit
  unfolding head_good
  m-le = leb-true _ _ (and_left _ _ (and_right _ _ (and_right _ _ s.head)))

  n_room : n ≤ next_vertex_of text
  unfolding head_good
  n_room = leb-true _ _ (and_left _ _ (and_right _ _ (and_right _ _ (and_right _ _ s.head))))

  m-room : m ≤ next_hyperedge_of text
  unfolding head_good
  m-room = leb-true _ _ (and_left _ _ (and_right _ _ (and_right _ _ (and_right _ _ (and_right _ _ s.head)))))

  some-vertex : 0 < m → 0 < n
  unfolding head_good
  some-vertex h =
      ⊎_elim (λ e. absurd (omega (arith, eqb-true m 0 e))) (λ e. ltb-true 0 n e)
      (or-true (eqb m 0) (ltb 0 n) (and_right _ _ (and_right _ _ (and_right _ _ (and_right _ _ (and_right _ _ s.head))))))

  head-stands : stands_at text 0 (head_line t) ≡ true
  unfolding head_good head_line
  head-stands = rw (filled-n, filled-m) (and_left _ _ s.head)

  -- ---- the vertices

  filled-vertex : (i : ℕ) → i < n → get_or t.vertices i no_vertex ≡ filled_vertex text a i
  filled-vertex i h = getD-tab (filled_vertex text a) n i no_vertex h

  old-vertex : (i : ℕ) → i < a → filled_vertex text a i ≡ vertex_in text i
  unfolding filled_vertex fill_number
  old-vertex i h = rw (lt-ltb i a h)

  vertex-fit : (i : ℕ) → i < a → number_good (vertex_number_in text) n (next_vertex_of text) i ≡ true
  unfolding vertex_good
  vertex-fit i h = and_right _ _ (s.vertices i h)

  vertex-line : (i : ℕ) → i < a → stands_at text (vertex_place i) (vertex_line (vertex_in text i)) ≡ true
  unfolding vertex_good
  vertex-line i h = and_left _ _ (s.vertices i h)

  live-are : live_vertices t ≡ tab (fill_number (vertex_number_in text) a n (next_vertex_of text)) n
  unfolding filled_vertex
  live-are = map-tab vertex_number (filled_vertex text a) n

  live_same : 0 < b → live_vertices t ≡ live_vertices (content_of text)
  unfolding content_of
  live_same h = ap (map vertex_number) (tab-ext (filled_vertex text a) (vertex_in text) n (λ i l. old-vertex i (omega (arith, s.all-before h))))

  first_live : 0 < n → is_live (live_vertices t) (filled_vertex text a 0).number ≡ true
  unfolding filled_vertex
  first_live h =
      let f : ℕ → ℕ = fill_number (vertex_number_in text) a n (next_vertex_of text) in
      rw live-are (rw (getD-tab f n 0 0 h) at (memb-getD (tab f n) 0 (rw length-tab h)))

  -- ---- the hyperedges

  filled-hyperedge : (j : ℕ) → j < m → get_or t.hyperedges j no_hyperedge ≡ filled_hyperedge text a b j
  filled-hyperedge j h = getD-tab (filled_hyperedge text a b) m j no_hyperedge h

  old-hyperedge : (j : ℕ) → j < b → filled_hyperedge text a b j ≡ hyperedge_in text j
  unfolding filled_hyperedge fill_number
  old-hyperedge j h = rw (lt-ltb j b h)

  new-hyperedge : (j : ℕ) → b ≤ j → filled_hyperedge text a b j ≡ hyperedge_of (next_hyperedge_of text - m + j) 0 ((filled_vertex text a 0).number ∷ [])
  unfolding filled_hyperedge fill_number
  new-hyperedge j h = rw (le-ltb j b h)

  hyperedge-line : (j : ℕ) → j < b → stands_at text (hyperedge_place text j) (hyperedge_line (hyperedge_in text j)) ≡ true
  unfolding hyperedge_good
  hyperedge-line j h = and_left _ _ (s.hyperedges j h)

  hyperedge-fit : (j : ℕ) → j < b → number_good (hyperedge_number_in text) m (next_hyperedge_of text) j ≡ true
  unfolding hyperedge_good
  hyperedge-fit j h = and_left _ _ (and_right _ _ (s.hyperedges j h))

  hyperedge-counted : (j : ℕ) → j < m → count_fits limit (filled_hyperedge text a b j) ≡ true
  unfolding hyperedge_good count_fits
  hyperedge-counted j h =
      on_below j b (λ l. rw (old-hyperedge j l) (and_left _ _ (and_right _ _ (and_right _ _ (s.hyperedges j l))))) (λ l. rw (new-hyperedge j l) (and_both _ _ refl refl))

  hyperedge-live : (j : ℕ) → j < m → members_live (live_vertices t) (filled_hyperedge text a b j) ≡ true
  unfolding hyperedge_good members_live all
  hyperedge-live j h =
      on_below j b
      (λ l. rw (old-hyperedge j l, live_same (omega arith)) (and_right _ _ (and_right _ _ (and_right _ _ (s.hyperedges j l)))))
      (λ l. rw (new-hyperedge j l) (and_both _ _ (first_live (some-vertex (omega arith))) refl))

  -- ---- a table can hold it, and it fits in words

  pub filled-held : Holdable limit t
  unfolding filled_hyperedge
  filled-held = record {
    vertices-le = rw filled-n n-le;
    hyperedges-le = rw filled-m m-le;
    vertices-numbered = rw live-are (fill-numbered (vertex_number_in text) a n (next_vertex_of text) n_room s.vertices-le vertex-fit);
    hyperedges-numbered =
        rw (map-tab hyperedge_number (filled_hyperedge text a b) m)
        (fill-numbered (hyperedge_number_in text) b m (next_hyperedge_of text) m-room s.hyperedges-le hyperedge-fit);
    counts = all_of (count_fits limit) t.hyperedges no_hyperedge (λ j h. rw (filled-hyperedge j (rw filled-m at h)) (hyperedge-counted j (rw filled-m at h)));
    members-live = all_of (members_live (live_vertices t)) t.hyperedges no_hyperedge (λ j h. rw (filled-hyperedge j (rw filled-m at h)) (hyperedge-live j (rw filled-m at h)));
  }

  next-vertex-word : next_vertex_of text < word_values
  next-vertex-word = next-vertex-fits text t head-stands

  next-hyperedge-word : next_hyperedge_of text < word_values
  next-hyperedge-word = next-hyperedge-fits text t head-stands

  vertex-number-word : (i : ℕ) → i < n → (filled_vertex text a i).number < word_values
  unfolding filled_vertex
  vertex-number-word i h =
      omega (arith, next-vertex-word, fill-below (vertex_number_in text) a n (next_vertex_of text) n_room s.vertices-le vertex-fit i h)

  vertex-weight-word : (i : ℕ) → (filled_vertex text a i).weight < word_values
  unfolding filled_vertex
  vertex-weight-word i =
      on_below i a (λ l. rw (lt-ltb i a l) (vertex-fits text (vertex_place i) (vertex_in text i) (vertex-line i l)).1) (λ l. rw (le-ltb i a l) (omega arith))

  hyperedge-number-word : (j : ℕ) → j < m → (filled_hyperedge text a b j).number < word_values
  unfolding filled_hyperedge
  hyperedge-number-word j h =
      omega (arith, next-hyperedge-word, fill-below (hyperedge_number_in text) b m (next_hyperedge_of text) m-room s.hyperedges-le hyperedge-fit j h)

  hyperedge-weight-word : (j : ℕ) → (filled_hyperedge text a b j).weight < word_values
  unfolding filled_hyperedge
  hyperedge-weight-word j =
      on_below j b (λ l. rw (lt-ltb j b l) (hyperedge-fits text (hyperedge_place text j) (hyperedge_in text j) (hyperedge-line j l)).1) (λ l. rw (le-ltb j b l) (omega arith))

  hyperedge-members-word : (j : ℕ) → j < m → all is_word (filled_hyperedge text a b j).members ≡ true
  unfolding all is_word
  hyperedge-members-word j h =
      on_below j b
      (λ l. let p : ℕ = hyperedge_place text j in
      rw (old-hyperedge j l) (ap (λ (k : ℕ). all is_word (tab (member_in text p) k)) (sym (length-tab (member_in text p) (count_in text p)))
      ∙ hyperedge-members-fit text p (hyperedge_in text j) (hyperedge-line j l)))
      (λ l. rw (new-hyperedge j l) (and_both _ _ (lt-ltb (filled_vertex text a 0).number word_values (vertex-number-word 0 (some-vertex (omega arith)))) refl))

  pub filled-worded : Worded t
  filled-worded = record {
    next-vertex = next-vertex-word;
    next-hyperedge = next-hyperedge-word;
    vertex-number = λ i h. rw (filled-vertex i (rw filled-n at h)) (vertex-number-word i (rw filled-n at h));
    vertex-weight = λ i h. rw (filled-vertex i (rw filled-n at h)) (vertex-weight-word i);
    hyperedge-number = λ j h. rw (filled-hyperedge j (rw filled-m at h)) (hyperedge-number-word j (rw filled-m at h));
    hyperedge-weight = λ j h. rw (filled-hyperedge j (rw filled-m at h)) (hyperedge-weight-word j);
    members = λ j h. rw (filled-hyperedge j (rw filled-m at h)) (hyperedge-members-word j (rw filled-m at h));
  }

  -- ---- the text has the first lines of its text

  pub filled-place : (j : ℕ) → j ≤ b → place_at t (suc (n + j)) ≡ hyperedge_place text j
  unfolding hyperedge_place
  filled-place zero h = rw add-zero (vertex-place t n (rw filled-n (omega arith)))
  filled-place (suc j) h =
      let p : ℕ = hyperedge_place text j in
      let e : get_or t.hyperedges j no_hyperedge ≡ hyperedge_in text j = filled-hyperedge j (omega (arith, s.hyperedges-le)) ∙ old-hyperedge j (omega arith) in
      (rw filled-n at (hyperedge-next t j)) ∙ ap₂ (λ (x : ℕ) (y : Hyperedge). x + hyperedge_length (length y.members)) (filled-place j (omega arith)) e
      ∙ ap (λ (c : ℕ). p + hyperedge_length c) (length-tab (member_in text p) (count_in text p))

  pub filled-agrees : Agrees (suc (a + b)) text t
  unfolding row_at place_at
  filled-agrees zero h = head-stands
  filled-agrees (suc k) h = more
    where
      vertex-row : k < a → stands_at text (place_at t (suc k)) (row_at t (suc k)) ≡ true
      vertex-row l =
          let q : k < length t.vertices = rw filled-n (omega (arith, s.vertices-le)) in
          rw (row-vertex t k q, vertex-place t k (omega arith), filled-vertex k (omega (arith, s.vertices-le)), old-vertex k l) (vertex-line k l)

      hyperedge-row : (j : ℕ) → j < b → k ≡ n + j → stands_at text (place_at t (suc k)) (row_at t (suc k)) ≡ true
      hyperedge-row j l e =
          let f : length t.vertices + j ≡ k = omega (arith, filled-n) in
          rw (← f, row-hyperedge t j, filled-hyperedge j (omega (arith, s.hyperedges-le)), old-hyperedge j l, filled-n, filled-place j (omega arith)) (hyperedge-line j l)

      more : stands_at text (place_at t (suc k)) (row_at t (suc k)) ≡ true
      more =
          on_below k n
          (λ l. on_below 0 b (λ q. vertex-row (omega (arith, s.all-before q))) (λ q. vertex-row (omega arith)))
          (λ l. hyperedge-row (k - n) (omega (arith, s.vertices-le)) (omega arith))
