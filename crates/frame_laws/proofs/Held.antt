-- A content that a table can hold: its numbers, and its words. Assumes nothing.
use mathlib.Core.Path.{◌≡◌, refl, ap}
use mathlib.Core.Bool.{true}
use mathlib.Core.List.{List, [], ◌∷◌, ◌++◌}
use Prim.Native.Nat.{ℕ, zero, suc, ◌+◌, ◌-◌, ◌*◌, ◌≤◌, ◌<◌, suc-le-suc}
use native.Mathlib.Nat.{zero-lt-suc}
use native.Mathlib.Omega.{arith}
use lib.ListN.{length, get_or, take, drop, replicate, get_or-eq_default, length-take}
use lib.Seq.{get_or-take, get_or-drop}
use borrow.Author.Tests.{ltb-true, lt-ltb}
use Rattle.lists.specs.Tests.{◌and◌}
use Rattle.lists.specs.Lists.{all, flat, pad, Ascending}
use Rattle.lists.proofs.Cases.{on_below, and_both}
use Rattle.lists.proofs.All.{all-at, all_of, all_join}
use Rattle.lists.proofs.Tab.{length-tab, getD-tab}
use Rattle.lists.proofs.Maps.{map-length}
use Rattle.lists.proofs.Memb.{memb-at}
use Rattle.layout.specs.Content.{Table, vertex_number, live_vertices, is_live, numbered, members_live, no_vertex, no_hyperedge}
use Rattle.layout.specs.Layout.{vertex_limit, hyperedge_limit, vertex_size, record_size, limit, vertex_at, hyperedge_at, vertex_count, hyperedge_count, hyperedge_word, count_at, read, vertex_words, hyperedge_words, words, vertex_word}
use Rattle.layout.proofs.Holdable.{Holdable, members-le, members-pos}
use Rattle.layout.proofs.Read.{numbered-ascends, numbered_below}
use Rattle.frames.specs.Faulty.{is_word}
use Rattle.frame_laws.proofs.Standing.{word_values}

-- ---- numbers

-- numbers rise at least as fast as places
gap : (xs : List ℕ) → Ascending xs → (i d : ℕ) → i + d < length xs → get_or xs i 0 + d ≤ get_or xs (i + d) 0
gap xs asc i zero h = let e : i + 0 ≡ i = omega arith in omega (arith, ap (λ (k : ℕ). get_or xs k 0) e)
gap xs asc i (suc d) h =
    let e : i + suc d ≡ suc (i + d) = omega arith in
    omega (arith, gap xs asc i d (omega arith), asc (i + d) (suc (i + d)) (omega arith) (omega arith), ap (λ (k : ℕ). get_or xs k 0) e)

-- each number, with one for each that follows it, is below the next number
pub numbered-ahead : (xs : List ℕ) (next i : ℕ) → numbered xs next ≡ true → i < length xs → get_or xs i 0 + (length xs - i) ≤ next
numbered-ahead xs next i e h =
    let d : ℕ = length xs - suc i in
    omega (arith, gap xs (numbered-ascends xs next e) i d (omega arith), numbered_below xs next e (i + d) (omega arith))

pub numbered-room : (xs : List ℕ) (next : ℕ) → numbered xs next ≡ true → length xs ≤ next
numbered-room xs next e = on_below 0 (length xs) (λ h. omega (arith, numbered-ahead xs next 0 e h)) (λ h. omega arith)

-- no hyperedge without a vertex
pub some-vertex : (t : Table) → Holdable limit t → 0 < length t.hyperedges → 0 < length t.vertices
unfolding members_live
some-vertex t d h =
    let ms : List ℕ = (get_or t.hyperedges 0 no_hyperedge).members in
    let live : all (is_live (live_vertices t)) ms ≡ true = all-at (members_live (live_vertices t)) t.hyperedges 0 no_hyperedge d.members-live h in
    let q = memb-at (get_or ms 0 0) (live_vertices t) (all-at (is_live (live_vertices t)) ms 0 0 live (members-pos d no_hyperedge 0 h)) in
    omega (arith, q.1, map-length vertex_number t.vertices)

-- ---- words

pub record Worded (t : Table) : Type 0 where
  pub next-vertex : t.next_vertex < word_values
  pub next-hyperedge : t.next_hyperedge < word_values
  pub vertex-number : (i : ℕ) → i < length t.vertices → (get_or t.vertices i no_vertex).number < word_values
  pub vertex-weight : (i : ℕ) → i < length t.vertices → (get_or t.vertices i no_vertex).weight < word_values
  pub hyperedge-number : (j : ℕ) → j < length t.hyperedges → (get_or t.hyperedges j no_hyperedge).number < word_values
  pub hyperedge-weight : (j : ℕ) → j < length t.hyperedges → (get_or t.hyperedges j no_hyperedge).weight < word_values
  pub members : (j : ℕ) → j < length t.hyperedges → all is_word (get_or t.hyperedges j no_hyperedge).members ≡ true

module _ (ws : List ℕ) (a : all is_word ws ≡ true) where
  word_at : (i : ℕ) → get_or ws i 0 < word_values
  unfolding is_word
  word_at i = on_below i (length ws) (λ h. ltb-true _ _ (all-at is_word ws i 0 a h)) (λ h. rw (get_or-eq_default ws 0 {n = i} h) (omega arith))

  part-words : (c b : ℕ) → all is_word (take c (drop b ws)) ≡ true
  unfolding is_word
  part-words c b = all_of is_word (take c (drop b ws)) 0 (λ i h.
      rw (get_or-take c (drop b ws) i 0 (omega (arith, length-take c (drop b ws))), get_or-drop b ws i 0) (lt-ltb _ word_values (word_at (b + i))))

  pub read-worded : Worded (read limit ws)
  read-worded = record {
    next-vertex = word_at 0;
    next-hyperedge = word_at 1;
    vertex-number = λ i h. rw (getD-tab (vertex_at ws) (vertex_count ws) i no_vertex (rw length-tab at h)) (word_at (vertex_word i));
    vertex-weight = λ i h. rw (getD-tab (vertex_at ws) (vertex_count ws) i no_vertex (rw length-tab at h)) (word_at (vertex_word i + 1));
    hyperedge-number = λ j h. rw (getD-tab (hyperedge_at limit ws) (hyperedge_count ws) j no_hyperedge (rw length-tab at h)) (word_at (hyperedge_word limit j));
    hyperedge-weight = λ j h. rw (getD-tab (hyperedge_at limit ws) (hyperedge_count ws) j no_hyperedge (rw length-tab at h)) (word_at (hyperedge_word limit j + 1));
    members = λ j h. rw (getD-tab (hyperedge_at limit ws) (hyperedge_count ws) j no_hyperedge (rw length-tab at h)) (part-words (count_at limit ws j) (hyperedge_word limit j + 3));
  }

all-flat : {A : Type 0} (f : A → List ℕ) (xs : List A) (d : A) → ((i : ℕ) → i < length xs → all is_word (f (get_or xs i d)) ≡ true) → all is_word (flat f xs) ≡ true
unfolding all flat
all-flat f [] d h = refl
all-flat f (x ∷ xs) d h = all_join is_word (f x) (flat f xs) (h zero (zero-lt-suc (length xs))) (all-flat f xs d (λ i l. h (suc i) (suc-le-suc l)))

pub all_none : (k : ℕ) → all is_word (replicate k 0) ≡ true
unfolding all is_word
all_none zero = refl
all_none (suc k) = and_both _ _ refl (all_none k)

padded : (n : ℕ) (xs : List ℕ) → all is_word xs ≡ true → all is_word (pad n xs) ≡ true
padded n xs a = all_join is_word xs (replicate (n - length xs) 0) a (all_none (n - length xs))

-- the words of a content that fits in words
pub words-fit : (t : Table) → Holdable limit t → Worded t → all is_word (words limit t) ≡ true
unfolding words all is_word
words-fit t d w =
    let head : List ℕ = t.next_vertex ∷ t.next_hyperedge ∷ length t.vertices ∷ length t.hyperedges ∷ [] in
    let vs : List ℕ = pad (vertex_limit * vertex_size) (flat vertex_words t.vertices) in
    let es : List ℕ = pad (hyperedge_limit * record_size limit) (flat (hyperedge_words limit) t.hyperedges) in
    all_join is_word (head ++ vs) es (all_join is_word head vs
    (and_both _ _ (lt-ltb _ word_values w.next-vertex) (and_both _ _ (lt-ltb _ word_values w.next-hyperedge)
    (and_both _ _ (lt-ltb (length t.vertices) word_values (omega (arith, d.vertices-le))) (and_both _ _ (lt-ltb (length t.hyperedges) word_values (omega (arith, d.hyperedges-le))) refl))))
    (padded (vertex_limit * vertex_size) (flat vertex_words t.vertices) (all-flat vertex_words t.vertices no_vertex (λ i h.
    and_both _ _ (lt-ltb _ word_values (w.vertex-number i h)) (and_both _ _ (lt-ltb _ word_values (w.vertex-weight i h)) refl)))))
    (padded (hyperedge_limit * record_size limit) (flat (hyperedge_words limit) t.hyperedges) (all-flat (hyperedge_words limit) t.hyperedges no_hyperedge (λ j h.
    and_both _ _ (lt-ltb _ word_values (w.hyperedge-number j h)) (and_both _ _ (lt-ltb _ word_values (w.hyperedge-weight j h))
    (and_both _ _ (lt-ltb (length (get_or t.hyperedges j no_hyperedge).members) word_values (omega (arith, members-le d no_hyperedge j h)))
    (padded limit (get_or t.hyperedges j no_hyperedge).members (w.members j h)))))))
