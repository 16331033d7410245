-- A list renamed in place, record after record; the words that are left are those of the table renamed. Assumes nothing.
use mathlib.Core.Path.{◌≡◌, sym, ap, ◌∙◌}
use mathlib.Core.Bool.{true}
use mathlib.Core.List.{List, [], ◌∷◌, ◌++◌, map}
use Prim.Native.Nat.{ℕ, ◌+◌, ◌-◌, ◌≤◌, ◌<◌}
use native.Mathlib.Nat.{mul-le-mul_right, add-zero}
use native.Mathlib.Numerals.{add-one}
use native.Mathlib.Omega.{arith}
use lib.ListN.{length, get_or, set, take, drop, replicate, length-drop, length-replicate, take-append-drop, get_or-append}
use lib.Seq.{paste, set-get_or, take-add, drop-drop, drop-paste, get_or-take, length-take-le, take_all}
use Rattle.lists.specs.Lists.{zeros, tab, flat}
use Rattle.lists.proofs.All.{zeros-are}
use Rattle.lists.proofs.Tab.{tab-suc, map-tab, getD-tab}
use Rattle.lists.proofs.Maps.{map-length, map_snoc}
use Rattle.lists.proofs.Parts.{part-words}
use Rattle.layout.specs.Content.{Hyperedge}
use Rattle.layout.specs.Layout.{hyperedge_limit, record_size, hyperedges_at, size, hyperedge_word, hyperedge_count, count_at, members_at, hyperedge_at, hyperedge_words, read, words}
use Rattle.layout.specs.WellFormed.{unused_hyperedges}
use Rattle.layout.specs.Inner.{Formed}
use Rattle.layout.proofs.Read.{members-le}
use Rattle.layout.proofs.Shape.{count-rest}
use Rattle.edits.specs.Edits.{read_as, renamed, rename_vertex}
use Rattle.edits.specs.Rewriting.{Rewritten}
use Rattle.edits.proofs.Copied.{Copied, copied_more, copied-read, copied_all}
use Rattle.edits.proofs.Merged.{read-gone, read-other}
use Rattle.edits.proofs.Relaid.{take-before}
use Rattle.edits.proofs.Rewritten.{record-stored, rewritten-none, record-inside, word_same, record_same, count_same, rewritten-more, rewritten-done}

-- ---- words

-- what `read_as` answers
module _ (v w x : ℕ) where
  pub as-v : x ≡ w → v ≡ read_as v w x
  as-v e = sym (read-gone v w x e)

  pub as-itself : (x ≡ w → ⊥) → x ≡ read_as v w x
  as-itself ne = sym (read-other v w x ne)

-- the n words from a on, with w read as v
abbrev pub words_read : ℕ → ℕ → List ℕ → ℕ → ℕ → List ℕ
words_read v w d a n = map (read_as v w) (take n (drop a d))

module _ (v w : ℕ) (d : List ℕ) (a n : ℕ) (h : a + n ≤ length d) where
  read_length : length (words_read v w d a n) ≡ n
  read_length = map-length (read_as v w) (take n (drop a d)) ∙ length-take-le n (drop a d) (rw length-drop (omega arith))

  word_read_lem : (i : ℕ) → i < n → get_or (words_read v w d a n) i 0 ≡ read_as v w (get_or d (a + i) 0)
  word_read_lem i l =
      ap (λ (r : List ℕ). get_or (map (read_as v w) r) i 0) (sym (part-words n a d h))
      ∙ ap (λ (r : List ℕ). get_or r i 0) (map-tab (read_as v w) (λ i. get_or d (a + i) 0) n) ∙ getD-tab (λ i. read_as v w (get_or d (a + i) 0)) n i 0 l

  -- a turn of the loop: it reads where nothing was stored yet
  pub words_more : (s : List ℕ) (i x : ℕ) → Copied d a (words_read v w d a n) i s → i < n → x ≡ read_as v w (get_or s (a + i) 0)
      → Copied d a (words_read v w d a n) (i + 1) (set s (a + i) x)
  words_more s i x c l e =
      let there : get_or s (a + i) 0 ≡ get_or d (a + i) 0 = rw add-zero at (copied-read c (omega arith) (omega (arith, read_length)) 0) in
      copied_more x c (omega arith) (omega (arith, read_length)) (e ∙ ap (read_as v w) there ∙ sym (word_read_lem i l))

  pub words-done : (s : List ℕ) (i : ℕ) → Copied d a (words_read v w d a n) i s → i ≤ n → n ≤ i → s ≡ paste d a (words_read v w d a n) n
  words-done s i c l m = copied_all n c (omega arith)

-- n is what `member_count` found
pub words-counted : (v w : ℕ) (d : List ℕ) (a n c : ℕ) (s : List ℕ) → n ≡ c → s ≡ paste d a (words_read v w d a n) n → s ≡ paste d a (words_read v w d a c) c
words-counted v w d a n c s e q = q ∙ ap (λ (k : ℕ). paste d a (words_read v w d a k) k) e

-- ---- record after record

-- words that stand there already
paste-same : (d : List ℕ) (p n : ℕ) (x : List ℕ) → take n (drop p d) ≡ x → length x ≡ n → d ≡ paste d p x n
paste-same d p n x e l =
    sym (take-append-drop (p + n) d) ∙ ap (λ (r : List ℕ). r ++ drop (p + n) d) (take-add p n d ∙ ap (λ (r : List ℕ). take p d ++ r) (e ∙ sym (take_all n x (omega arith))))

-- after j records: each is renamed in its place
abbrev pub Renamed : ℕ → ℕ → ℕ → List ℕ → ℕ → List ℕ → Type 0
Renamed L v w ws j s = Rewritten L ws (map (renamed v w) (tab (hyperedge_at L ws) j)) j j s

pub renamed-none : (L v w : ℕ) (ws : List ℕ) → Renamed L v w ws 0 ws
unfolding tab
renamed-none L v w ws = rewritten-none L ws

-- a turn of the loop: s' is what `rename_record` left
module _ (L v w : ℕ) (ws : List ℕ) (j : ℕ) (s : List ℕ) (f : Formed L ws) (st : Renamed L v w ws j s) (h : j < hyperedge_count ws)
    (s' : List ℕ) (e : s' ≡ paste s (hyperedge_word L j + 3) (map (read_as v w) (members_at L s j)) (count_at L s j)) where
  within : hyperedge_word L j + record_size L ≤ length s
  within = record-inside L ws _ j j s f st h

  count-le : count_at L s j ≤ L
  count-le = count_same L ws _ j j s f st h

  now-length : length (map (read_as v w) (members_at L s j)) ≡ count_at L s j
  now-length = read_length v w s (hyperedge_word L j + 3) (count_at L s j) (omega (arith, within, count-le))

  -- the padding is 0 still
  padded : s' ≡ paste s' (hyperedge_word L j + 3 + count_at L s j) (replicate (L - count_at L s j) 0) (L - count_at L s j)
  padded =
      let b : ℕ = hyperedge_word L j in
      let c : ℕ = count_at L s j in
      let behind : drop (b + 3 + c) s' ≡ drop (b + 3 + c) ws =
      ap (drop (b + 3 + c)) e ∙ drop-paste s (b + 3) (map (read_as v w) (members_at L s j)) c (omega (arith, within)) (omega (arith, now-length))
      ∙ ap (λ (n : ℕ). drop n s) (let q : b + 3 + c ≡ b + (3 + c) = omega arith in q) ∙ sym (drop-drop (3 + c) b s) ∙ ap (drop (3 + c)) st.ahead
      ∙ drop-drop (3 + c) b ws ∙ ap (λ (n : ℕ). drop n ws) (let q : b + (3 + c) ≡ b + 3 + c = omega arith in q) in
      let rest : List ℕ = take (L - c) (drop (b + 3 + c) ws) in
      let l : length rest ≡ L - c = length-take-le (L - c) (drop (b + 3 + c) ws) (rw length-drop (omega (arith, within, count-le, st.same))) in
      let z : zeros rest ≡ true = rw (← word_same L ws _ j j s f st h 2) at (count-rest L ws (hyperedge_count ws) j f.shape.records h) in
      paste-same s' (b + 3 + c) (L - c) (replicate (L - c) 0) (ap (take (L - c)) behind ∙ zeros-are rest z ∙ ap (λ (n : ℕ). replicate n 0) l) (length-replicate (L - c) 0)

  -- the head is as it was
  stays : (i : ℕ) → i < hyperedge_word L j + 3 → set s' i (get_or s i 0) ≡ s'
  stays i l =
      let b : ℕ = hyperedge_word L j + 3 in
      let same : get_or s' i 0 ≡ get_or s i 0 =
      sym (get_or-take b s' i 0 l) ∙ ap (λ (r : List ℕ). get_or r i 0) (ap (take b) e ∙ take-before s b (map (read_as v w) (members_at L s j)) (count_at L s j) (omega (arith, within))) ∙ get_or-take b s i 0 l in
      ap (set s' i) (sym same) ∙ set-get_or s' i 0

  headed : s' ≡ set (set (set s' (hyperedge_word L j) (get_or s (hyperedge_word L j) 0)) (hyperedge_word L j + 1) (get_or s (hyperedge_word L j + 1) 0)) (hyperedge_word L j + 2) (count_at L s j)
  headed =
      let b : ℕ = hyperedge_word L j in
      sym (ap (λ (l : List ℕ). set (set l (b + 1) (get_or s (b + 1) 0)) (b + 2) (get_or s (b + 2) 0)) (stays b (omega arith))
      ∙ ap (λ (l : List ℕ). set l (b + 2) (get_or s (b + 2) 0)) (stays (b + 1) (omega arith)) ∙ stays (b + 2) (omega arith))

  -- so that the whole record is written anew
  recorded : s' ≡ paste s (hyperedge_word L j) (hyperedge_words L (renamed v w (hyperedge_at L ws j))) (record_size L)
  unfolding renamed
  recorded =
      record-stored L s (map (read_as v w) (members_at L s j)) (hyperedge_word L j) (count_at L s j) (get_or s (hyperedge_word L j) 0) (get_or s (hyperedge_word L j + 1) 0) s' s' s'
      within (sym now-length) count-le e padded headed
      ∙ ap (λ (x : Hyperedge). paste s (hyperedge_word L j) (hyperedge_words L (renamed v w x)) (record_size L)) (record_same L ws _ j j s f st h)

  new-le : length (renamed v w (hyperedge_at L ws j)).members ≤ L
  unfolding renamed
  new-le = omega (arith, map-length (read_as v w) (members_at L ws j), members-le L ws f j h)

  renamed-more : Renamed L v w ws (j + 1) s'
  renamed-more =
      let x : Hyperedge = hyperedge_at L ws j in
      let es : List Hyperedge = map (renamed v w) (tab (hyperedge_at L ws) j) in
      let one : map (renamed v w) (tab (hyperedge_at L ws) (j + 1)) ≡ es ++ (renamed v w x ∷ []) =
      ap (map (renamed v w)) (ap (tab (hyperedge_at L ws)) (add-one j) ∙ tab-suc (hyperedge_at L ws) j) ∙ map_snoc (renamed v w) (tab (hyperedge_at L ws) j) x in
      rw one (rewritten-more L ws es j j s f st h (renamed v w x) new-le s' recorded)

-- the loop's end
module _ (L v w : ℕ) (ws : List ℕ) (m : ℕ) (s : List ℕ) (f : Formed L ws) (em : m ≡ hyperedge_count ws) (st : Renamed L v w ws m s) where
  after : hyperedge_word L m ≤ length s
  after = omega (arith, st.same, f.shape.sized, mul-le-mul_right (record_size L) (let q : m ≤ hyperedge_limit = omega (arith, f.shape.hyperedges-le) in q))

  -- what is behind the records is 0 still
  cleared : s ≡ paste s (hyperedge_word L m) (replicate (size L - hyperedge_word L m) 0) (size L - hyperedge_word L m)
  unfolding unused_hyperedges
  cleared =
      let n : ℕ = size L - hyperedge_word L m in
      let rest : List ℕ = drop (hyperedge_word L m) ws in
      let l : length rest ≡ n = rw length-drop (omega (arith, f.shape.sized)) in
      let z : zeros rest ≡ true = rw em f.shape.hyperedges-rest in
      paste-same s (hyperedge_word L m) n (replicate n 0)
      (take_all n (drop (hyperedge_word L m) s) (rw length-drop (omega (arith, st.same, f.shape.sized))) ∙ st.ahead ∙ zeros-are rest z ∙ ap (λ (k : ℕ). replicate k 0) l) (length-replicate n 0)

  -- and the count is as it was
  counted : s ≡ set s 3 m
  counted =
      let b : ℕ = hyperedge_word L m in
      let flats : List ℕ = flat (hyperedge_words L) (map (renamed v w) (tab (hyperedge_at L ws) m)) in
      let l : length (take hyperedges_at ws) ≡ hyperedges_at = length-take-le hyperedges_at ws (omega (arith, f.shape.sized)) in
      let same : get_or s 3 0 ≡ m =
      sym (get_or-take b s 3 0 (omega arith)) ∙ ap (λ (r : List ℕ). get_or r 3 0) st.front ∙ get_or-append (take hyperedges_at ws) flats 0 3 (omega arith) ∙ get_or-take hyperedges_at ws 3 0 (omega arith) ∙ sym em in
      sym (set-get_or s 3 0) ∙ ap (set s 3) same

  renamed-done : s ≡ words L (rename_vertex v w (read L ws))
  unfolding rename_vertex
  renamed-done =
      rewritten-done L ws _ m m s s s f em st cleared counted
      ∙ ap (λ (i : ℕ). words L (record { next_vertex = (read L ws).next_vertex; next_hyperedge = (read L ws).next_hyperedge; vertices = (read L ws).vertices; hyperedges = map (renamed v w) (tab (hyperedge_at L ws) i) })) em

-- for `search`: m is what `hyperedge_count` found
module _ (L v w : ℕ) (ws : List ℕ) (j m : ℕ) (s : List ℕ) (f : Formed L ws) (em : m ≡ hyperedge_count ws) (st : Renamed L v w ws j s) where
  pub renamed-count : j < m → count_at L s j ≤ L
  renamed-count h = count_same L ws _ j j s f st (omega arith)

  pub renamed-turn : j < m → (s' : List ℕ) → s' ≡ paste s (hyperedge_word L j + 3) (map (read_as v w) (members_at L s j)) (count_at L s j) → Renamed L v w ws (j + 1) s'
  renamed-turn h s' e = renamed-more L v w ws j s f st (omega arith) s' e

  pub renamed-end : j ≤ m → m ≤ j → s ≡ words L (rename_vertex v w (read L ws))
  renamed-end h l = renamed-done L v w ws j s f (omega arith) st
