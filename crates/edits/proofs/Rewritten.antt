-- A hyperedge record stored part by part, and the records written anew one after the other: the words that are left are those of the table with the new
-- hyperedges. Assumes nothing.
use mathlib.Core.Path.{◌≡◌, sym, ap, ap₂, ◌∙◌}
use mathlib.Core.List.{List, [], ◌∷◌, ◌++◌, append_assoc, append-nil}
use Prim.Native.Nat.{ℕ, suc, ◌+◌, ◌*◌, ◌-◌, ◌≤◌, ◌<◌}
use native.Mathlib.Nat.{mul-le-mul_right, suc-mul}
use native.Mathlib.Numerals.{add-one, add-two}
use native.Mathlib.Omega.{arith}
use lib.ListN.{length, get_or, set, take, drop, replicate, length-append, length-replicate, drop_of_length-le}
use lib.Seq.{paste, sets-eq, take-paste, drop-paste, length-paste, take_all, take-take, take-append-le, drop_at, drop-drop, get_or-drop, length-take-le}
use Rattle.lists.specs.Lists.{flat, pad}
use Rattle.lists.proofs.Tab.{length-tab}
use Rattle.lists.proofs.Flat.{length-pad}
use Rattle.layout.specs.Content.{Hyperedge}
use Rattle.layout.specs.Layout.{hyperedge_limit, record_size, hyperedges_at, size, hyperedge_word, hyperedge_count, count_at, hyperedge_at, hyperedge_words, next_vertex_in, next_hyperedge_in, read_vertices, read, words}
use Rattle.layout.specs.Inner.{Formed}
use Rattle.layout.proofs.Record.{hyperedge-moved}
use Rattle.layout.proofs.Words.{words-read}
use Rattle.edits.specs.Rewriting.{Rewritten}
use Rattle.edits.proofs.Laid.{with-hyperedges}
use Rattle.edits.proofs.Relaid.{relaid-none, relaid-more, relaid-skip, relaid-cleared}

-- ---- one record: F and its padding are stored behind the three words of its head

-- two pastes, one right behind the other
paste-paste : (d : List ℕ) (p : ℕ) (x y : List ℕ) (i j : ℕ) → length x ≡ i → length y ≡ j → p ≤ length d → paste (paste d p x i) (p + i) y j ≡ paste d p (x ++ y) (i + j)
paste-paste d p x y i j ex ey h =
    let le : i ≤ length x = omega arith in
    ap₂ (λ (l r : List ℕ). l ++ take j y ++ r) (take-paste d p x i h le)
    (sym (drop-drop j (p + i) (paste d p x i)) ∙ ap (drop j) (drop-paste d p x i h le) ∙ drop-drop j (p + i) d ∙ ap (λ (n : ℕ). drop n d) (let e : p + i + j ≡ p + (i + j) = omega arith in e))
    ∙ ap (λ (r : List ℕ). r ++ drop (p + (i + j)) d)
    (append_assoc (take p d) (take i x) (take j y)
    ∙ ap (λ (r : List ℕ). take p d ++ r)
    (ap₂ ◌++◌ (take_all i x (omega arith)) (take_all j y (omega arith)) ∙ sym (take_all (i + j) (x ++ y) (rw (length-append x y) (omega arith)))))

-- three words stored right before a paste
head-paste : (d : List ℕ) (a n x w c : ℕ) (m : List ℕ) → length m ≡ n → a + (3 + n) ≤ length d
    → set (set (set (paste d (a + 3) m n) a x) (a + 1) w) (a + 2) c ≡ paste d a (x ∷ w ∷ c ∷ m) (3 + n)
head-paste d a n x w c m em h =
    let le : n ≤ length m = omega arith in
    let l3 : length (take (a + 3) d) ≡ a + 3 = length-take-le (a + 3) d (omega arith) in
    let len : length (paste d (a + 3) m n) ≡ length d = length-paste d (a + 3) m n (omega arith) le in
    ap₂ (λ (i j : ℕ). set (set (set (paste d (a + 3) m n) a x) i w) j c) (add-one a) (add-two a)
    ∙ sets-eq (x ∷ w ∷ c ∷ []) (paste d (a + 3) m n) a (omega arith)
    ∙ ap₂ (λ (l r : List ℕ). l ++ (x ∷ w ∷ c ∷ []) ++ r)
    (ap (take a) (append_assoc (take (a + 3) d) (take n m) (drop (a + 3 + n) d)) ∙ take-append-le a (take (a + 3) d) (take n m ++ drop (a + 3 + n) d) (omega arith) ∙ take-take a (a + 3) d (omega arith))
    (ap (drop (a + 3)) (append_assoc (take (a + 3) d) (take n m) (drop (a + 3 + n) d)) ∙ drop_at (take (a + 3) d) (take n m ++ drop (a + 3 + n) d) (a + 3) l3)
    ∙ sym (append_assoc (take a d ++ (x ∷ w ∷ c ∷ [])) (take n m) (drop (a + 3 + n) d))
    ∙ ap₂ (λ (l : List ℕ) (i : ℕ). l ++ drop i d)
    (append_assoc (take a d) (x ∷ w ∷ c ∷ []) (take n m)
    ∙ ap (λ (l : List ℕ). take a d ++ l) (ap (λ (l : List ℕ). x ∷ w ∷ c ∷ l) (take_all n m (omega arith)) ∙ sym (take_all (3 + n) (x ∷ w ∷ c ∷ m) (omega arith))))
    (let e : a + 3 + n ≡ a + (3 + n) = omega arith in e)

-- d₂ after the members, d₃ after the padding, d₄ after the head
pub record-stored : (L : ℕ) (d F : List ℕ) (a c x w : ℕ) (d₂ d₃ d₄ : List ℕ) → a + (3 + L) ≤ length d → c ≡ length F → c ≤ L
    → d₂ ≡ paste d (a + 3) F c → d₃ ≡ paste d₂ (a + 3 + c) (replicate (L - c) 0) (L - c) → d₄ ≡ set (set (set d₃ a x) (a + 1) w) (a + 2) c
    → d₄ ≡ paste d a (x ∷ w ∷ length F ∷ pad L F) (3 + L)
record-stored L d F a c x w d₂ d₃ d₄ h ec hc e₂ e₃ e₄ =
    let f : c + (L - c) ≡ L = omega arith in
    let body : d₃ ≡ paste d (a + 3) (pad L F) L =
    e₃ ∙ ap (λ (s : List ℕ). paste s (a + 3 + c) (replicate (L - c) 0) (L - c)) e₂
    ∙ paste-paste d (a + 3) F (replicate (L - c) 0) c (L - c) (sym ec) (length-replicate (L - c) 0) (omega arith)
    ∙ ap₂ (λ (i j : ℕ). paste d (a + 3) (F ++ replicate (L - i) 0) j) ec f in
    e₄ ∙ ap₂ (λ (s : List ℕ) (i : ℕ). set (set (set s a x) (a + 1) w) (a + 2) i) body ec
    ∙ head-paste d a L x w (length F) (pad L F) (length-pad L F (omega arith)) h

-- ---- record after record

pub rewritten-none : (L : ℕ) (ws : List ℕ) → Rewritten L ws [] 0 0 ws
rewritten-none L ws = relaid-none (hyperedge_words L) hyperedges_at (record_size L) ws

module _ (L : ℕ) (ws : List ℕ) (es : List Hyperedge) (j k : ℕ) (s : List ℕ) (f : Formed L ws) (st : Rewritten L ws es j k s) (h : j < hyperedge_count ws) where
  -- record j lies within the words, and is as it was
  pub record-inside : hyperedge_word L j + record_size L ≤ length s
  record-inside =
      omega (arith, st.same, f.shape.sized, mul-le-mul_right (record_size L) (let q : suc j ≤ hyperedge_count ws = omega arith in q), mul-le-mul_right (record_size L) f.shape.hyperedges-le, suc-mul j (record_size L))

  pub word_same : (r : ℕ) → get_or s (hyperedge_word L j + r) 0 ≡ get_or ws (hyperedge_word L j + r) 0
  word_same r = sym (get_or-drop (hyperedge_word L j) s r 0) ∙ ap (λ (x : List ℕ). get_or x r 0) st.ahead ∙ get_or-drop (hyperedge_word L j) ws r 0

  pub record_same : hyperedge_at L s j ≡ hyperedge_at L ws j
  record_same = hyperedge-moved L s ws j j record-inside (omega (arith, record-inside, st.same)) (λ r l. word_same r) (f.counts j h)

  pub count_same : count_at L s j ≤ L
  count_same = omega (arith, f.counts j h, word_same 2)

  -- e is written to record k's place
  module _ (e : Hyperedge) (le : length e.members ≤ L) (s' : List ℕ) (q : s' ≡ paste s (hyperedge_word L k) (hyperedge_words L e) (record_size L)) where
    words-length : length (hyperedge_words L e) ≡ record_size L
    words-length = omega (arith, length-pad L e.members le)

    -- it counts, or the next record overwrites it
    pub rewritten-more : Rewritten L ws (es ++ (e ∷ [])) (j + 1) (k + 1) s'
    rewritten-more = relaid-more (hyperedge_words L) hyperedges_at (record_size L) ws es j k s st (omega (arith, record-inside, st.same)) e words-length s' q

    pub rewritten-skip : Rewritten L ws es (j + 1) k s'
    rewritten-skip = relaid-skip (hyperedge_words L) hyperedges_at (record_size L) ws es j k s st (omega (arith, record-inside, st.same)) e words-length s' q

-- ---- what is behind the records that are written is cleared, and their count stored

pub rewritten-done : (L : ℕ) (ws : List ℕ) (es : List Hyperedge) (m k : ℕ) (s s₂ s₃ : List ℕ) → Formed L ws → m ≡ hyperedge_count ws → Rewritten L ws es m k s
    → s₂ ≡ paste s (hyperedge_word L k) (replicate (size L - hyperedge_word L k) 0) (size L - hyperedge_word L k) → s₃ ≡ set s₂ 3 k
    → s₃ ≡ words L (record { next_vertex = next_vertex_in ws; next_hyperedge = next_hyperedge_in ws; vertices = read_vertices ws; hyperedges = es })
rewritten-done L ws es m k s s₂ s₃ f em st e₂ e₃ =
    let n : ℕ = hyperedge_limit * record_size L in
    let z : size L - hyperedge_word L k ≡ n - k * record_size L = omega arith in
    let end : drop (size L) ws ≡ [] = drop_of_length-le ws {i = size L} (omega (arith, f.shape.sized)) in
    let area : s₂ ≡ take hyperedges_at ws ++ pad n (flat (hyperedge_words L) es) =
    relaid-cleared (hyperedge_words L) hyperedges_at (record_size L) ws es m k s st n (mul-le-mul_right (record_size L) (let q : m ≤ hyperedge_limit = omega (arith, f.shape.hyperedges-le) in q))
    (omega (arith, f.shape.sized)) s₂ (e₂ ∙ ap (λ (i : ℕ). paste s (hyperedge_word L k) (replicate i 0) i) z)
    ∙ ap (λ (r : List ℕ). take hyperedges_at ws ++ r) (ap (λ (r : List ℕ). pad n (flat (hyperedge_words L) es) ++ r) end ∙ append-nil _) in
    e₃ ∙ ap₂ (λ (l : List ℕ) (i : ℕ). set l 3 i) (area ∙ ap (λ (l : List ℕ). take hyperedges_at l ++ pad n (flat (hyperedge_words L) es)) (sym (words-read L ws f.shape))) st.count
    ∙ with-hyperedges L (read L ws) (rw length-tab f.shape.vertices-le) es
