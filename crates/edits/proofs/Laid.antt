-- A table's words part by part: what they are where a part is another, and where a record is taken out. Assumes nothing.
use mathlib.Core.Path.{◌≡◌, refl, sym, ap, ap₂, ◌∙◌}
use mathlib.Core.List.{List, [], ◌∷◌, ◌++◌, append_assoc}
use Prim.Native.Nat.{ℕ, suc, ◌+◌, ◌*◌, ◌-◌, ◌≤◌, ◌<◌}
use native.Mathlib.Nat.{mul-le-mul_right}
use native.Mathlib.Omega.{arith}
use lib.ListN.{length, get_or, set, take, drop, replicate, length-append, length-drop, replicate-append-replicate}
use lib.Seq.{split_at, length-take-le, get_or-take, take_at, drop_at, drop-drop}
use Rattle.lists.specs.Lists.{flat, pad}
use Rattle.lists.specs.Inner.{shifted}
use Rattle.lists.proofs.Flat.{flat_append, Uniform, flat-length, length-pad}
use Rattle.layout.specs.Content.{Vertex, Hyperedge, Table, no_vertex, no_hyperedge}
use Rattle.layout.specs.Layout.{vertex_limit, hyperedge_limit, vertex_size, record_size, vertices_at, hyperedges_at, vertex_words, hyperedge_words, words}

-- ---- one of the records laid one after the other is taken out

-- the words x between a and b are taken out, and 0 follows
taken_out : (a x b : List ℕ) (n i k : ℕ) → length a ≡ i → length x ≡ k → length (a ++ (x ++ b)) ≤ n → shifted (pad n (a ++ (x ++ b))) i k ≡ pad n (a ++ b)
unfolding shifted
taken_out a x b n i k ea ex h =
    ap₂ (λ (l m : List ℕ). l ++ (m ++ replicate k 0)) (ap (take i) whole ∙ take_at a (x ++ (b ++ z)) i ea) (ap (drop (i + k)) whole ∙ sym (drop-drop k i (a ++ (x ++ (b ++ z)))) ∙ ap (drop k) (drop_at a (x ++ (b ++ z)) i ea) ∙ drop_at x (b ++ z) k ex)
    ∙ ap (λ (r : List ℕ). a ++ r) (append_assoc b z (replicate k 0) ∙ ap (λ (r : List ℕ). b ++ r) (replicate-append-replicate (n - length (a ++ (x ++ b))) k 0 ∙ ap (λ (m : ℕ). replicate m 0) more))
    ∙ sym (append_assoc a b (replicate (n - length (a ++ b)) 0))
  where
    z : List ℕ
    z = replicate (n - length (a ++ (x ++ b))) 0

    whole : (a ++ (x ++ b)) ++ z ≡ a ++ (x ++ (b ++ z))
    whole = append_assoc a (x ++ b) z ∙ ap (λ (l : List ℕ). a ++ l) (append_assoc x b z)

    more : n - length (a ++ (x ++ b)) + k ≡ n - length (a ++ b)
    more = omega (arith, length-append a (x ++ b), length-append x b, length-append a b)

flat-parts : {A : Type 0} (f : A → List ℕ) (xs : List A) (d : A) (j : ℕ) → j < length xs → flat f xs ≡ flat f (take j xs) ++ (f (get_or xs j d) ++ flat f (drop (suc j) xs))
unfolding flat
flat-parts f xs d j h = ap (flat f) (split_at xs j d h) ∙ flat_append f (take j xs) (get_or xs j d ∷ drop (suc j) xs)

-- the records lie without a gap, and 0 follows
module _ {A : Type 0} (f : A → List ℕ) (k : ℕ) (xs : List A) (d : A) (u : Uniform f k xs d) (j : ℕ) (h : j < length xs) where
  before-length : length (flat f (take j xs)) ≡ j * k
  before-length =
      let lj : length (take j xs) ≡ j = length-take-le j xs (omega arith) in
      flat-length f k (take j xs) d (λ i m. rw (get_or-take j xs i d (rw lj at m)) (u i (omega arith))) ∙ ap (λ (i : ℕ). i * k) lj

  shifted-flat : (n : ℕ) → length xs * k ≤ n → shifted (pad n (flat f xs)) (j * k) k ≡ pad n (flat f (take j xs ++ drop (suc j) xs))
  shifted-flat n l =
      let e = flat-parts f xs d j h in
      ap (λ (r : List ℕ). shifted (pad n r) (j * k) k) e
      ∙ taken_out (flat f (take j xs)) (f (get_or xs j d)) (flat f (drop (suc j) xs)) n (j * k) k before-length (u j h) (rw (← e, flat-length f k xs d u) l)
      ∙ sym (ap (pad n) (flat_append f (take j xs) (drop (suc j) xs)))

-- ---- the parts of a table's words

abbrev vertex_area : List Vertex → List ℕ
vertex_area vs = pad (vertex_limit * vertex_size) (flat vertex_words vs)

abbrev hyperedge_area : ℕ → List Hyperedge → List ℕ
hyperedge_area L es = pad (hyperedge_limit * record_size L) (flat (hyperedge_words L) es)

abbrev head_of : Table → List ℕ
head_of t = t.next_vertex ∷ t.next_hyperedge ∷ length t.vertices ∷ length t.hyperedges ∷ []

less_one : {A : Type 0} (xs : List A) (j : ℕ) → j < length xs → length (take j xs ++ drop (suc j) xs) ≡ length xs - 1
less_one xs j h = length-append (take j xs) (drop (suc j) xs) ∙ omega (arith, length-take-le j xs (omega arith), length-drop (suc j) xs)

module _ (L : ℕ) (t : Table) (hv : length t.vertices ≤ vertex_limit) where
  vertices-length : length (vertex_area t.vertices) ≡ vertex_limit * vertex_size
  vertices-length =
      length-pad (vertex_limit * vertex_size) (flat vertex_words t.vertices) (omega (arith, flat-length vertex_words vertex_size t.vertices no_vertex (λ i h. refl)))

  front_length : length (head_of t ++ vertex_area t.vertices) ≡ hyperedges_at
  front_length = omega (arith, length-append (head_of t) (vertex_area t.vertices), vertices-length)

  front_of : take hyperedges_at (words L t) ≡ head_of t ++ vertex_area t.vertices
  unfolding words
  front_of = take_at (head_of t ++ vertex_area t.vertices) (hyperedge_area L t.hyperedges) hyperedges_at front_length

  hyperedges-of : drop hyperedges_at (words L t) ≡ hyperedge_area L t.hyperedges
  unfolding words
  hyperedges-of = drop_at (head_of t ++ vertex_area t.vertices) (hyperedge_area L t.hyperedges) hyperedges_at front_length

  vertices-of : take (vertex_limit * vertex_size) (drop vertices_at (words L t)) ≡ vertex_area t.vertices
  unfolding words
  vertices-of = take_at (vertex_area t.vertices) (hyperedge_area L t.hyperedges) (vertex_limit * vertex_size) vertices-length

  -- other hyperedges, and other vertices
  pub with-hyperedges : (es : List Hyperedge) → set (take hyperedges_at (words L t) ++ hyperedge_area L es) 3 (length es)
      ≡ words L (record { next_vertex = t.next_vertex; next_hyperedge = t.next_hyperedge; vertices = t.vertices; hyperedges = es })
  unfolding words
  with-hyperedges es = ap (λ (l : List ℕ). set (l ++ hyperedge_area L es) 3 (length es)) front_of

  pub with-vertices : (vs : List Vertex) → set (take vertices_at (words L t) ++ (vertex_area vs ++ drop hyperedges_at (words L t))) 2 (length vs)
      ≡ words L (record { next_vertex = t.next_vertex; next_hyperedge = t.next_hyperedge; vertices = vs; hyperedges = t.hyperedges })
  unfolding words
  with-vertices vs = ap (λ (l : List ℕ). set (head_of t ++ (vertex_area vs ++ l)) 2 (length vs)) hyperedges-of

  -- hyperedge j taken out, and vertex i
  pub hyperedge-out : (j : ℕ) → j < length t.hyperedges → length t.hyperedges ≤ hyperedge_limit → Uniform (hyperedge_words L) (record_size L) t.hyperedges no_hyperedge
      → set (take hyperedges_at (words L t) ++ shifted (drop hyperedges_at (words L t)) (j * record_size L) (record_size L)) 3 (length t.hyperedges - 1)
      ≡ words L (record { next_vertex = t.next_vertex; next_hyperedge = t.next_hyperedge; vertices = t.vertices; hyperedges = take j t.hyperedges ++ drop (suc j) t.hyperedges })
  hyperedge-out j h le u =
      ap₂ (λ (l : List ℕ) (m : ℕ). set (take hyperedges_at (words L t) ++ l) 3 m)
      (ap (λ (l : List ℕ). shifted l (j * record_size L) (record_size L)) hyperedges-of
      ∙ shifted-flat (hyperedge_words L) (record_size L) t.hyperedges no_hyperedge u j h (hyperedge_limit * record_size L) (mul-le-mul_right (record_size L) le))
      (sym (less_one t.hyperedges j h))
      ∙ with-hyperedges (take j t.hyperedges ++ drop (suc j) t.hyperedges)

  pub vertex-out : (i : ℕ) → i < length t.vertices
      → set (take vertices_at (words L t) ++ (shifted (take (vertex_limit * vertex_size) (drop vertices_at (words L t))) (i * vertex_size) vertex_size ++ drop hyperedges_at (words L t))) 2 (length t.vertices - 1)
      ≡ words L (record { next_vertex = t.next_vertex; next_hyperedge = t.next_hyperedge; vertices = take i t.vertices ++ drop (suc i) t.vertices; hyperedges = t.hyperedges })
  vertex-out i h =
      ap₂ (λ (l : List ℕ) (m : ℕ). set (take vertices_at (words L t) ++ (l ++ drop hyperedges_at (words L t))) 2 m)
      (ap (λ (l : List ℕ). shifted l (i * vertex_size) vertex_size) vertices-of
      ∙ shifted-flat vertex_words vertex_size t.vertices no_vertex (λ i h. refl) i h (vertex_limit * vertex_size) (omega arith))
      (sym (less_one t.vertices i h))
      ∙ with-vertices (take i t.vertices ++ drop (suc i) t.vertices)
