-- The lines of a content's text, where each begins, and the texts that have the first of them. Assumes nothing.
use mathlib.Core.Path.{◌≡◌, refl, sym, ap, ap₂, ◌∙◌}
use mathlib.Core.Bool.{true, cond}
use mathlib.Core.Logic.{⊎_elim}
use mathlib.Core.List.{List, [], ◌∷◌, ◌++◌, append_assoc, append-nil}
use Prim.Native.Nat.{ℕ, zero, suc, ◌+◌, ◌-◌, ◌≤◌, ◌<◌}
use native.Mathlib.Nat.{add-zero, le_of_suc-le-suc, eq-or-lt_of_le, not-suc-le-zero}
use native.Mathlib.Omega.{arith}
use lib.Dec.{ltb}
use lib.ListN.{length, get_or, take, drop, length-append}
use lib.Seq.{drop_at, take_at, drop-length}
use borrow.Author.Tests.{lt-ltb, le-ltb}
use Rattle.lists.specs.Lists.{memb, tab, flat}
use Rattle.lists.proofs.Cases.{on}
use Rattle.lists.proofs.Tab.{tab-suc, tab-ext, length-tab}
use Rattle.lists.proofs.Flat.{flat_append, flat-snoc, tab-getD}
use Rattle.layout.specs.Content.{Vertex, Table, no_vertex, no_hyperedge}
use Rattle.frames.specs.Frames.{head_frame, vertex_frame, head_line, vertex_line, hyperedge_line, frame_text, number_bytes, short_bytes, sealed, byte_digits, digits, line, vertex_length, hyperedge_length}
use Rattle.frames.specs.Reading.{stands_at, vertex_place}
use Rattle.frames.specs.Faulty.{lines_of}
use Rattle.frames.proofs.Parse.{stands-eq, stands_by}
use Rattle.frames.proofs.Text.{hyperedge-length}
use Rattle.frame_laws.proofs.Lines.{line_first, line-ended, joined}

-- line k of a content's text: the head, then the vertices, then the hyperedges
unfoldable pub row_at : Table → ℕ → List ℕ
row_at t zero = head_line t
row_at t (suc k) =
    cond (ltb k (length t.vertices)) (vertex_line (get_or t.vertices k no_vertex)) (hyperedge_line (get_or t.hyperedges (k - length t.vertices) no_hyperedge))

-- how many they are
abbrev pub rows : Table → ℕ
rows t = suc (length t.vertices + length t.hyperedges)

-- where line k begins
unfoldable pub place_at : Table → ℕ → ℕ
place_at t zero = 0
place_at t (suc k) = place_at t k + length (row_at t k)

-- the first g lines of the content's text stand in the text
abbrev pub Agrees : ℕ → List ℕ → Table → Type 0
Agrees g text t = (k : ℕ) → k < g → stands_at text (place_at t k) (row_at t k) ≡ true

pub agrees-less : (g h : ℕ) (text : List ℕ) (t : Table) → h ≤ g → Agrees g text t → Agrees h text t
agrees-less g h text t l a k m = a k (omega arith)

vertex-length : (v : Vertex) → length (vertex_line v) ≡ vertex_length
unfolding vertex_line vertex_frame number_bytes sealed digits flat byte_digits line
vertex-length v = refl

tab-append : {A : Type 0} (f : ℕ → A) (a b : ℕ) → tab f (a + b) ≡ tab f a ++ tab (λ i. f (a + i)) b
unfolding tab
tab-append f a zero = ap (tab f) (add-zero a) ∙ sym (append-nil (tab f a))
tab-append {A} f a (suc b) =
    let e : a + suc b ≡ suc (a + b) = omega arith in
    ap (tab f) e ∙ tab-suc f (a + b) ∙ ap (λ (l : List A). l ++ (f (a + b) ∷ [])) (tab-append f a b)
    ∙ append_assoc (tab f a) (tab (λ i. f (a + i)) b) (f (a + b) ∷ []) ∙ ap (λ (l : List A). tab f a ++ l) (sym (tab-suc (λ i. f (a + i)) b))

joined-tab : {A : Type 0} (f : A → List ℕ) (g : ℕ → A) (n : ℕ) → joined (tab (λ i. f (g i)) n) ≡ flat f (tab g n)
unfolding tab flat
joined-tab f g zero = refl
joined-tab f g (suc n) = ap (λ (l : List ℕ). f (g zero) ++ l) (joined-tab f (λ i. g (suc i)) n)

module _ (t : Table) where
  pub row-vertex : (i : ℕ) → i < length t.vertices → row_at t (suc i) ≡ vertex_line (get_or t.vertices i no_vertex)
  unfolding row_at
  row-vertex i h = rw (lt-ltb i (length t.vertices) h)

  pub row-hyperedge : (j : ℕ) → row_at t (suc (length t.vertices + j)) ≡ hyperedge_line (get_or t.hyperedges j no_hyperedge)
  unfolding row_at
  row-hyperedge j =
      let n : ℕ = length t.vertices in
      let e : n + j - n ≡ j = omega arith in
      rw (le-ltb (n + j) n (omega arith), e)

  -- each is a line
  row_first : (k : ℕ) (rest : List ℕ) → lines_of (row_at t k ++ rest) ≡ row_at t k ∷ lines_of rest
  unfolding row_at head_line vertex_line hyperedge_line
  row_first zero rest = line_first _ rest
  row_first (suc k) rest = on (ltb k (length t.vertices)) (λ e. rw e (line_first _ rest)) (λ e. rw e (line_first _ rest))

  -- and ends with a line feed
  pub row-ended : (k : ℕ) → memb 10 (row_at t k) ≡ true
  unfolding row_at head_line vertex_line hyperedge_line
  row-ended zero = line-ended _
  row-ended (suc k) = on (ltb k (length t.vertices)) (λ e. rw e (line-ended _)) (λ e. rw e (line-ended _))

  -- ---- places

  joined-next : (g : ℕ) → joined (tab (row_at t) (suc g)) ≡ joined (tab (row_at t) g) ++ row_at t g
  joined-next g = ap joined (tab-suc (row_at t) g) ∙ flat-snoc (λ l. l) (tab (row_at t) g) (row_at t g)

  pub place_is : (g : ℕ) → length (joined (tab (row_at t) g)) ≡ place_at t g
  unfolding place_at tab flat
  place_is zero = refl
  place_is (suc g) = ap length (joined-next g) ∙ length-append (joined (tab (row_at t) g)) (row_at t g) ∙ ap (λ (n : ℕ). n + length (row_at t g)) (place_is g)

  pub vertex-place : (i : ℕ) → i ≤ length t.vertices → place_at t (suc i) ≡ vertex_place i
  unfolding place_at row_at head_line head_frame number_bytes short_bytes sealed digits flat byte_digits line
  vertex-place zero h = refl
  vertex-place (suc i) h = ap₂ ◌+◌ (vertex-place i (omega arith)) (ap length (row-vertex i h) ∙ vertex-length (get_or t.vertices i no_vertex)) ∙ omega arith

  pub hyperedge-next : (j : ℕ) → place_at t (suc (length t.vertices + suc j)) ≡ place_at t (suc (length t.vertices + j)) + hyperedge_length (length (get_or t.hyperedges j no_hyperedge).members)
  unfolding place_at
  hyperedge-next j =
      let n : ℕ = length t.vertices in
      let e : suc (n + suc j) ≡ suc (suc (n + j)) = omega arith in
      ap (place_at t) e ∙ ap (λ (k : ℕ). place_at t (suc (n + j)) + k) (ap length (row-hyperedge j) ∙ hyperedge-length (get_or t.hyperedges j no_hyperedge))

  -- ---- texts with the first g lines

  agrees-text : (g : ℕ) (text : List ℕ) → Agrees g text t → text ≡ joined (tab (row_at t) g) ++ drop (place_at t g) text
  unfolding place_at tab flat
  agrees-text zero text a = refl
  agrees-text (suc g) text a =
      agrees-text g text (λ k h. a k (omega arith))
      ∙ ap (λ (l : List ℕ). joined (tab (row_at t) g) ++ l) (stands-eq text (place_at t g) (row_at t g) (a g (omega arith)))
      ∙ sym (append_assoc (joined (tab (row_at t) g)) (row_at t g) (drop (place_at t g + length (row_at t g)) text))
      ∙ ap (λ (l : List ℕ). l ++ drop (place_at t g + length (row_at t g)) text) (sym (joined-next g))

  pub agrees-lines : (g : ℕ) (text : List ℕ) → Agrees g text t → lines_of text ≡ tab (row_at t) g ++ lines_of (drop (place_at t g) text)
  unfolding place_at tab
  agrees-lines zero text a = refl
  agrees-lines (suc g) text a =
      let rest : List ℕ = drop (place_at t g + length (row_at t g)) text in
      agrees-lines g text (λ k h. a k (omega arith))
      ∙ ap (λ (l : List (List ℕ)). tab (row_at t) g ++ l) (ap lines_of (stands-eq text (place_at t g) (row_at t g) (a g (omega arith))) ∙ row_first g rest)
      ∙ sym (append_assoc (tab (row_at t) g) (row_at t g ∷ []) (lines_of rest))
      ∙ ap (λ (l : List (List ℕ)). l ++ lines_of rest) (sym (tab-suc (row_at t) g))

  pub agrees-front : (g : ℕ) (text : List ℕ) → Agrees g text t → take g (lines_of text) ≡ tab (row_at t) g
  agrees-front g text a = ap (take g) (agrees-lines g text a) ∙ take_at (tab (row_at t) g) (lines_of (drop (place_at t g) text)) g (length-tab (row_at t) g)

  pub agrees-of : (g : ℕ) (text rest : List ℕ) → text ≡ joined (tab (row_at t) g) ++ rest → Agrees g text t
  agrees-of zero text rest e k h = absurd (not-suc-le-zero h)
  agrees-of (suc g) text rest e k h =
      let f : text ≡ joined (tab (row_at t) g) ++ (row_at t g ++ rest) =
      e ∙ ap (λ (l : List ℕ). l ++ rest) (joined-next g) ∙ append_assoc (joined (tab (row_at t) g)) (row_at t g) rest in
      ⊎_elim
      (λ q. rw q (stands_by text (place_at t g) (row_at t g) rest (ap (drop (place_at t g)) f ∙ drop_at (joined (tab (row_at t) g)) (row_at t g ++ rest) (place_at t g) (place_is g))))
      (λ l. agrees-of g text (row_at t g ++ rest) f k l) (eq-or-lt_of_le (le_of_suc-le-suc h))

  -- ---- the whole text

  pub text-rows : frame_text t ≡ joined (tab (row_at t) (rows t))
  unfolding frame_text tab flat row_at
  text-rows =
      let n : ℕ = length t.vertices in
      let m : ℕ = length t.hyperedges in
      ap (λ (l : List ℕ). head_line t ++ l) (sym (
      ap joined (tab-append (λ k. row_at t (suc k)) n m)
      ∙ flat_append (λ l. l) (tab (λ k. row_at t (suc k)) n) (tab (λ j. row_at t (suc (n + j))) m)
      ∙ ap₂ (λ (a b : List ℕ). a ++ b)
      (ap joined (tab-ext (λ k. row_at t (suc k)) (λ i. vertex_line (get_or t.vertices i no_vertex)) n row-vertex)
      ∙ joined-tab vertex_line (λ i. get_or t.vertices i no_vertex) n ∙ ap (flat vertex_line) (tab-getD t.vertices no_vertex))
      (ap joined (tab-ext (λ j. row_at t (suc (n + j))) (λ j. hyperedge_line (get_or t.hyperedges j no_hyperedge)) m (λ j h. row-hyperedge j))
      ∙ joined-tab hyperedge_line (λ j. get_or t.hyperedges j no_hyperedge) m ∙ ap (flat hyperedge_line) (tab-getD t.hyperedges no_hyperedge))))

  pub text-agrees : Agrees (rows t) (frame_text t) t
  text-agrees = agrees-of (rows t) (frame_text t) [] (text-rows ∙ sym (append-nil _))

  pub text-length : length (frame_text t) ≡ place_at t (rows t)
  text-length = ap length text-rows ∙ place_is (rows t)

  pub text-lines : lines_of (frame_text t) ≡ tab (row_at t) (rows t)
  unfolding lines_of
  text-lines =
      agrees-lines (rows t) (frame_text t) text-agrees
      ∙ ap (λ (l : List ℕ). tab (row_at t) (rows t) ++ lines_of l) (ap (λ (k : ℕ). drop k (frame_text t)) (sym text-length) ∙ drop-length (frame_text t))
      ∙ append-nil (tab (row_at t) (rows t))

  -- a text that has all of them and ends behind the last
  pub agrees-whole : (text : List ℕ) → Agrees (rows t) text t → length text ≡ place_at t (rows t) → frame_text t ≡ text
  agrees-whole text a e =
      text-rows ∙ sym (append-nil (joined (tab (row_at t) (rows t))))
      ∙ ap (λ (l : List ℕ). joined (tab (row_at t) (rows t)) ++ l) (sym (ap (λ (k : ℕ). drop k text) (sym e) ∙ drop-length text))
      ∙ sym (agrees-text (rows t) text a)
