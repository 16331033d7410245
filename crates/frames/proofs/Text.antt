-- The text: the lines of each kind, put one after the other, and their lengths. Assumes nothing.
use Rattle.std.specs.Prelude.{Ok, Err}
use mathlib.Core.Path.{◌≡◌, refl, sym, ap, ◌∙◌}
use mathlib.Core.Logic.{⊎_elim}
use mathlib.Core.List.{List, [], ◌∷◌, ◌++◌}
use Prim.Native.Nat.{ℕ, zero, suc, ◌+◌, ◌*◌, ◌≤◌, ◌<◌}
use native.Mathlib.Nat.{add_assoc, le_antisymm, not-suc-le-zero, le_of_suc-le-suc, eq-or-lt_of_le}
use native.Mathlib.Numerals.{add-one}
use native.Mathlib.Omega.{arith}
use lib.ListN.{length, get_or, length-append}
use Rattle.lists.specs.Lists.{tab, flat}
use Rattle.lists.proofs.Tab.{length-tab}
use Rattle.lists.proofs.Flat.{flat-length, flat-suc, flat-more}
use Rattle.layout.specs.declared.Refusal.TheVariants.{NoRoom}
use Rattle.layout.specs.Content.{Vertex, Hyperedge, Table, vertex_of, hyperedge_of}
use Rattle.layout.specs.Layout.{next_vertex_in, next_hyperedge_in, vertex_count, hyperedge_count, vertex_at, members_at, hyperedge_at, read}
use Rattle.layout.specs.Inner.{Formed}
use Rattle.layout.specs.Answers.{result_of}
use Rattle.layout.proofs.Answers.{listed-over, listed-fits}
use Rattle.layout.proofs.Read.{members-le}
use Rattle.frames.specs.Frames.{number_bytes, short_bytes, head_frame, vertex_frame, hyperedge_frame, check, sealed, byte_digits, digits, line, head_line, vertex_line, hyperedge_line, frame_text, head_length, vertex_length, member_length, hyperedge_length, write_result}
use Rattle.frames.specs.Put.{Put}
use Rattle.frames.proofs.Laws.{put-length, put-append, put_as, put-over}
use Rattle.frames.proofs.Lines.{put-none}

-- ---- records laid one after the other: i of them

module _ {A : Type 0} (f : A → List ℕ) (g : ℕ → A) where
  flat-none : flat f (tab g 0) ≡ []
  unfolding flat tab
  flat-none = refl

  flat-next : (i : ℕ) → flat f (tab g i) ++ f (g i) ≡ flat f (tab g (i + 1))
  flat-next i = sym (rw (add-one i) (flat-suc f g i))

  -- record i of n, and those before it, are no longer than all n
  flat-room : (n i : ℕ) → i < n → length (flat f (tab g i)) + length (f (g i)) ≤ length (flat f (tab g n))
  flat-room zero i h = absurd (not-suc-le-zero h)
  flat-room (suc n) i h =
      let e : length (flat f (tab g (suc n))) ≡ length (flat f (tab g n)) + length (f (g n)) = flat-more f g n in
      ⊎_elim (λ q. rw q (omega arith)) (λ l. omega (arith, flat-room n i l)) (eq-or-lt_of_le (le_of_suc-le-suc h))

-- ---- the vertices

module _ (ws : List ℕ) where
  pub vertices-none : (at : ℕ) (text : List ℕ) → at ≤ length text → Put at (0 * vertex_length) (flat vertex_line (tab (vertex_at ws) 0)) text text at
  vertices-none at text h = put_as refl (sym (flat-none vertex_line (vertex_at ws))) (put-none at text h)

  pub vertex-at-put : (i x w : ℕ) {at p : ℕ} {a b : List ℕ} → x ≡ (vertex_at ws i).number → w ≡ (vertex_at ws i).weight
      → Put at vertex_length (vertex_line (vertex_of x w)) a b p → Put at vertex_length (vertex_line (vertex_at ws i)) a b p
  vertex-at-put i x w ex ew f = rw (← ex, ← ew) f

  pub vertices-more : (i : ℕ) {at p q : ℕ} {a b c : List ℕ}
      → Put at (i * vertex_length) (flat vertex_line (tab (vertex_at ws) i)) a b p → Put p vertex_length (vertex_line (vertex_at ws i)) b c q
      → Put at ((i + 1) * vertex_length) (flat vertex_line (tab (vertex_at ws) (i + 1))) a c q
  vertices-more i f g = put_as (omega arith) (flat-next vertex_line (vertex_at ws) i) (put-append f g)

  pub vertices-end : (i n : ℕ) {at p : ℕ} {a b : List ℕ} → i ≤ n → n ≤ i → Put at (i * vertex_length) (flat vertex_line (tab (vertex_at ws) i)) a b p
      → Put at (n * vertex_length) (flat vertex_line (tab (vertex_at ws) n)) a b p
  vertices-end i n h l f = rw (← le_antisymm h l) f

-- ---- the hyperedges

pub numbers-length : (ms : List ℕ) → length (flat number_bytes ms) ≡ length ms * 4
unfolding number_bytes
numbers-length ms = flat-length number_bytes 4 ms 0 (λ i h. refl)

line-length : (frame : List ℕ) → length (line frame) ≡ (length frame + 1) * 2 + 1
unfolding line sealed digits byte_digits
line-length frame =
    omega (arith, length-append (flat byte_digits (frame ++ (check frame ∷ []))) (10 ∷ []), flat-length byte_digits 2 (frame ++ (check frame ∷ [])) 0 (λ i h. refl), length-append frame (check frame ∷ []))

pub hyperedge-length : (e : Hyperedge) → length (hyperedge_line e) ≡ hyperedge_length (length e.members)
unfolding hyperedge_line hyperedge_frame number_bytes
hyperedge-length e = omega (arith, line-length (hyperedge_frame e), numbers-length e.members)

module _ (L : ℕ) (ws : List ℕ) where
  abbrev pub hyperedge_lines : ℕ → List ℕ
  hyperedge_lines j = flat hyperedge_line (tab (hyperedge_at L ws) j)

  pub hyperedges-none : (at : ℕ) (text : List ℕ) → at ≤ length text → Put at (length (hyperedge_lines 0)) (hyperedge_lines 0) text text at
  hyperedges-none at text h = put_as (sym (ap length (flat-none hyperedge_line (hyperedge_at L ws)))) (sym (flat-none hyperedge_line (hyperedge_at L ws))) (put-none at text h)

  lines-length : (j : ℕ) → length (hyperedge_lines j) + hyperedge_length (length (members_at L ws j)) ≡ length (hyperedge_lines (j + 1))
  lines-length j =
      omega (arith, hyperedge-length (hyperedge_at L ws j), length-append (hyperedge_lines j) (hyperedge_line (hyperedge_at L ws j)), ap length (flat-next hyperedge_line (hyperedge_at L ws) j))

  pub line-room : (at next j m : ℕ) (before text : List ℕ) → j < m → at + length (hyperedge_lines m) ≤ length before → length text ≡ length before
      → Put at (length (hyperedge_lines j)) (hyperedge_lines j) before text next → next + hyperedge_length (length (members_at L ws j)) ≤ length text
  line-room at next j m before text h l e f = omega (arith, f.reached, flat-room hyperedge_line (hyperedge_at L ws) m j h, hyperedge-length (hyperedge_at L ws j))

  pub hyperedges-more : (j : ℕ) {at p q : ℕ} {a b c : List ℕ} → Put at (length (hyperedge_lines j)) (hyperedge_lines j) a b p
      → Put p (hyperedge_length (length (members_at L ws j))) (hyperedge_line (hyperedge_at L ws j)) b c q → Put at (length (hyperedge_lines (j + 1))) (hyperedge_lines (j + 1)) a c q
  hyperedges-more j f g = put_as (lines-length j) (flat-next hyperedge_line (hyperedge_at L ws) j) (put-append f g)

  pub hyperedges-end : (j m : ℕ) {at p : ℕ} {a b : List ℕ} → j ≤ m → m ≤ j → Put at (length (hyperedge_lines j)) (hyperedge_lines j) a b p → Put at (length (hyperedge_lines m)) (hyperedge_lines m) a b p
  hyperedges-end j m h l f = rw (← le_antisymm h l) f

  -- ms is what `members_formed` returned
  module _ (j : ℕ) (ms : List ℕ) (e : ms ≡ members_at L ws j) where
    pub members-limit : Formed L ws → j < hyperedge_count ws → length ms ≤ L
    members-limit f h = rw e (members-le L ws f j h)

    pub members-room : (at : ℕ) (text : List ℕ) → at + hyperedge_length (length (members_at L ws j)) ≤ length text → at + hyperedge_length (length ms) ≤ length text
    members-room at text h = rw e h

    pub hyperedge-at-put : (x w : ℕ) {at p : ℕ} {a b : List ℕ} → x ≡ (hyperedge_at L ws j).number → w ≡ (hyperedge_at L ws j).weight
        → Put at (hyperedge_length (length ms)) (hyperedge_line (hyperedge_of x w ms)) a b p → Put at (hyperedge_length (length (members_at L ws j))) (hyperedge_line (hyperedge_at L ws j)) a b p
    hyperedge-at-put x w ex ew f = rw (← ex, ← ew, ← e) f

    pub hyperedge-at-length : 23 + length ms * member_length ≡ length (hyperedge_line (hyperedge_at L ws j))
    hyperedge-at-length = omega (arith, hyperedge-length (hyperedge_at L ws j), ap length e)

  pub length_none : 0 ≡ length (hyperedge_lines 0)
  length_none = sym (ap length (flat-none hyperedge_line (hyperedge_at L ws)))

  pub length_more : (j sum x : ℕ) → sum ≡ length (hyperedge_lines j) → x ≡ length (hyperedge_line (hyperedge_at L ws j)) → sum + x ≡ length (hyperedge_lines (j + 1))
  length_more j sum x e f = rw (e, f) (sym (length-append (hyperedge_lines j) (hyperedge_line (hyperedge_at L ws j))) ∙ ap length (flat-next hyperedge_line (hyperedge_at L ws) j))

  pub length-end : (sum j m : ℕ) → j ≤ m → m ≤ j → sum ≡ length (hyperedge_lines j) → sum ≡ length (hyperedge_lines m)
  length-end sum j m h l e = e ∙ ap (λ (k : ℕ). length (hyperedge_lines k)) (le_antisymm h l)

-- ---- the whole text

head-length : (x y n m : ℕ) → length (line (head_frame x y n m)) ≡ head_length
unfolding head_frame number_bytes short_bytes
head-length x y n m = line-length (head_frame x y n m)

vertices-length : (vs : List Vertex) → length (flat vertex_line vs) ≡ length vs * vertex_length
unfolding vertex_line vertex_frame number_bytes
vertices-length vs = flat-length vertex_line vertex_length vs (vertex_of 0 0) (λ i h. line-length (vertex_frame (get_or vs i (vertex_of 0 0))))

module _ (L : ℕ) (ws : List ℕ) (n m : ℕ) (en : n ≡ vertex_count ws) (em : m ≡ hyperedge_count ws) where
  text-length : head_length + n * vertex_length + length (hyperedge_lines L ws m) ≡ length (frame_text (read L ws))
  unfolding frame_text head_line
  text-length =
      let t : Table = read L ws in
      rw (em, en) (omega (
        arith,
        length-append (line (head_frame (next_vertex_in ws) (next_hyperedge_in ws) (length t.vertices) (length t.hyperedges))) (flat vertex_line t.vertices ++ flat hyperedge_line t.hyperedges),
        length-append (flat vertex_line t.vertices) (flat hyperedge_line t.hyperedges),
        head-length (next_vertex_in ws) (next_hyperedge_in ws) (length t.vertices) (length t.hyperedges),
        vertices-length t.vertices,
        length-tab (vertex_at ws) (vertex_count ws),
      ))

  -- there is room for each kind of line behind those before it
  module _ (a : List ℕ) (room : length (frame_text (read L ws)) ≤ length a) where
    pub head-room : head_length ≤ length a
    head-room = omega (arith, text-length)

    module _ (b xs : List ℕ) (p : ℕ) (f : Put 0 head_length xs a b p) where
      pub vertices-room : p + n * vertex_length ≤ length b
      vertices-room = omega (arith, text-length, put-length f, f.reached)

      pub hyperedges-room : (c ys : List ℕ) (q : ℕ) → Put p (n * vertex_length) ys b c q → q + length (hyperedge_lines L ws m) ≤ length c
      hyperedges-room c ys q g = omega (arith, text-length, put-length f, f.reached, put-length g, g.reached)

  pub text-length-is : (k : ℕ) → k ≡ length (hyperedge_lines L ws m) → head_length + n * vertex_length + k ≡ length (frame_text (read L ws))
  text-length-is k e = rw e text-length

  pub text-put : (x y : ℕ) {p q r : ℕ} {a b c d : List ℕ} → x ≡ next_vertex_in ws → y ≡ next_hyperedge_in ws
      → Put 0 head_length (line (head_frame x y n m)) a b p → Put p (n * vertex_length) (flat vertex_line (tab (vertex_at ws) n)) b c q
      → Put q (length (hyperedge_lines L ws m)) (hyperedge_lines L ws m) c d r → Put 0 (length (frame_text (read L ws))) (frame_text (read L ws)) a d r
  unfolding frame_text head_line
  text-put x y ex ey f g h =
      put_as (sym (add_assoc head_length (n * vertex_length) (length (hyperedge_lines L ws m))) ∙ text-length)
      (rw (ex, ey, en, em, length-tab (vertex_at ws) (vertex_count ws), length-tab (hyperedge_at L ws) (hyperedge_count ws)))
      (put-append f (put-append g h))

-- ---- 11, or the text

module _ (t : Table) (text : List ℕ) (k : ℕ) (e : k ≡ length (frame_text t)) where
  pub write-over : length text < k → result_of (Err (NoRoom k)) text ≡ write_result text t
  unfolding write_result
  write-over h = listed-over (frame_text t) text k e h

  pub write-fits : (exit : List ℕ) (n next : ℕ) → k ≤ length text → Put 0 n (frame_text t) text exit next → result_of (Ok k) exit ≡ write_result text t
  unfolding write_result
  write-fits exit n next h p = listed-fits (frame_text t) text k e exit h (put-over p)
