-- The head line: what its tests say of what the writer gives, and what is stored of it. Assumes nothing.
use mathlib.Core.Path.{◌≡◌, refl, sym, ap₂, ◌∙◌}
use mathlib.Core.Bool.{Bool, true, false, not}
use mathlib.Core.List.{List, [], ◌∷◌, ◌++◌}
use Prim.Native.Nat.{ℕ, ◌+◌, ◌≤◌, ◌<◌}
use native.Mathlib.Omega.{arith}
use lib.ListN.{length, drop}
use borrow.Author.Tests.{leb-true, not-true, not-false}
use Rattle.lists.proofs.All.{all_join}
use Rattle.lists.specs.Tests.{◌and◌}
use Rattle.lists.specs.Lists.{all, is_below, flat}
use Rattle.lists.proofs.Cases.{on, clash, and_left, and_right, and_both}
use Rattle.layout.specs.Layout.{limit, size, vertex_limit, hyperedge_limit}
use Rattle.frames.specs.Frames.{byte_values, number_bytes, short_bytes, head_mark, head_frame, sealed, digit, byte_digits, digits, line, head_length}
use Rattle.frames.specs.Put.{Put}
use Rattle.frames.specs.Reading.{next_vertex_of, next_hyperedge_of, vertices_due, hyperedges_due, stands_at, head_good}
use Rattle.frames.specs.Bytes.{bytes_at}
use Rattle.frames.proofs.Laws.{put-length, put-append, put_as}
use Rattle.frames.proofs.Lines.{opening}
use Rattle.frames.proofs.Parse.{bytes-append, bytes-front, short-bytes, number-bytes, digits-bytes, stands-eq, stands_by, number-low, short-low}
use Rattle.reader.specs.Lines.{behind, sealed_at, Sealed, counts_fit}
use Rattle.reader.specs.Passes.{HeadStored, head_words}
use Rattle.reader.proofs.Ends.{behind-failed, stays-failed, goes-passed}
use Rattle.reader.proofs.Frame.{sealed-is, number-word-at}
use Rattle.reader.proofs.Records.{frame-sealed, frame-stands}
use Rattle.reader.proofs.Puts.{put_in}

module _ (text : List ℕ) where
  frame : List ℕ
  frame = head_frame (next_vertex_of text) (next_hyperedge_of text) (vertices_due text) (hyperedges_due text)

  low : all (is_below byte_values) frame ≡ true
  unfolding frame head_frame all
  low =
      and_both _ _ refl (and_both _ _ refl (and_both _ _ refl
      (all_join (is_below byte_values) (number_bytes (next_vertex_of text)) _ (number-low (next_vertex_of text))
      (all_join (is_below byte_values) (number_bytes (next_hyperedge_of text)) _ (number-low (next_hyperedge_of text))
      (all_join (is_below byte_values) (short_bytes (vertices_due text)) (short_bytes (hyperedges_due text)) (short-low (vertices_due text)) (short-low (hyperedges_due text)))))))

  -- every head line opens with 484731
  opens : (x y n m : ℕ) (rest : List ℕ) → line (head_frame x y n m) ++ rest ≡ opening ++ drop 6 (line (head_frame x y n m) ++ rest)
  unfolding line sealed head_frame digits flat byte_digits digit
  opens x y n m rest = refl

  head-parts : stands_at text 0 (line frame) ≡ true → (sealed_at text 0 16 ≡ true) × (stands_at text 0 opening ≡ true)
  unfolding frame head_frame number_bytes short_bytes
  head-parts st =
      let rest : List ℕ = drop (0 + length (line frame)) text in (
        (frame-sealed text 0 frame (omega arith) low st).0,
        stands_by text 0 opening (drop 6 (line frame ++ rest))
            (stands-eq text 0 (line frame) st ∙ opens (next_vertex_of text) (next_hyperedge_of text) (vertices_due text) (hyperedges_due text) rest),
      )

  marked : stands_at text 0 opening ≡ true → bytes_at text 0 3 ≡ head_mark
  unfolding digits flat byte_digits digit all ◌and◌
  marked st = (digits-bytes text head_mark 0 (drop 6 text) refl (stands-eq text 0 opening st)).0

  head-is : Sealed text 0 16 → stands_at text 0 opening ≡ true → frame ≡ bytes_at text 0 15
  unfolding frame head_frame
  head-is s o =
      let a = bytes-front text 0 15 1 s.low in
      let b = bytes-front text 0 3 12 a.0 in
      let c = bytes-front text 6 4 8 b.1 in
      let d = bytes-front text 14 4 4 c.1 in
      let e = bytes-front text 22 2 2 d.1 in
      ap₂ (λ (x y : List ℕ). x ++ y) (sym (marked o))
      (ap₂ (λ (x y : List ℕ). x ++ y) (number-bytes text 6 c.0)
      (ap₂ (λ (x y : List ℕ). x ++ y) (number-bytes text 14 d.0)
      (ap₂ (λ (x y : List ℕ). x ++ y) (short-bytes text 22 e.0) (short-bytes text 26 e.1)
      ∙ sym (bytes-append text 22 2 2))
      ∙ sym (bytes-append text 14 4 4))
      ∙ sym (bytes-append text 6 4 8))
      ∙ sym (bytes-append text 0 3 12)

  head-stands : Sealed text 0 16 → stands_at text 0 opening ≡ true → stands_at text 0 (line frame) ≡ true
  unfolding frame head_frame number_bytes short_bytes
  head-stands s o = frame-stands text 0 frame s.is (head-is s o)

  good-sealed : head_good text ≡ true → sealed_at text 0 16 ≡ true
  unfolding head_good frame
  good-sealed g = (head-parts (and_left _ _ g)).0

  pub head-unsealed : (r : ℕ) → r ≡ behind (sealed_at text 0 16) 0 head_length → r ≡ 0 → 0 ≡ behind (head_good text) 0 head_length
  head-unsealed r e q = on (head_good text)
      (λ g. clash (good-sealed g) (stays-failed 0 head_length (sealed_at text 0 16) r e (omega arith) q))
      (λ g. behind-failed 0 head_length (head_good text) (sym g))

  pub head-other : (r : Bool) → r ≡ stands_at text 0 opening → not r ≡ true → false ≡ head_good text
  unfolding head_good frame ◌and◌
  head-other r e n = on (stands_at text 0 (line frame))
      (λ st. clash (head-parts st).1 (sym e ∙ not-true r n))
      (λ st. rw st)

  pub head-rest : (o r : Bool) (n m x y : ℕ) → Sealed text 0 16 → o ≡ stands_at text 0 opening → not o ≡ false
      → n ≡ vertices_due text → m ≡ hyperedges_due text → x ≡ next_vertex_of text → y ≡ next_hyperedge_of text → r ≡ counts_fit n m x y → r ≡ head_good text
  unfolding head_good frame counts_fit ◌and◌
  head-rest o r n m x y s e q en em ex ey f =
      rw (head-stands s (sym e ∙ not-false o q)) (f ∙ rw (en, em, ex, ey))

  -- ---- what a good head is known to be

  pub head-framed : (r : ℕ) → r ≡ behind (head_good text) 0 head_length → (r ≡ 0 → ⊥) → Sealed text 0 16
  head-framed r e n = sealed-is text 0 16 (good-sealed (goes-passed 0 head_length (head_good text) r e n))

  pub head-room : head_good text ≡ true → head_length ≤ length text
  head-room g = omega (arith, (sealed-is text 0 16 (good-sealed g)).room)

  pub vertices-few : head_good text ≡ true → vertices_due text ≤ vertex_limit
  unfolding head_good
  vertices-few g = leb-true (vertices_due text) vertex_limit (and_left _ _ (and_right _ _ g))

  pub hyperedges-few : head_good text ≡ true → hyperedges_due text ≤ hyperedge_limit
  unfolding head_good
  hyperedges-few g = leb-true (hyperedges_due text) hyperedge_limit (and_left _ _ (and_right _ _ (and_right _ _ g)))

  pub vertices-given : head_good text ≡ true → vertices_due text ≤ next_vertex_of text
  unfolding head_good
  vertices-given g = leb-true (vertices_due text) (next_vertex_of text) (and_left _ _ (and_right _ _ (and_right _ _ (and_right _ _ g))))

  pub hyperedges-given : head_good text ≡ true → hyperedges_due text ≤ next_hyperedge_of text
  unfolding head_good
  hyperedges-given g = leb-true (hyperedges_due text) (next_hyperedge_of text) (and_left _ _ (and_right _ _ (and_right _ _ (and_right _ _ (and_right _ _ g)))))

  -- ---- the head stored

  pub next-vertex-word : (x : ℕ) → Sealed text 0 16 → x ≡ next_vertex_of text → x < 4294967296
  next-vertex-word x s e = number-word-at text 0 16 s 3 x (omega arith) e

  pub next-hyperedge-word : (x : ℕ) → Sealed text 0 16 → x ≡ next_hyperedge_of text → x < 4294967296
  next-hyperedge-word x s e = number-word-at text 0 16 s 7 x (omega arith) e

  pub head-words-put : {x y n m p q r s : ℕ} {a b c d e : List ℕ} → x ≡ next_vertex_of text → y ≡ next_hyperedge_of text → n ≡ vertices_due text → m ≡ hyperedges_due text
      → Put 0 1 (x ∷ []) a b p → Put p 1 (y ∷ []) b c q → Put q 1 (n ∷ []) c d r → Put r 1 (m ∷ []) d e s → Put 0 4 (head_words text) a e s
  head-words-put ex ey en em f g h i = put_as refl (rw (ex, ey, en, em)) (put-append f (put-append g (put-append h i)))

  pub head-stored : {a b : List ℕ} {p : ℕ} → head_good text ≡ true → length a ≡ size limit → Put 0 4 (head_words text) a b p → HeadStored text b
  head-stored g l f = record {
    sized = put-length f ∙ l;
    good = g;
    next-vertex = put_in f 0 (omega arith);
    next-hyperedge = put_in f 1 (omega arith);
    vertices = put_in f 2 (omega arith);
    hyperedges = put_in f 3 (omega arith);
  }
