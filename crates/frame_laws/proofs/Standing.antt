-- What is read where a written line stands. Assumes nothing.
use mathlib.Core.Path.{◌≡◌, refl, sym, ap, ap₂, ◌∙◌}
use mathlib.Core.Bool.{true}
use mathlib.Core.List.{List, [], ◌∷◌, ◌++◌, append_assoc}
use Prim.Native.Nat.{ℕ, suc, ◌+◌, ◌*◌, ◌/◌, ◌%◌, ◌<◌}
use native.Mathlib.Omega.{arith}
use lib.ListN.{length, get_or, drop}
use lib.Seq.{drop-drop}
use borrow.Author.Tests.{ltb-true, lt-ltb}
use Rattle.lists.specs.Tests.{◌and◌}
use Rattle.lists.specs.Lists.{all, tab, flat}
use Rattle.lists.proofs.Cases.{and_left, and_right, and_both}
use Rattle.lists.proofs.Tab.{tab-ext}
use Rattle.lists.proofs.Flat.{flat_append}
use Rattle.layout.specs.Content.{Vertex, Hyperedge, Table, vertex_of}
use Rattle.frames.specs.Frames.{byte_values, byte_of, number_bytes, short_bytes, head_frame, vertex_frame, hyperedge_frame, check, sealed, byte_digits, digits, line_feed, line, head_line, vertex_line, hyperedge_line}
use Rattle.frames.specs.Reading.{byte_at, short_at, number_at, stands_at, next_vertex_of, next_hyperedge_of, vertices_due, hyperedges_due, number_in, weight_in, count_in, member_in, hyperedge_from}
use Rattle.frames.specs.Bytes.{bytes_at}
use Rattle.frames.specs.Faulty.{is_word}
use Rattle.frames.proofs.Parse.{digits-bytes, number_word, stands-eq, number-low, short-low}

-- how many values a word has
abbrev pub word_values : ℕ
word_values = 4294967296

-- the bytes of a number make it up
whole-number : (x : ℕ) → x < word_values → byte_of x 16777216 * 16777216 + byte_of x 65536 * 65536 + byte_of x byte_values * byte_values + byte_of x 1 ≡ x
whole-number x h =
    let a : x / 16777216 % byte_values ≡ x / 16777216 = omega arith in
    let b : x / 16777216 * byte_values + x / 65536 % byte_values ≡ x / 65536 = omega arith in
    let c : x / 65536 * byte_values + x / byte_values % byte_values ≡ x / byte_values = omega arith in
    let d : x / byte_values * byte_values + x / 1 % byte_values ≡ x = omega arith in
    omega arith

module _ (text : List ℕ) (p : ℕ) (rest : List ℕ) where
  byte-back : (b : ℕ) → b < byte_values → drop p text ≡ byte_digits b ++ rest → byte_at text p ≡ b
  unfolding all digits flat bytes_at byte_digits
  byte-back b h e = ap (λ (l : List ℕ). get_or l 0 0) (digits-bytes text (b ∷ []) p rest (and_both _ _ (lt-ltb b byte_values h) refl) e).0

  short_back : (x : ℕ) → x < 65536 → drop p text ≡ digits (short_bytes x) ++ rest → short_at text p ≡ x
  unfolding bytes_at short_bytes short_at
  short_back x h e =
      let r = (digits-bytes text (short_bytes x) p rest (short-low x) e).0 in
      let a : byte_at text p ≡ byte_of x byte_values = ap (λ (l : List ℕ). get_or l 0 0) r in
      let b : byte_at text (p + 2) ≡ byte_of x 1 = ap (λ (l : List ℕ). get_or l 1 0) r in
      rw (a, b) (omega arith)

  module _ (x : ℕ) (e : drop p text ≡ digits (number_bytes x) ++ rest) where
    number-stands : bytes_at text p 4 ≡ number_bytes x
    unfolding number_bytes
    number-stands = (digits-bytes text (number_bytes x) p rest (number-low x) e).0

    number_behind : drop (p + 8) text ≡ rest
    unfolding number_bytes
    number_behind = (digits-bytes text (number_bytes x) p rest (number-low x) e).1

    -- a number that was written is a word
    number_fits_lem : number_at text p < word_values
    number_fits_lem = number_word text p (rw number-stands (number-low x))

    number-back : x < word_values → number_at text p ≡ x
    unfolding bytes_at number_bytes number_at
    number-back h =
        let r = number-stands in
        let q : p + 2 + 2 ≡ p + 4 = omega arith in
        let s : p + 2 + 2 + 2 ≡ p + 6 = omega arith in
        let a : byte_at text p ≡ byte_of x 16777216 = ap (λ (l : List ℕ). get_or l 0 0) r in
        let b : byte_at text (p + 2) ≡ byte_of x 65536 = ap (λ (l : List ℕ). get_or l 1 0) r in
        let c : byte_at text (p + 4) ≡ byte_of x byte_values = ap (byte_at text) (sym q) ∙ ap (λ (l : List ℕ). get_or l 2 0) r in
        let d : byte_at text (p + 6) ≡ byte_of x 1 = ap (byte_at text) (sym s) ∙ ap (λ (l : List ℕ). get_or l 3 0) r in
        rw (a, b, c, d) (whole-number x h)

members-back : (text : List ℕ) (ms : List ℕ) (p : ℕ) (rest : List ℕ) → all is_word ms ≡ true → drop p text ≡ digits (flat number_bytes ms) ++ rest
    → tab (λ k. number_at text (p + k * 8)) (length ms) ≡ ms
unfolding tab flat all is_word digits
members-back text [] p rest a e = refl
members-back text (x ∷ ms) p rest a e =
    let f : drop p text ≡ digits (number_bytes x) ++ (digits (flat number_bytes ms) ++ rest) =
    e ∙ ap (λ (l : List ℕ). l ++ rest) (flat_append byte_digits (number_bytes x) (flat number_bytes ms)) ∙ append_assoc (digits (number_bytes x)) (digits (flat number_bytes ms)) rest in
    let z : p + 0 * 8 ≡ p = omega arith in
    ap₂ (λ (y : ℕ) (l : List ℕ). y ∷ l)
    (ap (number_at text) z ∙ number-back text p (digits (flat number_bytes ms) ++ rest) x f (ltb-true x word_values (and_left _ _ a)))
    (tab-ext (λ k. number_at text (p + suc k * 8)) (λ k. number_at text (p + 8 + k * 8)) (length ms) (λ k l. ap (number_at text) (omega arith))
    ∙ members-back text ms (p + 8) rest (and_right _ _ a) (number_behind text p (digits (flat number_bytes ms) ++ rest) x f))

-- members that stand in the text fit in words
members-fit : (text : List ℕ) (ms : List ℕ) (p : ℕ) (rest : List ℕ) → drop p text ≡ digits (flat number_bytes ms) ++ rest
    → all is_word (tab (λ k. number_at text (p + k * 8)) (length ms)) ≡ true
unfolding tab flat all is_word digits
members-fit text [] p rest e = refl
members-fit text (x ∷ ms) p rest e =
    let f : drop p text ≡ digits (number_bytes x) ++ (digits (flat number_bytes ms) ++ rest) =
    e ∙ ap (λ (l : List ℕ). l ++ rest) (flat_append byte_digits (number_bytes x) (flat number_bytes ms)) ∙ append_assoc (digits (number_bytes x)) (digits (flat number_bytes ms)) rest in
    let z : p + 0 * 8 ≡ p = omega arith in
    and_both _ _ (lt-ltb (number_at text (p + 0 * 8)) word_values (rw z (number_fits_lem text p (digits (flat number_bytes ms) ++ rest) x f)))
    (ap (all is_word) (tab-ext (λ k. number_at text (p + suc k * 8)) (λ k. number_at text (p + 8 + k * 8)) (length ms) (λ k l. ap (number_at text) (omega arith)))
    ∙ members-fit text ms (p + 8) rest (number_behind text p (digits (flat number_bytes ms) ++ rest) x f))

-- further on in what stands at p
further : (text : List ℕ) (p k : ℕ) (xs ys : List ℕ) → drop p text ≡ xs → drop k xs ≡ ys → drop (p + k) text ≡ ys
further text p k xs ys e f = sym (drop-drop k p text) ∙ ap (drop k) e ∙ f

-- ---- the head

module _ (text : List ℕ) (t : Table) (st : stands_at text 0 (head_line t) ≡ true) where
  abbrev behind : List ℕ
  behind = head_line t ++ drop (0 + length (head_line t)) text

  begins : text ≡ behind
  begins = stands-eq text 0 (head_line t) st

  pub next-vertex-back : t.next_vertex < word_values → next_vertex_of text ≡ t.next_vertex
  unfolding head_line head_frame number_bytes short_bytes sealed digits flat byte_digits line
  next-vertex-back h = number-back text 6 (drop 14 behind) t.next_vertex (ap (drop 6) begins) h

  pub next-hyperedge-back : t.next_hyperedge < word_values → next_hyperedge_of text ≡ t.next_hyperedge
  unfolding head_line head_frame number_bytes short_bytes sealed digits flat byte_digits line
  next-hyperedge-back h = number-back text 14 (drop 22 behind) t.next_hyperedge (ap (drop 14) begins) h

  pub vertices-back : length t.vertices < 65536 → vertices_due text ≡ length t.vertices
  unfolding head_line head_frame number_bytes short_bytes sealed digits flat byte_digits line
  vertices-back h = short_back text 22 (drop 26 behind) (length t.vertices) h (ap (drop 22) begins)

  pub hyperedges-back : length t.hyperedges < 65536 → hyperedges_due text ≡ length t.hyperedges
  unfolding head_line head_frame number_bytes short_bytes sealed digits flat byte_digits line
  hyperedges-back h = short_back text 26 (drop 30 behind) (length t.hyperedges) h (ap (drop 26) begins)

  -- what stands there fits in words
  pub next-vertex-fits : next_vertex_of text < word_values
  unfolding head_line head_frame number_bytes short_bytes sealed digits flat byte_digits line
  next-vertex-fits = number_fits_lem text 6 (drop 14 behind) t.next_vertex (ap (drop 6) begins)

  pub next-hyperedge-fits : next_hyperedge_of text < word_values
  unfolding head_line head_frame number_bytes short_bytes sealed digits flat byte_digits line
  next-hyperedge-fits = number_fits_lem text 14 (drop 22 behind) t.next_hyperedge (ap (drop 14) begins)

-- ---- a vertex

module _ (text : List ℕ) (p : ℕ) (v : Vertex) (st : stands_at text p (vertex_line v) ≡ true) where
  abbrev vertex_on : List ℕ
  vertex_on = vertex_line v ++ drop (p + length (vertex_line v)) text

  vertex-number-is : drop (p + 2) text ≡ digits (number_bytes v.number) ++ drop 10 vertex_on
  unfolding vertex_line vertex_frame number_bytes sealed digits flat byte_digits line
  vertex-number-is = further text p 2 vertex_on (drop 2 vertex_on) (stands-eq text p (vertex_line v) st) refl

  vertex-weight-is : drop (p + 10) text ≡ digits (number_bytes v.weight) ++ drop 18 vertex_on
  unfolding vertex_line vertex_frame number_bytes sealed digits flat byte_digits line
  vertex-weight-is = further text p 10 vertex_on (drop 10 vertex_on) (stands-eq text p (vertex_line v) st) refl

  pub vertex-back : v.number < word_values → v.weight < word_values → vertex_of (number_in text p) (weight_in text p) ≡ v
  vertex-back h k =
      rw (number-back text (p + 2) (drop 10 vertex_on) v.number vertex-number-is h, number-back text (p + 10) (drop 18 vertex_on) v.weight vertex-weight-is k)

  pub vertex-fits : (number_in text p < word_values) × (weight_in text p < word_values)
  vertex-fits = (
    number_fits_lem text (p + 2) (drop 10 vertex_on) v.number vertex-number-is,
    number_fits_lem text (p + 10) (drop 18 vertex_on) v.weight vertex-weight-is,
  )

-- ---- a hyperedge

module _ (text : List ℕ) (p : ℕ) (e : Hyperedge) (st : stands_at text p (hyperedge_line e) ≡ true) where
  abbrev hyperedge_on : List ℕ
  hyperedge_on = hyperedge_line e ++ drop (p + length (hyperedge_line e)) text

  abbrev behind_members : List ℕ
  behind_members = (digits (check (hyperedge_frame e) ∷ []) ++ line_feed) ++ drop (p + length (hyperedge_line e)) text

  hyperedge-number-is : drop (p + 2) text ≡ digits (number_bytes e.number) ++ drop 10 hyperedge_on
  unfolding hyperedge_line hyperedge_frame number_bytes sealed digits flat byte_digits line
  hyperedge-number-is = further text p 2 hyperedge_on (drop 2 hyperedge_on) (stands-eq text p (hyperedge_line e) st) refl

  hyperedge-weight-is : drop (p + 10) text ≡ digits (number_bytes e.weight) ++ drop 18 hyperedge_on
  unfolding hyperedge_line hyperedge_frame number_bytes sealed digits flat byte_digits line
  hyperedge-weight-is = further text p 10 hyperedge_on (drop 10 hyperedge_on) (stands-eq text p (hyperedge_line e) st) refl

  hyperedge-count-is : drop (p + 18) text ≡ byte_digits (length e.members) ++ drop 20 hyperedge_on
  unfolding hyperedge_line hyperedge_frame number_bytes sealed digits flat byte_digits line
  hyperedge-count-is = further text p 18 hyperedge_on (drop 18 hyperedge_on) (stands-eq text p (hyperedge_line e) st) refl

  hyperedge-members-is : drop (p + 20) text ≡ digits (flat number_bytes e.members) ++ behind_members
  unfolding hyperedge_line hyperedge_frame number_bytes sealed digits flat byte_digits line
  hyperedge-members-is =
      let rest : List ℕ = drop (p + length (hyperedge_line e)) text in
      let ms : List ℕ = flat number_bytes e.members in
      let c : List ℕ = check (hyperedge_frame e) ∷ [] in
      further text p 20 hyperedge_on (digits ms ++ behind_members) (stands-eq text p (hyperedge_line e) st) (
      ap (λ (l : List ℕ). (l ++ line_feed) ++ rest) (flat_append byte_digits ms c)
      ∙ ap (λ (l : List ℕ). l ++ rest) (append_assoc (digits ms) (digits c) line_feed) ∙ append_assoc (digits ms) (digits c ++ line_feed) rest)

  pub count-back : length e.members < byte_values → count_in text p ≡ length e.members
  count-back h = byte-back text (p + 18) (drop 20 hyperedge_on) (length e.members) h hyperedge-count-is

  pub hyperedge-back : e.number < word_values → e.weight < word_values → length e.members < byte_values → all is_word e.members ≡ true → hyperedge_from text p ≡ e
  hyperedge-back h k l a =
      rw (
        number-back text (p + 2) (drop 10 hyperedge_on) e.number hyperedge-number-is h,
        number-back text (p + 10) (drop 18 hyperedge_on) e.weight hyperedge-weight-is k,
        count-back l,
        members-back text e.members (p + 20) behind_members a hyperedge-members-is,
      )

  pub hyperedge-fits : (number_in text p < word_values) × (weight_in text p < word_values)
  hyperedge-fits = (
    number_fits_lem text (p + 2) (drop 10 hyperedge_on) e.number hyperedge-number-is,
    number_fits_lem text (p + 10) (drop 18 hyperedge_on) e.weight hyperedge-weight-is,
  )

  pub hyperedge-members-fit : all is_word (tab (member_in text p) (length e.members)) ≡ true
  hyperedge-members-fit = members-fit text e.members (p + 20) behind_members hyperedge-members-is
