-- The words that reading makes of words of 0: head, vertices and hyperedges put one behind the other are the words of the content. Assumes nothing.
use mathlib.Core.Path.{◌≡◌, refl, sym, ap, ap₂, ◌∙◌}
use mathlib.Core.List.{List, [], ◌++◌, append_assoc}
use Prim.Native.Nat.{ℕ, ◌+◌, ◌-◌, ◌*◌, ◌≤◌}
use native.Mathlib.Omega.{arith}
use lib.ListN.{length, drop, replicate, length-append, length-replicate, replicate-append-replicate}
use lib.Seq.{take_at, drop_at, drop-append-add}
use Rattle.lists.specs.Lists.{tab, flat, pad}
use Rattle.lists.specs.Inner.{blank, over_at}
use Rattle.lists.proofs.Tab.{length-tab}
use Rattle.lists.proofs.Flat.{flat-length, length-pad}
use Rattle.lists.proofs.OverAt.{over-at-split}
use Rattle.layout.specs.Layout.{limit, size, vertex_limit, hyperedge_limit, vertex_size, record_size, vertices_at, hyperedges_at, vertex_words, hyperedge_words, words}
use Rattle.layout.specs.Content.{no_vertex}
use Rattle.frames.specs.Put.{Put}
use Rattle.frames.specs.Reading.{vertices_due, hyperedges_due, vertex_in, hyperedge_in, content_of}
use Rattle.reader.specs.Passes.{head_words}

pub blank-is : (k : ℕ) → replicate k 0 ≡ blank k
unfolding blank
blank-is k = refl

pub length-blank : (k : ℕ) → length (blank k) ≡ k
length-blank k = ap length (sym (blank-is k)) ∙ length-replicate {A = ℕ} k 0

blank-split : (a b : ℕ) → blank (a + b) ≡ blank a ++ blank b
blank-split a b =
    sym (blank-is (a + b)) ∙ sym (replicate-append-replicate {A = ℕ} a b 0) ∙ ap₂ (λ (x y : List ℕ). x ++ y) (blank-is a) (blank-is b)

drop-blank : (a k : ℕ) → a ≤ k → drop a (blank k) ≡ blank (k - a)
drop-blank a k h =
    let e : k ≡ a + (k - a) = omega arith in
    ap (λ (n : ℕ). drop a (blank n)) e ∙ ap (drop a) (blank-split a (k - a)) ∙ drop_at (blank a) (blank (k - a)) a (length-blank a)

-- words put where only words of 0 follow
over-blank : (front xs : List ℕ) (at k : ℕ) → length front ≡ at → length xs ≤ k → over_at at xs (front ++ blank k) ≡ front ++ (xs ++ blank (k - length xs))
over-blank front xs at k e h =
    over-at-split at xs (front ++ blank k)
    ∙ ap₂ (λ (x y : List ℕ). x ++ (xs ++ y)) (take_at front (blank k) at e)
    (ap (λ (n : ℕ). drop (n + length xs) (front ++ blank k)) (sym e) ∙ drop-append-add front (blank k) (length xs) ∙ drop-blank (length xs) k h)

module _ (text : List ℕ) where
  vertex_part : List ℕ
  vertex_part = flat vertex_words (tab (vertex_in text) (vertices_due text))

  hyperedge_part : List ℕ
  hyperedge_part = flat (hyperedge_words limit) (tab (hyperedge_in text) (hyperedges_due text))

  front_part : List ℕ
  front_part = head_words text ++ pad (vertex_limit * vertex_size) vertex_part

  pub head-made : {a b : List ℕ} {q : ℕ} → a ≡ blank (size limit) → Put 0 4 (head_words text) a b q → b ≡ head_words text ++ blank (size limit - vertices_at)
  head-made e f = f.wrote ∙ ap (over_at 0 (head_words text)) e ∙ over-blank [] (head_words text) 0 (size limit) refl (omega arith)

  vertices-long : vertices_due text ≤ vertex_limit → length vertex_part ≤ vertex_limit * vertex_size
  unfolding vertex_part
  vertices-long h = omega (arith, flat-length vertex_words vertex_size (tab (vertex_in text) (vertices_due text)) no_vertex (λ i l. refl), length-tab (vertex_in text) (vertices_due text))

  vertices-laid : length vertex_part ≤ vertex_limit * vertex_size → over_at vertices_at vertex_part (head_words text ++ blank (size limit - vertices_at)) ≡ front_part ++ blank (hyperedge_limit * record_size limit)
  unfolding front_part
  vertices-laid h =
      let room : ℕ = vertex_limit * vertex_size - length vertex_part in
      let rest : ℕ = hyperedge_limit * record_size limit in
      let e : size limit - vertices_at - length vertex_part ≡ vertex_limit * vertex_size - length vertex_part + hyperedge_limit * record_size limit = omega arith in
      over-blank (head_words text) vertex_part vertices_at (size limit - vertices_at) refl (omega arith)
      ∙ ap (λ (l : List ℕ). head_words text ++ (vertex_part ++ l)) (ap blank e ∙ blank-split room rest ∙ ap (λ (l : List ℕ). l ++ blank rest) (sym (blank-is room)))
      ∙ ap (λ (l : List ℕ). head_words text ++ l) (sym (append_assoc vertex_part (replicate room 0) (blank rest)))
      ∙ sym (append_assoc (head_words text) (vertex_part ++ replicate room 0) (blank rest))

  pub vertices-made : {a b : List ℕ} {r q : ℕ} → r ≡ vertices_due text → vertices_due text ≤ vertex_limit → a ≡ head_words text ++ blank (size limit - vertices_at)
      → Put vertices_at (r * vertex_size) (flat vertex_words (tab (vertex_in text) r)) a b q
      → b ≡ (head_words text ++ pad (vertex_limit * vertex_size) (flat vertex_words (tab (vertex_in text) (vertices_due text)))) ++ blank (hyperedge_limit * record_size limit)
  unfolding front_part vertex_part
  vertices-made d few e f =
      f.wrote
      ∙ ap₂ (λ (n : ℕ) (l : List ℕ). over_at vertices_at (flat vertex_words (tab (vertex_in text) n)) l) d e
      ∙ vertices-laid (vertices-long few)

  words_are : words limit (content_of text) ≡ front_part ++ pad (hyperedge_limit * record_size limit) hyperedge_part
  unfolding words content_of front_part vertex_part hyperedge_part
  words_are = rw (length-tab (vertex_in text) (vertices_due text), length-tab (hyperedge_in text) (hyperedges_due text))

  front_length : length vertex_part ≤ vertex_limit * vertex_size → length front_part ≡ hyperedges_at
  unfolding front_part
  front_length h = length-append (head_words text) (pad (vertex_limit * vertex_size) vertex_part) ∙ ap (λ (n : ℕ). 4 + n) (length-pad (vertex_limit * vertex_size) vertex_part h)

  hyperedges-laid : length vertex_part ≤ vertex_limit * vertex_size → length hyperedge_part ≤ hyperedge_limit * record_size limit
      → over_at hyperedges_at hyperedge_part (front_part ++ blank (hyperedge_limit * record_size limit)) ≡ words limit (content_of text)
  hyperedges-laid hv hh =
      let room : ℕ = hyperedge_limit * record_size limit - length hyperedge_part in
      over-blank front_part hyperedge_part hyperedges_at (hyperedge_limit * record_size limit) (front_length hv) hh
      ∙ ap (λ (l : List ℕ). front_part ++ (hyperedge_part ++ l)) (sym (blank-is room))
      ∙ sym words_are

  pub hyperedges-made : {a b : List ℕ} {r q : ℕ} → r ≡ hyperedges_due text → hyperedges_due text ≤ hyperedge_limit → vertices_due text ≤ vertex_limit
      → a ≡ (head_words text ++ pad (vertex_limit * vertex_size) (flat vertex_words (tab (vertex_in text) (vertices_due text)))) ++ blank (hyperedge_limit * record_size limit)
      → Put hyperedges_at (r * record_size limit) (flat (hyperedge_words limit) (tab (hyperedge_in text) r)) a b q
      → b ≡ words limit (content_of text)
  unfolding front_part vertex_part hyperedge_part
  hyperedges-made {r = r} d few due e f =
      let long : length hyperedge_part ≤ hyperedge_limit * record_size limit = omega (arith, ap (λ (n : ℕ). length (flat (hyperedge_words limit) (tab (hyperedge_in text) n))) d, f.sized) in
      f.wrote
      ∙ ap₂ (λ (n : ℕ) (l : List ℕ). over_at hyperedges_at (flat (hyperedge_words limit) (tab (hyperedge_in text) n)) l) d e
      ∙ hyperedges-laid (vertices-long due) long
