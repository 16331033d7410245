-- Every list without v, record after record; the words that are left are those of the stripped table. Assumes nothing.
use mathlib.Core.Path.{◌≡◌, sym, ap, ◌∙◌}
use mathlib.Core.List.{List, [], ◌∷◌, ◌++◌}
use Prim.Native.Nat.{ℕ, ◌+◌, ◌-◌, ◌<◌}
use native.Mathlib.Numerals.{add-one}
use native.Mathlib.Omega.{arith}
use lib.Dec.{ltb}
use borrow.Author.Tests.{lt-ltb, le-ltb}
use lib.ListN.{length, set, replicate}
use lib.Seq.{paste}
use Rattle.lists.specs.Tests.{bit}
use Rattle.lists.specs.Lists.{other_than, tab, itself}
use Rattle.lists.proofs.Cases.{on_same, not_none}
use Rattle.lists.proofs.Tab.{tab-suc}
use Rattle.layout.specs.Content.{Hyperedge}
use Rattle.layout.specs.Layout.{record_size, size, hyperedge_word, hyperedge_count, hyperedge_at, hyperedge_words, read, words}
use Rattle.layout.specs.Inner.{Formed}
use Rattle.edits.specs.Edits.{without}
use Rattle.edits.specs.Removing.{stripped, strip_vertex, Stripped}
use Rattle.edits.proofs.Rewritten.{rewritten-none, record_same, rewritten-done}
use Rattle.edits.proofs.Sifted.{sifted-none, sifted-kept, sifted-over}

-- the next place
module _ (k c : ℕ) where
  pub place_kept : c ≡ 0 → k ≡ k + bit (ltb 0 c)
  place_kept e = rw (le-ltb 0 c (omega arith)) (omega arith)

  pub place-next : (c ≡ 0 → ⊥) → k + 1 ≡ k + bit (ltb 0 c)
  place-next ne = rw (lt-ltb 0 c (not_none c ne))

pub stripped-none : (L v : ℕ) (ws : List ℕ) → Stripped L v ws 0 0 ws
unfolding tab
stripped-none L v ws = rw (sifted-none (other_than itself v)) (rewritten-none L ws)

-- a turn of the loop: c members were left, and k' is the next place
pub stripped-more : (L v : ℕ) (ws : List ℕ) (j k : ℕ) (s : List ℕ) → Formed L ws → Stripped L v ws j k s → j < hyperedge_count ws → (s' : List ℕ) (c k' : ℕ)
    → c ≡ length (without v (hyperedge_at L s j)).members → s' ≡ paste s (hyperedge_word L k) (hyperedge_words L (without v (hyperedge_at L s j))) (record_size L)
    → k' ≡ k + bit (ltb 0 c) → Stripped L v ws (j + 1) k' s'
unfolding without
stripped-more L v ws j k s f st h s' c k' ec e ek =
    let es : List Hyperedge = tab (hyperedge_at L ws) j in
    let more : tab (hyperedge_at L ws) (j + 1) ≡ es ++ (hyperedge_at L ws j ∷ []) = ap (tab (hyperedge_at L ws)) (add-one j) ∙ tab-suc (hyperedge_at L ws) j in
    let same : hyperedge_at L s j ≡ hyperedge_at L ws j = record_same L ws (stripped v es) j k s f st h in
    let e' : s' ≡ paste s (hyperedge_word L k) (hyperedge_words L (without v (hyperedge_at L ws j))) (record_size L) =
    e ∙ ap (λ (x : Hyperedge). paste s (hyperedge_word L k) (hyperedge_words L (without v x)) (record_size L)) same in
    let cl : c ≡ length (without v (hyperedge_at L ws j)).members = ec ∙ ap (λ (x : Hyperedge). length (without v x).members) same in
    on_same c 0
    (λ z. rw (let q : k' ≡ k = ek ∙ sym (place_kept k c z) in q) (sifted-over L (other_than itself v) ws es j k s f st h _ more c cl z s' e'))
    (λ ne. rw (let q : k' ≡ k + 1 = ek ∙ sym (place-next k c ne) in q) (sifted-kept L (other_than itself v) ws es j k s f st h _ more c cl ne s' e'))

pub strip-done : (L v : ℕ) (ws : List ℕ) (m k : ℕ) (s s₂ s₃ : List ℕ) → Formed L ws → m ≡ hyperedge_count ws → Stripped L v ws m k s
    → s₂ ≡ paste s (hyperedge_word L k) (replicate (size L - hyperedge_word L k) 0) (size L - hyperedge_word L k) → s₃ ≡ set s₂ 3 k → s₃ ≡ words L (strip_vertex v (read L ws))
unfolding strip_vertex
strip-done L v ws m k s s₂ s₃ f em st e₂ e₃ =
    rewritten-done L ws (stripped v (tab (hyperedge_at L ws) m)) m k s s₂ s₃ f em st e₂ e₃
    ∙ ap (λ (i : ℕ). words L (record { next_vertex = (read L ws).next_vertex; next_hyperedge = (read L ws).next_hyperedge; vertices = (read L ws).vertices; hyperedges = stripped v (tab (hyperedge_at L ws) i) })) em
