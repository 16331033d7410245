-- The hyperedge records gone through: what a turn leaves, and what is left at the end; and what is left of the table. Assumes nothing.
use mathlib.Core.Path.{◌≡◌, refl, sym, ap, ap₂, ◌∙◌}
use mathlib.Core.Bool.{Bool, true, false}
use mathlib.Core.List.{List}
use Prim.Native.Nat.{ℕ, ◌+◌, ◌-◌, ◌≤◌, ◌<◌}
use native.Mathlib.Omega.{arith}
use lib.ListN.{length, set, replicate}
use lib.Seq.{paste, paste-zero}
use Rattle.lists.specs.Inner.{over_at}
use Rattle.lists.proofs.Kept.{filter-length}
use Rattle.lists.proofs.Tab.{length-tab}
use Rattle.layout.specs.Content.{Vertex, Hyperedge, live_vertices, live_hyperedges}
use Rattle.layout.specs.Layout.{limit, record_size, hyperedges_at, size, hyperedge_word, vertex_count, hyperedge_count, members_at, vertex_at, hyperedge_at, next_vertex_in, next_hyperedge_in, read_vertices, hyperedge_words, read, words}
use Rattle.layout.specs.Inner.{Formed}
use Rattle.layout.proofs.Read.{members-le}
use Rattle.edits.specs.Records.{record_ended}
use Rattle.edits.specs.Removing.{sifted, with_vertices}
use Rattle.edits.proofs.Stored.{over-all}
use Rattle.edits.proofs.Relaid.{relaid-pass}
use Rattle.edits.proofs.Rewritten.{rewritten-none, rewritten-done}
use Rattle.edits.proofs.Sifted.{sifted-none, record-sifted, sifted-kept, sifted-emptied}
use Rattle.edits.proofs.Laid.{with-vertices}
use Rattle.marks.specs.Marks.{is_marked}
use Rattle.sift_vertices.specs.Unmarked.{unmarked}
use Rattle.sift_vertices.proofs.Unmarked.{unmarked-none, unmarked-in, unmarked-out}
use Rattle.withdraw_marked.specs.Sparing.{spared, spared_of, unmarked_of}
use Rattle.withdraw_marked.specs.Sifting.{member_spared, members_spared, hyperedges_left, HyperedgesSifted, sifted_table}
use Rattle.withdraw_marked.proofs.Spared.{vertices-spared, hyperedges-spared}

-- ---- hyperedge records

module _ (vertices hyperedges : List Bool) (ws : List ℕ) where
  pub hyperedges-none : (s : List ℕ) → s ≡ ws → HyperedgesSifted vertices hyperedges ws 0 0 s
  hyperedges-none s e = rw (e, unmarked-none (hyperedge_at limit ws) hyperedges, sifted-none (member_spared vertices ws)) (rewritten-none limit ws)

  module _ (j k : ℕ) (s : List ℕ) (f : Formed limit ws) (h : j < hyperedge_count ws) (st : HyperedgesSifted vertices hyperedges ws j k s) where
    -- the record has a mark
    pub hyperedge-passed : is_marked hyperedges j ≡ true → HyperedgesSifted vertices hyperedges ws (j + 1) k s
    hyperedge-passed m = rw (unmarked-out (hyperedge_at limit ws) hyperedges j m) (relaid-pass (hyperedge_words limit) hyperedges_at (record_size limit) ws _ j k s st)

    -- ms is what `members_formed` gave
    module _ (ms : List ℕ) (em : ms ≡ members_at limit ws j) where
      pub members-room : hyperedge_word limit k + 3 + length ms ≤ length s
      members-room = omega (arith, ap length em, members-le limit ws f j h, st.behind, st.same, f.shape.sized, f.shape.hyperedges-le)

      -- c is what `keep_spared` says, s₂ the words after it
      module _ (c : ℕ) (ec : c ≡ length (members_spared vertices ws ms)) where
        pub left_le : c ≤ limit
        left_le = omega (arith, filter-length (member_spared vertices ws) ms, ap length em, members-le limit ws f j h)

        module _ (m : is_marked hyperedges j ≡ false) (s₂ : List ℕ) (e₂ : s₂ ≡ paste s (hyperedge_word limit k + 3) (members_spared vertices ws ms) c) where
          -- every member has a mark
          pub hyperedge-emptied : c ≡ 0 → HyperedgesSifted vertices hyperedges ws (j + 1) k s₂
          hyperedge-emptied z =
              rw (e₂, z, ← paste-zero s (hyperedge_word limit k + 3) (members_spared vertices ws ms))
              (sifted-emptied limit (member_spared vertices ws) ws _ j k s f st h _ (unmarked-in (hyperedge_at limit ws) hyperedges j m) c (ec ∙ ap (λ (l : List ℕ). length (members_spared vertices ws l)) em) z)

          -- some have none: s₃ the words after `end_record`
          pub hyperedge-kept : (x w : ℕ) (s₃ : List ℕ) → (c ≡ 0 → ⊥) → x ≡ (hyperedge_at limit ws j).number → w ≡ (hyperedge_at limit ws j).weight → s₃ ≡ record_ended limit k x w c s₂
              → HyperedgesSifted vertices hyperedges ws (j + 1) (k + 1) s₃
          hyperedge-kept x w s₃ ne ex ew e₃ =
              let r = record-sifted (member_spared vertices ws) ws s j k c _ s₂ s₃ (st.same ∙ f.shape.sized) (omega (arith, st.behind, f.shape.hyperedges-le)) left_le
              (ap (members_spared vertices ws) em) ec e₂ (e₃ ∙ ap₂ (λ (x w : ℕ). record_ended limit k x w c s₂) ex ew) in
              sifted-kept limit (member_spared vertices ws) ws _ j k s f st h _ (unmarked-in (hyperedge_at limit ws) hyperedges j m) c r.0 ne s₃ r.1

  -- ---- at the end: s₂ the words after the rest is cleared, s₃ after the count is stored
  pub hyperedges-done : (m j k : ℕ) (s s₂ s₃ : List ℕ) → Formed limit ws → m ≡ hyperedge_count ws → HyperedgesSifted vertices hyperedges ws j k s → j ≤ m → m ≤ j
      → s₂ ≡ paste s (hyperedge_word limit k) (replicate (size limit - hyperedge_word limit k) 0) (size limit - hyperedge_word limit k) → s₃ ≡ set s₂ 3 k
      → s₃ ≡ words limit (sifted_table vertices hyperedges ws)
  unfolding sifted_table
  hyperedges-done m j k s s₂ s₃ f em st l g e₂ e₃ =
      let ej : j ≡ hyperedge_count ws = omega arith in
      rewritten-done limit ws _ j k s s₂ s₃ f ej st e₂ e₃
      ∙ ap (λ (i : ℕ). words limit (record {
        next_vertex = next_vertex_in ws;
        next_hyperedge = next_hyperedge_in ws;
        vertices = read_vertices ws;
        hyperedges = hyperedges_left vertices hyperedges ws i;
      })) ej

-- ---- both

-- old is the copy of ws, d what stood there before
pub copied : (ws d old : List ℕ) → Formed limit ws → length d ≡ size limit → old ≡ over_at 0 ws d → Formed limit old × (ws ≡ old)
copied ws d old f l e =
    let same : ws ≡ old = sym (e ∙ over-all ws d (l ∙ sym f.shape.sized)) in
    (rw same at f, same)

-- ws₁ the words with the hyperedges that are left, ws₂ with the vertices too
pub marked-withdrawn : (vertices hyperedges : List Bool) (ws old ws₁ ws₂ : List ℕ) → Formed limit ws → ws ≡ old → ws₁ ≡ words limit (sifted_table vertices hyperedges old)
    → ws₂ ≡ with_vertices (unmarked (vertex_at old) vertices (vertex_count old)) ws₁ → ws₂ ≡ words limit (unmarked_of vertices hyperedges (read limit ws))
unfolding sifted_table unmarked_of spared_of sifted
marked-withdrawn vertices hyperedges ws old ws₁ ws₂ g e e₁ e₂ =
    let f : Formed limit old = rw e at g in
    let p : ℕ → Bool = spared vertices (live_vertices (read limit old)) in
    let h : ℕ → Bool = spared hyperedges (live_hyperedges (read limit old)) in
    e₂ ∙ ap (with_vertices (unmarked (vertex_at old) vertices (vertex_count old))) e₁
    ∙ with-vertices limit (sifted_table vertices hyperedges old) (rw length-tab f.shape.vertices-le) (unmarked (vertex_at old) vertices (vertex_count old))
    ∙ ap₂ (λ (vs : List Vertex) (es : List Hyperedge). words limit (record {
      next_vertex = next_vertex_in old;
      next_hyperedge = next_hyperedge_in old;
      vertices = vs;
      hyperedges = sifted p es;
    })) (vertices-spared p h vertices old f refl) (hyperedges-spared p h hyperedges old f refl)
    ∙ ap (λ (o : List ℕ). words limit (unmarked_of vertices hyperedges (read limit o))) (sym e)
