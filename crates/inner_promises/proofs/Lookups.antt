-- Marks, and what the lookups list: any two results that keep the promise on the same input agree, or agree in what is given. Assumes nothing.
use mathlib.Core.Path.{◌≡◌, refl, sym, ap, ap₂, ◌∙◌}
use mathlib.Core.List.{List, [], ◌∷◌}
use Prim.Native.Nat.{ℕ, ◌+◌, ◌-◌, ◌<◌}
use native.Mathlib.Omega.{arith}
use lib.ListN.{length, drop, length-drop}
use lib.Seq.{get_or-drop, ext_get_or}
use borrow.Author.Tests.{eq-eqb, ne_eqb}
use Rattle.lists.specs.Lists.{word_at, tab}
use Rattle.lists.proofs.Cases.{on_same, not_none}
use Rattle.lists.proofs.Tab.{tab-ext}
use Rattle.layout.specs.Content.{live_vertices}
use Rattle.layout.specs.Layout.{limit, read}
use Rattle.layout.proofs.Answers.{agree}
use Rattle.lookups.specs.State.{start, Beyond, Headed}
use Rattle.lookups.proofs.Full.{filling-end}
use Rattle.agreement.specs.Agreement.{Agrees, AgreesIn}
use Rattle.inner_promises.proofs.Parts.{two, three}
use Rattle.inner_promises.specs.Given.{firsts, first_marks, head_at}
use Rattle.marks.proofs.mark.Kinds as mark
use Rattle.marks.proofs.mark.Reads as mark-reads
use Rattle.marks.proofs.count_marked.Kinds as count-marked
use Rattle.marks.proofs.count_marked.Reads as count-marked-reads
use Rattle.marks.proofs.write_marked.Kinds as write-marked
use Rattle.marks.proofs.write_marked.Reads as write-marked-reads
use Rattle.marks.proofs.list_marked.Kinds as list-marked
use Rattle.marks.proofs.list_marked.Reads as list-marked-reads
use Rattle.desk_upstream.proofs.upstream_marks.Kinds as upstream-marks
use Rattle.desk_upstream.proofs.upstream_marks.Reads as upstream-marks-reads
use Rattle.lookups.proofs.ends_at.Kinds as ends_at
use Rattle.lookups.proofs.ends_at.Reads as ends-at-reads
use Rattle.lookups.proofs.holds.Kinds as holds
use Rattle.lookups.proofs.holds.Reads as holds-reads
use Rattle.hyperedge_blocks.proofs.count_blocks.Kinds as count-blocks
use Rattle.hyperedge_blocks.proofs.count_blocks.Reads as count-blocks-reads
use Rattle.hyperedge_blocks.proofs.write_blocks.Kinds as write-blocks
use Rattle.hyperedge_blocks.proofs.write_blocks.Reads as write-blocks-reads
use Rattle.full_entries.proofs.words_for.Kinds as words-for
use Rattle.full_entries.proofs.words_for.Reads as words-for-reads
use Rattle.full_entries.proofs.write_heads.Kinds as write-heads
use Rattle.full_entries.proofs.write_heads.Reads as write-heads-reads
use Rattle.full_entries.proofs.fill.Kinds as fill
use Rattle.full_entries.proofs.fill.Reads as fill-reads

-- ---- marks

pub mark-agrees : AgreesIn 2 mark.ps mark.r mark-reads.Pre mark-reads.Post (λ κs args a x. x.1.1.0.now)
mark-agrees κs args a b x y pre p q = p ∙ sym q

pub count-marked-agrees : Agrees 1 count-marked.ps count-marked.r count-marked-reads.Post (λ _ _. [])
count-marked-agrees κs args a b x y p q = (p ∙ sym q, refl)

pub write-marked-agrees : Agrees 3 write-marked.ps write-marked.r write-marked-reads.Post (λ _ x. x.1.1.1.0.now)
write-marked-agrees κs args a b x y p q = (refl, p ∙ sym q)

pub list-marked-agrees : Agrees 3 list-marked.ps list-marked.r list-marked-reads.Post (λ _ x. x.1.1.0.now)
list-marked-agrees κs args a b x y p q = agree _ p q

-- the marks of the live vertices
pub upstream-marks-agrees : AgreesIn 1 upstream-marks.ps upstream-marks.r upstream-marks-reads.Pre upstream-marks-reads.Post
    (λ κs args a x. first_marks (length (live_vertices (read limit args.0.now))) a)
upstream-marks-agrees κs args a b x y pre p q = tab-ext _ _ _ (λ k l. p.each k l ∙ sym (q.each k l))

-- ---- lists of members

pub ends-at-agrees : Agrees 1 ends_at.ps ends_at.r ends-at-reads.Post (λ _ _. [])
ends-at-agrees κs args a b x y p q = (p ∙ sym q, refl)

pub holds-agrees : Agrees 1 holds.ps holds.r holds-reads.Post (λ _ _. [])
holds-agrees κs args a b x y p q = (p ∙ sym q, refl)

-- ---- listings of hyperedges

pub count-blocks-agrees : Agrees 1 count-blocks.ps count-blocks.r count-blocks-reads.Post (λ _ _. [])
count-blocks-agrees κs args a b x y p q = (p ∙ sym q, refl)

pub write-blocks-agrees : Agrees 2 write-blocks.ps write-blocks.r write-blocks-reads.Post (λ _ x. x.1.1.0.now)
write-blocks-agrees κs args a b x y p q = (refl, p ∙ sym q)

-- ---- adjacent vertices with their hyperedges

pub words-for-agrees : Agrees 0 words-for.ps words-for.r words-for-reads.Post (λ _ _. [])
words-for-agrees κs args a b x y p q = (p ∙ sym q, refl)

beyond-one : {total : ℕ} {old x y : List ℕ} → Beyond total old x → Beyond total old y → drop total x ≡ drop total y
beyond-one {total} {x = x} {y} p q =
    ext_get_or 0 (drop total x) (drop total y) (length-drop total x ∙ ap (λ (n : ℕ). n - total) (p.same ∙ sym q.same) ∙ sym (length-drop total y)) (λ k h.
    get_or-drop total x k 0 ∙ p.rest (total + k) (omega arith) ∙ sym (q.rest (total + k) (omega arith)) ∙ sym (get_or-drop total y k 0))

head-one : {live counts old a b x y : List ℕ} {n : ℕ} → Headed live counts old n a x
    → Headed live counts old n b y → (k : ℕ) → k < n → head_at counts x k ≡ head_at counts y k
head-one {counts = counts} p q k l =
    on_same (word_at counts k) 0
    (λ e. rw (eq-eqb (word_at counts k) 0 e))
    (λ e. let h = not_none (word_at counts k) e in
    rw (ne_eqb (word_at counts k) 0 e) (ap₂ (λ (v c : ℕ). v ∷ c ∷ []) (p.named k l h ∙ sym (q.named k l h)) (p.counted k l h ∙ sym (q.counted k l h))))

-- where the hyperedges of each vertex begin, its vertex and count, and the words behind all entries
pub write-heads-agrees : AgreesIn {A = List ℕ × List (List ℕ) × List ℕ} 3 write-heads.ps write-heads.r write-heads-reads.Pre write-heads-reads.Post
    (λ κs args a x. (
      firsts args.1.0 a,
      tab (head_at args.1.1.0.now x.1.1.1.0.now) args.1.0,
      drop (start args.1.1.0.now args.1.0) x.1.1.1.0.now,
    ))
write-heads-agrees κs args a b x y pre p q =
    three (tab-ext _ _ _ (λ k l. p.each k l ∙ sym (q.each k l))) (tab-ext _ _ _ (λ k l. head-one p q k l)) (beyond-one p.kept q.kept)

-- the words, and where those of each vertex end
pub fill-agrees : AgreesIn {A = List ℕ × List ℕ} 3 fill.ps fill.r fill-reads.Pre fill-reads.Post
    (λ κs args a x. (x.1.1.1.1.0.now, firsts (length (live_vertices (read limit args.0.now))) x.1.1.1.0.now))
fill-agrees κs args a b x y pre p q =
    two (filling-end p.0 p.1 ∙ sym (filling-end q.0 q.1))
    (tab-ext _ _ _ (λ k l. omega (arith, p.0.room k l, q.0.room k l)))
