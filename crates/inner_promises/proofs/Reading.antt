-- Frame text read: any two results that keep the promise on the same input agree. Assumes nothing.
use mathlib.Core.Path.{◌≡◌, refl, sym, ap, ap₂, ◌∙◌}
use mathlib.Core.Bool.{Bool, true, false}
use mathlib.Core.List.{List, []}
use Prim.Native.Nat.{ℕ, ◌≤◌, ◌<◌}
use native.Mathlib.Omega.{arith}
use lib.Seq.{ext_get_or}
use Rattle.lists.specs.Tests.{every}
use Rattle.lists.specs.Lists.{tab, flat}
use Rattle.lists.specs.Inner.{over_at}
use Rattle.lists.proofs.Cases.{clash, on_below}
use Rattle.lists.proofs.Every.{every-at}
use Rattle.layout.specs.Layout.{limit, vertices_at, hyperedges_at, vertex_words, hyperedge_words}
use Rattle.frames.specs.Frames.{byte_values}
use Rattle.frames.specs.Reading.{vertex_in, vertex_place, hyperedge_in, hyperedge_place, vertex_good, hyperedge_good, vertices_due}
use Rattle.reader.specs.declared.Walked.{Walked}
use Rattle.reader.specs.Lines.{Valued}
use Rattle.reader.specs.Passes.{VerticesRead}
use Rattle.reader.specs.Hyperedges.{HyperedgesRead}
use Rattle.agreement.specs.Agreement.{Agrees}
use Rattle.inner_promises.proofs.Frames.{put_one}
use Rattle.reader.proofs.value_table.Kinds as value-table
use Rattle.reader.proofs.value_table.Reads as value-table-reads
use Rattle.reader.proofs.byte_at.Kinds as byte_at
use Rattle.reader.proofs.byte_at.Reads as byte-at-reads
use Rattle.reader.proofs.short_at.Kinds as short-at
use Rattle.reader.proofs.short_at.Reads as short-at-reads
use Rattle.reader.proofs.number_at.Kinds as number_at
use Rattle.reader.proofs.number_at.Reads as number-at-reads
use Rattle.reader.proofs.walk_line.Kinds as walk-line
use Rattle.reader.proofs.walk_line.Reads as walk-line-reads
use Rattle.sealed.proofs.stands_at.Kinds as stands_at
use Rattle.sealed.proofs.stands_at.Reads as stands-at-reads
use Rattle.sealed.proofs.frame_end.Kinds as frame-end
use Rattle.sealed.proofs.frame_end.Reads as frame-end-reads
use Rattle.sealed.proofs.counts_fit.Kinds as counts-fit
use Rattle.sealed.proofs.counts_fit.Reads as counts-fit-reads
use Rattle.sealed.proofs.number_fits.Kinds as number_fits_lem
use Rattle.sealed.proofs.number_fits.Reads as number-fits-reads
use Rattle.sealed.proofs.vertex_end.Kinds as vertex-end
use Rattle.sealed.proofs.vertex_end.Reads as vertex-end-reads
use Rattle.put_read.proofs.is_live.Kinds as is_live
use Rattle.put_read.proofs.is_live.Reads as is-live-reads
use Rattle.put_read.proofs.wide_word.Kinds as wide_word
use Rattle.put_read.proofs.wide_word.Reads as wide-word-reads
use Rattle.put_read.proofs.put_word.Kinds as put_word
use Rattle.put_read.proofs.put_word.Reads as put-word-reads
use Rattle.put_read.proofs.put_vertex.Kinds as put-vertex
use Rattle.put_read.proofs.put_vertex.Reads as put-vertex-reads
use Rattle.put_read.proofs.put_members.Kinds as put-members
use Rattle.put_read.proofs.put_members.Reads as put-members-reads
use Rattle.head_line.proofs.head_end.Kinds as head-end
use Rattle.head_line.proofs.head_end.Reads as head-end-reads
use Rattle.head_line.proofs.put_head.Kinds as put-head
use Rattle.head_line.proofs.put_head.Reads as put-head-reads
use Rattle.vertex_lines.proofs.read_vertices.Kinds as read-vertices
use Rattle.vertex_lines.proofs.read_vertices.Reads as read-vertices-reads
use Rattle.hyperedge_lines.proofs.read_hyperedges.Kinds as read-hyperedges
use Rattle.hyperedge_lines.proofs.read_hyperedges.Reads as read-hyperedges-reads

-- the table of values is filled
valued_one : {x y : List ℕ} → Valued x → Valued y → x ≡ y
valued_one {x} {y} p q =
    ext_get_or 0 x y (p.sized ∙ sym q.sized) (λ k h.
    let l : k < byte_values = omega (arith, h, p.sized) in
    p.rule k l ∙ sym (q.rule k l))

-- as many good ones in turn as there are, up to m: one number
good-one : (good : ℕ → Bool) (m r s : ℕ) → every good r ≡ true → every good s ≡ true → r ≤ m → s ≤ m
    → (r < m → good r ≡ false) → (s < m → good s ≡ false) → r ≡ s
good-one good m r s p q u v f g =
    on_below r s
    (λ l. clash (every-at good s r q l) (f (omega (arith, l, v))))
    (λ l. on_below s r (λ h. clash (every-at good r s p h) (g (omega (arith, h, u)))) (λ h. omega (arith, l, h)))

vertices-one : {text before x y : List ℕ} {a b i j : ℕ} → VerticesRead text before x a i → VerticesRead text before y b j → (a ≡ b) × (i ≡ j) × (x ≡ y)
vertices-one {text} {before} {a = a} {b} p q =
    let e = good-one (vertex_good text) (vertices_due text) a b p.good q.good p.some q.some p.stopped q.stopped in (
      e,
      p.reached ∙ ap vertex_place e ∙ sym q.reached,
      p.put.wrote ∙ ap (λ (r : ℕ). over_at vertices_at (flat vertex_words (tab (vertex_in text) r)) before) e ∙ sym q.put.wrote,
    )

hyperedges-one : {text before x y : List ℕ} {m a b i j : ℕ} → HyperedgesRead text m before x a i → HyperedgesRead text m before y b j
    → (a < m → hyperedge_good text a ≡ false) → (b < m → hyperedge_good text b ≡ false) → (a ≡ b) × (i ≡ j) × (x ≡ y)
hyperedges-one {text} {before} {m = m} {a} {b} p q f g =
    let e = good-one (hyperedge_good text) m a b p.good q.good p.some q.some f g in (
      e,
      p.reached ∙ ap (hyperedge_place text) e ∙ sym q.reached,
      p.put.wrote ∙ ap (λ (r : ℕ). over_at hyperedges_at (flat (hyperedge_words limit) (tab (hyperedge_in text) r)) before) e ∙ sym q.put.wrote,
    )

-- the lines, the place behind them and the words, as a call gives them
walked_one : {a b : Walked} {x y : List ℕ} → (a.lines ≡ b.lines) × (a.at ≡ b.at) × (x ≡ y) → (a ≡ b) × (x ≡ y)
walked_one h = (ap₂ (λ (l t : ℕ). record { lines = l; at = t }) h.0 h.1, h.2)

-- ---- digits and lines

pub value-table-agrees : Agrees 0 value-table.ps value-table.r value-table-reads.Post (λ _ _. [])
value-table-agrees κs args a b x y p q = (valued_one p q, refl)

pub byte-at-agrees : Agrees 2 byte_at.ps byte_at.r byte-at-reads.Post (λ _ _. [])
byte-at-agrees κs args a b x y p q = (p.0 ∙ sym q.0, refl)

pub short-at-agrees : Agrees 2 short-at.ps short-at.r short-at-reads.Post (λ _ _. [])
short-at-agrees κs args a b x y p q = (p.0 ∙ sym q.0, refl)

pub number-at-agrees : Agrees 2 number_at.ps number_at.r number-at-reads.Post (λ _ _. [])
number-at-agrees κs args a b x y p q = (p.0 ∙ sym q.0, refl)

pub walk-line-agrees : Agrees 1 walk-line.ps walk-line.r walk-line-reads.Post (λ _ _. [])
walk-line-agrees κs args a b x y p q = (p ∙ sym q, refl)

-- ---- frames, and what fits

pub stands-at-agrees : Agrees 2 stands_at.ps stands_at.r stands-at-reads.Post (λ _ _. [])
stands-at-agrees κs args a b x y p q = (p ∙ sym q, refl)

pub frame-end-agrees : Agrees 2 frame-end.ps frame-end.r frame-end-reads.Post (λ _ _. [])
frame-end-agrees κs args a b x y p q = (p ∙ sym q, refl)

pub counts-fit-agrees : Agrees 0 counts-fit.ps counts-fit.r counts-fit-reads.Post (λ _ _. [])
counts-fit-agrees κs args a b x y p q = (p ∙ sym q, refl)

pub number-fits-agrees : Agrees 0 number_fits_lem.ps number_fits_lem.r number-fits-reads.Post (λ _ _. [])
number-fits-agrees κs args a b x y p q = (p ∙ sym q, refl)

pub vertex-end-agrees : Agrees 2 vertex-end.ps vertex-end.r vertex-end-reads.Post (λ _ _. [])
vertex-end-agrees κs args a b x y p q = (p ∙ sym q, refl)

-- ---- what is read, put into words

pub is-live-agrees : Agrees 1 is_live.ps is_live.r is-live-reads.Post (λ _ _. [])
is-live-agrees κs args a b x y p q = (p ∙ sym q, refl)

pub wide-word-agrees : Agrees 0 wide_word.ps wide_word.r wide-word-reads.Post (λ _ _. [])
wide-word-agrees κs args a b x y p q = (p.0 ∙ sym q.0, refl)

pub put-word-agrees : Agrees 1 put_word.ps put_word.r put-word-reads.Post (λ _ x. x.0.now)
put-word-agrees κs args a b x y p q = put_one p q

pub put-vertex-agrees : Agrees 3 put-vertex.ps put-vertex.r put-vertex-reads.Post (λ _ x. x.0.now)
put-vertex-agrees κs args a b x y p q = put_one p q

pub put-members-agrees : Agrees 3 put-members.ps put-members.r put-members-reads.Post (λ _ x. x.0.now)
put-members-agrees κs args a b x y p q = put_one p q

-- ---- the lines

pub head-end-agrees : Agrees 2 head-end.ps head-end.r head-end-reads.Post (λ _ _. [])
head-end-agrees κs args a b x y p q = (p ∙ sym q, refl)

pub put-head-agrees : Agrees 3 put-head.ps put-head.r put-head-reads.Post (λ _ x. x.0.now)
put-head-agrees κs args a b x y p q = put_one p q

pub read-vertices-agrees : Agrees 3 read-vertices.ps read-vertices.r read-vertices-reads.Post (λ _ x. x.0.now)
read-vertices-agrees κs args a b x y p q = walked_one (vertices-one p q)

pub read-hyperedges-agrees : Agrees 3 read-hyperedges.ps read-hyperedges.r read-hyperedges-reads.Post (λ _ x. x.0.now)
read-hyperedges-agrees κs args a b x y p q = walked_one (hyperedges-one p.0 q.0 p.1 q.1)
