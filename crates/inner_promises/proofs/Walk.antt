-- The random walk: any two results that keep the promise on the same input agree, or agree in what is given. Assumes nothing.
use mathlib.Core.Path.{◌≡◌, refl, sym, ap, ◌∙◌}
use mathlib.Core.List.{List, []}
use Prim.Native.Nat.{ℕ, ◌<◌}
use native.Mathlib.Omega.{arith}
use lib.ListN.{length}
use Rattle.lists.specs.Lists.{word_at, tab}
use Rattle.lists.proofs.Cases.{on_same}
use Rattle.lists.proofs.Ascend.{ascending-apart}
use Rattle.lists.proofs.Flat.{tab-getD}
use Rattle.lists.proofs.Tab.{length-tab, getD-tab, tab-ext}
use Rattle.layout.specs.Content.{Hyperedge}
use Rattle.layout.specs.Layout.{limit, vertex_count, hyperedge_count, members_at, hyperedge_at}
use Rattle.layout.specs.Inner.{Formed, hyperedge_column}
use Rattle.walk.specs.Passes.{Rows}
use Rattle.agreement.specs.Agreement.{Agrees, AgreesIn}
use Rattle.inner_promises.specs.Given.{row_firsts, row_marks}
use Rattle.walk.proofs.xorshift.Kinds as xorshift
use Rattle.walk.proofs.xorshift.Reads as xorshift-reads
use Rattle.walk.proofs.sample.Kinds as sample
use Rattle.walk.proofs.sample.Reads as sample-reads
use Rattle.walk.proofs.greater.Kinds as greater
use Rattle.walk.proofs.greater.Reads as greater-reads
use Rattle.firsts.proofs.first_places.Kinds as first-places
use Rattle.firsts.proofs.first_places.Reads as first-places-reads
use Rattle.membership.proofs.list_members.Kinds as list-members
use Rattle.membership.proofs.list_members.Reads as list-members-reads
use Rattle.moves.proofs.lister_count.Kinds as lister-count
use Rattle.moves.proofs.lister_count.Reads as lister-count-reads
use Rattle.moves.proofs.drawn_hyperedge.Kinds as drawn-hyperedge
use Rattle.moves.proofs.drawn_hyperedge.Reads as drawn-hyperedge-reads
use Rattle.moves.proofs.to_one_of.Kinds as to-one-of
use Rattle.moves.proofs.to_one_of.Reads as to-one-of-reads
use Rattle.walking.proofs.write_walk.Kinds as write-walk
use Rattle.walking.proofs.write_walk.Reads as write-walk-reads

-- ---- draws

pub xorshift-agrees : Agrees 0 xorshift.ps xorshift.r xorshift-reads.Post (λ _ _. [])
xorshift-agrees κs args a b x y p q = (p ∙ sym q, refl)

pub sample-agrees : Agrees 0 sample.ps sample.r sample-reads.Post (λ _ _. [])
sample-agrees κs args a b x y p q = (p ∙ sym q, refl)

pub greater-agrees : Agrees 0 greater.ps greater.r greater-reads.Post (λ _ _. [])
greater-agrees κs args a b x y p q = (p ∙ sym q, refl)

-- ---- first places, and the records that list each vertex

pub first-places-agrees : AgreesIn 2 first-places.ps first-places.r first-places-reads.Pre first-places-reads.Post
    (λ κs args a x. tab (λ j. row_marks (length (members_at limit args.0.now j)) j x.1.0.now) (hyperedge_count args.0.now))
first-places-agrees κs args a b x y pre p q = tab-ext _ _ _ (λ j l. tab-ext _ _ _ (λ i h. p.before j i l h ∙ sym (q.before j i l h)))

-- each row is its list
rows_are : {n : ℕ} {R : ℕ → List ℕ} {rows counts : List ℕ} → Rows n R rows counts → tab (λ i. row_firsts (word_at counts i) i rows) n ≡ tab R n
rows_are {n} {R} {rows} {counts} w =
    tab-ext _ _ n (λ i l.
    ap (λ (k : ℕ). row_firsts k i rows) (w.many i l) ∙ tab-ext _ _ (length (R i)) (λ q h. w.entry i q l h) ∙ tab-getD (R i) 0)

pub list-members-agrees : AgreesIn 4 list-members.ps list-members.r list-members-reads.Pre list-members-reads.Post
    (λ κs args a x. tab (λ i. row_firsts (word_at x.1.1.1.0.now i) i x.1.1.0.now) (vertex_count args.0.now))
list-members-agrees κs args a b x y pre p q = rows_are p ∙ sym (rows_are q)

-- ---- a move, and the walk

pub lister-count-agrees : Agrees 3 lister-count.ps lister-count.r lister-count-reads.Post (λ _ _. [])
lister-count-agrees κs args a b x y p q = (p ∙ sym q, refl)

-- two records of one number are one
record-one : (ws : List ℕ) (j k : ℕ) → Formed limit ws → j < hyperedge_count ws → k < hyperedge_count ws
    → hyperedge_at limit ws j ≡ hyperedge_at limit ws k → j ≡ k
record-one ws j k f hj hk e =
    let c = hyperedge_column limit ws in
    let n : length c ≡ hyperedge_count ws = length-tab _ (hyperedge_count ws) in
    on_same j k (λ h. h) (λ ne. absurd (ascending-apart c f.hyperedges-ascend j k (omega (arith, n, hj)) (omega (arith, n, hk)) ne
    (getD-tab _ (hyperedge_count ws) j 0 hj ∙ ap (λ (h : Hyperedge). h.number) e ∙ sym (getD-tab _ (hyperedge_count ws) k 0 hk))))

pub drawn-hyperedge-agrees : AgreesIn 3 drawn-hyperedge.ps drawn-hyperedge.r drawn-hyperedge-reads.Pre drawn-hyperedge-reads.Post (λ κs args a x. a)
drawn-hyperedge-agrees κs args a b x y pre p q = record-one args.0.now a b pre.0 p.within q.within (p.taken ∙ sym q.taken)

pub to-one-of-agrees : Agrees 2 to-one-of.ps to-one-of.r to-one-of-reads.Post (λ _ _. [])
to-one-of-agrees κs args a b x y p q = (p ∙ sym q, refl)

pub write-walk-agrees : Agrees 5 write-walk.ps write-walk.r write-walk-reads.Post (λ _ x. x.1.1.1.1.1.1.0.now)
write-walk-agrees κs args a b x y p q = (refl, p ∙ sym q)
