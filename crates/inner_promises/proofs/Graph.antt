-- Matrices, the sort, searches, classes, rows of marks and the closure: any two results that keep the promise on the same input agree, or agree in what is given.
-- What stands in an array beyond the places that the promise speaks of is not determined. Assumes nothing.
use mathlib.Core.Path.{◌≡◌, refl, sym, ap, ap₂, ◌∙◌, subst}
use mathlib.Core.Bool.{Bool}
use mathlib.Core.List.{List, [], ◌∷◌}
use Prim.Native.Nat.{ℕ, suc, ◌-◌, ◌<◌}
use native.Mathlib.Omega.{arith}
use lib.ListN.{length, get_or, take}
use lib.Seq.{length-take-le}
use borrow.Author.Tests.{eqb-true, eq-eqb}
use Rattle.lists.specs.Lists.{memb, tab}
use Rattle.lists.proofs.Cases.{on, on_same, clash}
use Rattle.lists.proofs.Tab.{tab-ext}
use Rattle.layout.specs.Layout.{vertex_limit}
use Rattle.layout.proofs.Answers.{agree}
use Rattle.steps.specs.Inner.{Holds}
use Rattle.order.proofs.State.{sorted-agree}
use Rattle.graph.specs.Bfs.{bfs}
use Rattle.graph.specs.Post.{Reached}
use Rattle.graph.proofs.Bfs.{bfs-sound, bfs-complete}
use Rattle.mark_rows.specs.Rows.{row_mark, RowIs}
use Rattle.components.specs.Parts.{Partition}
use Rattle.components.specs.Classes.{roots_of}
use Rattle.agreement.specs.Agreement.{Agrees, AgreesIn}
use Rattle.inner_promises.specs.Given.{firsts, row_firsts, marked_rows}
use Rattle.inner_promises.proofs.Parts.{matrix-one}
use Rattle.steps.proofs.step_matrix.Kinds as step-matrix
use Rattle.steps.proofs.step_matrix.Reads as step-matrix-reads
use Rattle.steps.proofs.turned_matrix.Kinds as turned-matrix
use Rattle.steps.proofs.turned_matrix.Reads as turned-matrix-reads
use Rattle.steps.proofs.link_matrix.Kinds as link-matrix
use Rattle.steps.proofs.link_matrix.Reads as link-matrix-reads
use Rattle.cut.proofs.together_matrix.Kinds as together-matrix
use Rattle.cut.proofs.together_matrix.Reads as together-matrix-reads
use Rattle.order.proofs.sort.Kinds as sort
use Rattle.order.proofs.sort.Reads as sort-reads
use Rattle.steps.proofs.list_records.Kinds as list-records
use Rattle.steps.proofs.list_records.Reads as list-records-reads
use Rattle.components.proofs.list_classes.Kinds as list-classes
use Rattle.components.proofs.list_classes.Reads as list-classes-reads
use Rattle.closure.proofs.list_pairs.Kinds as list-pairs
use Rattle.closure.proofs.list_pairs.Reads as list-pairs-reads
use Rattle.cut_vertices.proofs.cut_vertices_formed.Kinds as cut-vertices-formed
use Rattle.cut_vertices.proofs.cut_vertices_formed.Reads as cut-vertices-formed-reads
use Rattle.graph.proofs.get_bfs.Kinds as get-bfs
use Rattle.graph.proofs.get_bfs.Reads as get-bfs-reads
use Rattle.depth.proofs.get_dfs.Kinds as get-dfs
use Rattle.depth.proofs.get_dfs.Reads as get-dfs-reads
use Rattle.depth.proofs.finish_order.Kinds as finish-order
use Rattle.depth.proofs.finish_order.Reads as finish-order-reads
use Rattle.graph.proofs.marks_from.Kinds as marks-from
use Rattle.graph.proofs.marks_from.Reads as marks-from-reads
use Rattle.graph.proofs.reach_from.Kinds as reach-from
use Rattle.graph.proofs.reach_from.Reads as reach-from-reads
use Rattle.components.proofs.join.Kinds as join
use Rattle.components.proofs.join.Reads as join-reads
use Rattle.components.proofs.part_linked.Kinds as part-linked
use Rattle.components.proofs.part_linked.Reads as part-linked-reads
use Rattle.strong.proofs.part_strong.Kinds as part-strong
use Rattle.strong.proofs.part_strong.Reads as part-strong-reads
use Rattle.mark_rows.proofs.has_mark.Kinds as has-mark
use Rattle.mark_rows.proofs.has_mark.Reads as has-mark-reads
use Rattle.mark_rows.proofs.fill_rows.Kinds as fill-rows
use Rattle.mark_rows.proofs.fill_rows.Reads as fill-rows-reads
use Rattle.mark_rows.proofs.hand_row.Kinds as hand-row
use Rattle.mark_rows.proofs.hand_row.Reads as hand-row-reads
use Rattle.mark_rows.proofs.count_marks.Kinds as count-marks
use Rattle.mark_rows.proofs.count_marks.Reads as count-marks-reads
use Rattle.closure.proofs.close.Kinds as close
use Rattle.closure.proofs.close.Reads as close-reads

-- ---- matrices

-- the relation determines every entry
holds-one : {E : ℕ → ℕ → Bool} {n : ℕ} {m p : List ℕ} → Holds E n m → Holds E n p → m ≡ p
holds-one v w = matrix-one v.sized w.sized (λ i j hi hj. v.entry i j hi hj ∙ sym (w.entry i j hi hj))

pub step-matrix-agrees : Agrees 2 step-matrix.ps step-matrix.r step-matrix-reads.Post (λ _ x. x.1.0.now)
step-matrix-agrees κs args a b x y p q = (refl, holds-one p q)

pub turned-matrix-agrees : Agrees 2 turned-matrix.ps turned-matrix.r turned-matrix-reads.Post (λ _ x. x.1.0.now)
turned-matrix-agrees κs args a b x y p q = (refl, holds-one p q)

pub link-matrix-agrees : Agrees 2 link-matrix.ps link-matrix.r link-matrix-reads.Post (λ _ x. x.1.0.now)
link-matrix-agrees κs args a b x y p q = (refl, holds-one p q)

pub together-matrix-agrees : Agrees 2 together-matrix.ps together-matrix.r together-matrix-reads.Post (λ _ x. x.1.0.now)
together-matrix-agrees κs args a b x y p q = (refl, holds-one p q)

-- ---- the sort

pub sort-agrees : Agrees 2 sort.ps sort.r sort-reads.Post (λ _ x. x.1.1.0.now)
sort-agrees κs args a b x y p q = sorted-agree p q

-- ---- listings

pub list-records-agrees : Agrees 3 list-records.ps list-records.r list-records-reads.Post (λ _ x. x.1.1.1.0.now)
list-records-agrees κs args a b x y p q = agree _ p q

pub list-classes-agrees : Agrees 3 list-classes.ps list-classes.r list-classes-reads.Post (λ _ x. x.1.1.1.1.0.now)
list-classes-agrees κs args a b x y p q = agree _ p q

pub list-pairs-agrees : Agrees 3 list-pairs.ps list-pairs.r list-pairs-reads.Post (λ _ x. x.1.1.1.0.now)
list-pairs-agrees κs args a b x y p q = agree _ p q

pub cut-vertices-formed-agrees : Agrees 2 cut-vertices-formed.ps cut-vertices-formed.r cut-vertices-formed-reads.Post (λ _ x. x.1.0.now)
cut-vertices-formed-agrees κs args a b x y p q = agree _ p q

-- ---- searches: how many numbers are listed, and those; or the marks of the first n

pub get-bfs-agrees : AgreesIn 2 get-bfs.ps get-bfs.r get-bfs-reads.Pre get-bfs-reads.Post (λ κs args a x. a ∷ take a x.1.1.1.0.now)
get-bfs-agrees κs args a b x y pre p q = ap₂ ◌∷◌ (p.1 ∙ sym q.1) (p.0 ∙ sym q.0)

pub get-dfs-agrees : AgreesIn 2 get-dfs.ps get-dfs.r get-dfs-reads.Pre get-dfs-reads.Post (λ κs args a x. a ∷ take a x.1.1.1.0.now)
get-dfs-agrees κs args a b x y pre p q = ap₂ ◌∷◌ (p.1 ∙ sym q.1) (p.0 ∙ sym q.0)

pub finish-order-agrees : AgreesIn 2 finish-order.ps finish-order.r finish-order-reads.Pre finish-order-reads.Post
    (λ κs args a x. a ∷ take a x.1.1.0.now)
finish-order-agrees κs args a b x y pre p q =
    let l = p.is ∙ sym q.is in
    let m = length-take-le a x.1.1.0.now (omega (arith, pre, p.short, p.long)) in
    let n = length-take-le b y.1.1.0.now (omega (arith, pre, q.short, q.long)) in
    ap₂ ◌∷◌ (sym m ∙ ap length l ∙ n) l

pub marks-from-agrees : AgreesIn 2 marks-from.ps marks-from.r marks-from-reads.Pre marks-from-reads.Post
    (λ κs args a x. firsts args.1.0 x.1.1.1.0.now)
marks-from-agrees κs args a b x y pre p q = tab-ext _ _ args.1.0 (λ i l. p i l ∙ sym (q i l))

reached-one : (E : ℕ → ℕ → Bool) (n s : ℕ) (m k : List ℕ) → s < n → Reached E n s m → Reached E n s k → firsts n m ≡ firsts n k
reached-one E n s m k h p q =
    tab-ext _ _ n (λ j l.
    on (memb j (bfs E n s))
    (λ e. p.yes j l (bfs-sound E n s h j e) ∙ sym (q.yes j l (bfs-sound E n s h j e)))
    (λ e. p.no j l (λ w. clash (bfs-complete E n s h j w) e) ∙ sym (q.no j l (λ w. clash (bfs-complete E n s h j w) e))))

pub reach-from-agrees : AgreesIn 2 reach-from.ps reach-from.r reach-from-reads.Pre reach-from-reads.Post
    (λ κs args a x. firsts args.1.0 x.1.1.1.0.now)
reach-from-agrees κs args a b x y pre p q = reached-one _ args.1.0 args.1.1.0 _ _ pre.1 p q

-- ---- classes: of the first n

pub join-agrees : AgreesIn 2 join.ps join.r join-reads.Pre join-reads.Post (λ κs args a x. firsts args.1.0 x.1.1.1.0.now)
join-agrees κs args a b x y pre p q = tab-ext _ _ args.1.0 (λ i l. p.is i l ∙ sym (q.is i l))

partition-one : (P : ℕ → ℕ → Bool) (n : ℕ) (order ids ids' : List ℕ) (c d : ℕ) → Partition P n order ids c
    → Partition P n order ids' d → c ∷ firsts n ids ≡ d ∷ firsts n ids'
partition-one P n order ids ids' c d p q =
    ap₂ ◌∷◌ (p.parted.number ∙ sym q.parted.number) (tab-ext _ _ n (λ v l.
    let k : ℕ = get_or ids v 0 - 1 in
    let e : suc k ≡ get_or ids v 0 = omega (arith, (p.filled v l).0) in
    let h : k < length (roots_of P order) = omega (arith, (p.filled v l).0, (p.filled v l).1, p.parted.number) in
    sym e ∙ sym (eqb-true (get_or ids' v 0) (suc k) (q.parted.is k v h l ∙ sym (p.parted.is k v h l) ∙ eq-eqb (get_or ids v 0) (suc k) (sym e)))))

pub part-linked-agrees : AgreesIn 2 part-linked.ps part-linked.r part-linked-reads.Pre part-linked-reads.Post
    (λ κs args a x. a ∷ firsts args.1.0 x.1.1.0.now)
part-linked-agrees κs args a b x y pre p q = partition-one _ args.1.0 _ _ _ a b p q

pub part-strong-agrees : AgreesIn 3 part-strong.ps part-strong.r part-strong-reads.Pre part-strong-reads.Post
    (λ κs args a x. a ∷ firsts args.1.1.0 x.1.1.1.0.now)
part-strong-agrees κs args a b x y pre p q = partition-one _ args.1.1.0 _ _ _ a b p q

-- ---- rows of marks: those of the first n

rows-one : (n : ℕ) (r s : List ℕ) → ((x y : ℕ) → x < n → y < vertex_limit → row_mark r x y ≡ row_mark s x y) → marked_rows n r ≡ marked_rows n s
rows-one n r s h = tab-ext _ _ n (λ x lx. tab-ext _ _ vertex_limit (λ y ly. h x y lx ly))

pub has-mark-agrees : Agrees 1 has-mark.ps has-mark.r has-mark-reads.Post (λ _ _. [])
has-mark-agrees κs args a b x y p q = (p ∙ sym q, refl)

pub count-marks-agrees : Agrees 1 count-marks.ps count-marks.r count-marks-reads.Post (λ _ _. [])
count-marks-agrees κs args a b x y p q = (p.0 ∙ sym q.0, refl)

pub fill-rows-agrees : AgreesIn 2 fill-rows.ps fill-rows.r fill-rows-reads.Pre fill-rows-reads.Post
    (λ κs args a x. marked_rows args.1.0 x.1.1.0.now)
fill-rows-agrees κs args a b x y pre p q = rows-one args.1.0 _ _ (λ u v hu hv. p.is u v hu hv ∙ sym (q.is u v hu hv))

row-is-one : {k : ℕ} {P : ℕ → Bool} {o r s : List ℕ} → RowIs k P o r → RowIs k P o s → (x y : ℕ) → x < vertex_limit → y < vertex_limit → row_mark r x y ≡ row_mark s x y
row-is-one {k} {P} {o} {r} {s} p q x y hx hy =
    on_same x k
    (λ e. subst (λ (i : ℕ). row_mark r i y ≡ row_mark s i y) (sym e) (p.row y hy ∙ sym (q.row y hy)))
    (λ ne. p.others x y hx hy ne ∙ sym (q.others x y hx hy ne))

pub hand-row-agrees : AgreesIn 1 hand-row.ps hand-row.r hand-row-reads.Pre hand-row-reads.Post (λ κs args a x. marked_rows vertex_limit x.0.now)
hand-row-agrees κs args a b x y pre p q = rows-one vertex_limit _ _ (row-is-one p q)

pub close-agrees : AgreesIn 2 close.ps close.r close-reads.Pre close-reads.Post
    (λ κs args a x. tab (λ u. row_firsts args.1.0 u x.1.1.0.now) args.1.0)
close-agrees κs args a b x y pre p q = tab-ext _ _ args.1.0 (λ u hu. tab-ext _ _ args.1.0 (λ v hv. p.is u v hu hv ∙ sym (q.is u v hu hv)))
