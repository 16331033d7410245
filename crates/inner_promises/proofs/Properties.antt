-- Marked members and member sets: any two results that keep the promise on the same input agree, or agree in what is given. Assumes nothing.
use mathlib.Core.Path.{◌≡◌, refl, sym, ◌∙◌}
use mathlib.Core.Bool.{Bool}
use mathlib.Core.List.{List, []}
use Prim.Native.Nat.{ℕ}
use lib.ListN.{length}
use Rattle.lists.specs.Lists.{tab}
use Rattle.lists.proofs.Tab.{tab-ext}
use Rattle.layout.specs.Content.{live_vertices}
use Rattle.layout.specs.Layout.{limit, vertex_count, hyperedge_count, read}
use Rattle.lookups.specs.State.{MarkedBy}
use Rattle.agreement.specs.Agreement.{Agrees, AgreesIn}
use Rattle.inner_promises.proofs.Parts.{two}
use Rattle.inner_promises.specs.Given.{firsts, first_marks, row_marks}
use Rattle.listed_members.proofs.mark_members.Kinds as mark-members
use Rattle.listed_members.proofs.mark_members.Reads as mark-members-reads
use Rattle.listed_members.proofs.listed_marks.Kinds as listed-marks
use Rattle.listed_members.proofs.listed_marks.Reads as listed-marks-reads
use Rattle.member_sets.proofs.member_sets.Kinds as member-sets
use Rattle.member_sets.proofs.member_sets.Reads as member-sets-reads
use Rattle.member_sets.proofs.strictly_within.Kinds as strictly-within
use Rattle.member_sets.proofs.strictly_within.Reads as strictly-within-reads

-- ---- the members of the lists, marked

-- the marks of the live vertices
marked-one : {live : List ℕ} {p : ℕ → Bool} {old x y : List Bool} → MarkedBy live p old x
    → MarkedBy live p old y → first_marks (length live) x ≡ first_marks (length live) y
marked-one {live} p q = tab-ext _ _ (length live) (λ k l. p.each k l ∙ sym (q.each k l))

pub mark-members-agrees : AgreesIn 3 mark-members.ps mark-members.r mark-members-reads.Pre mark-members-reads.Post
    (λ κs args a x. first_marks (length (live_vertices (read limit args.0.now))) x.1.1.0.now)
mark-members-agrees κs args a b x y pre p q = marked-one p q

pub listed-marks-agrees : AgreesIn 1 listed-marks.ps listed-marks.r listed-marks-reads.Pre listed-marks-reads.Post
    (λ κs args a x. first_marks (length (live_vertices (read limit args.0.now))) a)
listed-marks-agrees κs args a b x y pre p q = marked-one p q

-- ---- the lists as sets

pub member-sets-agrees : AgreesIn {A = List (List Bool) × List ℕ} 3 member-sets.ps member-sets.r member-sets-reads.Pre member-sets-reads.Post
    (λ κs args a x. (
      tab (λ j. row_marks (vertex_count args.0.now) j x.1.0.now) (hyperedge_count args.0.now),
      firsts (hyperedge_count args.0.now) x.1.1.0.now,
    ))
member-sets-agrees κs args a b x y pre p q =
    two (tab-ext _ _ _ (λ j l. tab-ext _ _ _ (λ i h. p.marks j l i h ∙ sym (q.marks j l i h))))
    (tab-ext _ _ _ (λ j l. p.counts j l ∙ sym (q.counts j l)))

pub strictly-within-agrees : Agrees 3 strictly-within.ps strictly-within.r strictly-within-reads.Post (λ _ _. [])
strictly-within-agrees κs args a b x y p q = (p ∙ sym q, refl)
