-- The test of a table, words stored and moved, records of a tray, and lists of members: any two results that keep the promise on the same input
-- agree. Assumes nothing.
use Rattle.std.specs.Prelude.{Ok, Err}
use mathlib.Core.Path.{◌≡◌, refl, sym, ap, ◌∙◌}
use mathlib.Core.List.{List, [], ◌∷◌}
use Prim.Native.Nat.{ℕ}
use native.Mathlib.Omega.{arith}
use lib.ListN.{length}
use seplogic.Ra.Ura.{Ura}
use base.Logic.{SProp}
use prog.Memory.{Memory}
use prog.Routine.{Routine}
use types.Logic.{Logic}
use contract.Monad.{Fun}
use Rattle.layout.specs.declared.Refusal.TheVariants.{Full}
use Rattle.layout.specs.Answers.{Answer, Result, result_of}
use Rattle.layout.proofs.Answers.{agree}
use Rattle.edits.specs.Stages.{Judgement}
use Rattle.edits.specs.Stages.{or_else}
use Rattle.tray_marks.specs.Marking.{tray_of}
use Rattle.agreement.specs.Agreement.{Agrees, Promise, IsContract, AgreesBy}
use Rattle.timed.proofs.timed_well_formed.Kinds as timed-well-formed
use Rattle.timed.proofs.timed_well_formed.Reads as timed-well-formed-reads
use Rattle.formed.proofs.all_below.Kinds as all-below
use Rattle.formed.proofs.all_below.Reads as all-below-reads
use Rattle.formed.proofs.climbing.Kinds as climbing
use Rattle.formed.proofs.climbing.Reads as climbing-reads
use Rattle.formed.proofs.is_shaped.Kinds as is-shaped
use Rattle.formed.proofs.is_shaped.Reads as is-shaped-reads
use Rattle.live_members.proofs.all_members_live.Kinds as all-members-live
use Rattle.live_members.proofs.all_members_live.Reads as all-members-live-reads
use Rattle.edits.proofs.records.store.Kinds as store
use Rattle.edits.proofs.records.store.Reads as store-reads
use Rattle.edits.proofs.records.store_zeros.Kinds as store-zeros
use Rattle.edits.proofs.records.store_zeros.Reads as store-zeros-reads
use Rattle.edits.proofs.records.put_members.Kinds as put-members
use Rattle.edits.proofs.records.put_members.Reads as put-members-reads
use Rattle.edits.proofs.records.end_record.Kinds as end-record
use Rattle.edits.proofs.records.end_record.Reads as end-record-reads
use Rattle.edits.proofs.shift.clear_words.Kinds as clear-words
use Rattle.edits.proofs.shift.clear_words.Reads as clear-words-reads
use Rattle.edits.proofs.shift.shift_down.Kinds as shift-down
use Rattle.edits.proofs.shift.shift_down.Reads as shift-down-reads
use Rattle.edits.proofs.shift.drop_vertex.Kinds as drop-vertex
use Rattle.edits.proofs.shift.drop_vertex.Reads as drop-vertex-reads
use Rattle.rename_vertex.proofs.rename_vertex.Kinds as rename-vertex
use Rattle.rename_vertex.proofs.rename_vertex.Reads as rename-vertex-reads
use Rattle.strip_vertex.proofs.strip_vertex.Kinds as strip-vertex
use Rattle.strip_vertex.proofs.strip_vertex.Reads as strip-vertex-reads
use Rattle.sift_vertices.proofs.sift_vertices.Kinds as sift-vertices
use Rattle.sift_vertices.proofs.sift_vertices.Reads as sift-vertices-reads
use Rattle.withdraw_tray.specs.contracts.judge_records as judge-records
use Rattle.withdraw_tray.proofs.carry_out.Kinds as carry-out
use Rattle.withdraw_tray.proofs.carry_out.Reads as carry-out-reads
use Rattle.withdraw_marked.proofs.withdraw_marked.Kinds as withdraw-marked
use Rattle.withdraw_marked.proofs.withdraw_marked.Reads as withdraw-marked-reads
use Rattle.tray_marks.proofs.open_tray.Kinds as open-tray
use Rattle.tray_marks.proofs.open_tray.Reads as open-tray-reads
use Rattle.tray_marks.proofs.judge_record.Kinds as judge-record
use Rattle.tray_marks.proofs.judge_record.Reads as judge-record-reads
use Rattle.side_by_side.proofs.find_side_by_side.Kinds as find-side-by-side
use Rattle.side_by_side.proofs.find_side_by_side.Reads as find-side-by-side-reads
use Rattle.member_lists.proofs.judge_members.Kinds as judge-members
use Rattle.member_lists.proofs.judge_members.Reads as judge-members-reads
use Rattle.member_lists.proofs.same_members.Kinds as same-members
use Rattle.member_lists.proofs.same_members.Reads as same-members-reads

-- ---- the test of a table

pub timed-well-formed-agrees : Agrees 1 timed-well-formed.ps timed-well-formed.r timed-well-formed-reads.Post (λ _ _. [])
timed-well-formed-agrees κs args a b x y p q = (p ∙ sym q, refl)

pub all-below-agrees : Agrees 1 all-below.ps all-below.r all-below-reads.Post (λ _ _. [])
all-below-agrees κs args a b x y p q = (p ∙ sym q, refl)

pub climbing-agrees : Agrees 1 climbing.ps climbing.r climbing-reads.Post (λ _ _. [])
climbing-agrees κs args a b x y p q = (p ∙ sym q, refl)

pub is-shaped-agrees : Agrees 1 is-shaped.ps is-shaped.r is-shaped-reads.Post (λ _ _. [])
is-shaped-agrees κs args a b x y p q = (p ∙ sym q, refl)

pub all-members-live-agrees : Agrees 1 all-members-live.ps all-members-live.r all-members-live-reads.Post (λ _ _. [])
all-members-live-agrees κs args a b x y p q = (p ∙ sym q, refl)

-- ---- words stored, cleared and moved

pub store-agrees : Agrees 2 store.ps store.r store-reads.Post (λ _ x. x.0.now)
store-agrees κs args a b x y p q = (refl, p ∙ sym q)

pub store-zeros-agrees : Agrees 1 store-zeros.ps store-zeros.r store-zeros-reads.Post (λ _ x. x.0.now)
store-zeros-agrees κs args a b x y p q = (refl, p ∙ sym q)

pub put-members-agrees : Agrees 2 put-members.ps put-members.r put-members-reads.Post (λ _ x. x.0.now)
put-members-agrees κs args a b x y p q = (refl, p ∙ sym q)

pub end-record-agrees : Agrees 1 end-record.ps end-record.r end-record-reads.Post (λ _ x. x.0.now)
end-record-agrees κs args a b x y p q = (refl, p ∙ sym q)

pub clear-words-agrees : Agrees 1 clear-words.ps clear-words.r clear-words-reads.Post (λ _ x. x.0.now)
clear-words-agrees κs args a b x y p q = (refl, p ∙ sym q)

pub shift-down-agrees : Agrees 1 shift-down.ps shift-down.r shift-down-reads.Post (λ _ x. x.0.now)
shift-down-agrees κs args a b x y p q = (refl, p ∙ sym q)

pub drop-vertex-agrees : Agrees 1 drop-vertex.ps drop-vertex.r drop-vertex-reads.Post (λ _ x. x.0.now)
drop-vertex-agrees κs args a b x y p q = (refl, p ∙ sym q)

pub strip-vertex-agrees : Agrees 1 strip-vertex.ps strip-vertex.r strip-vertex-reads.Post (λ _ x. x.0.now)
strip-vertex-agrees κs args a b x y p q = (refl, p ∙ sym q)

pub rename-vertex-agrees : Agrees 1 rename-vertex.ps rename-vertex.r rename-vertex-reads.Post (λ _ x. x.0.now)
rename-vertex-agrees κs args a b x y p q = (refl, p ∙ sym q)

pub sift-vertices-agrees : Agrees 3 sift-vertices.ps sift-vertices.r sift-vertices-reads.Post (λ _ x. x.0.now)
sift-vertices-agrees κs args a b x y p q = (refl, p ∙ sym q)

pub withdraw-marked-agrees : Agrees 3 withdraw-marked.ps withdraw-marked.r withdraw-marked-reads.Post (λ _ x. x.0.now)
withdraw-marked-agrees κs args a b x y p q = (refl, p ∙ sym q)

-- ---- the records of a tray

pub open-tray-agrees : Agrees 1 open-tray.ps open-tray.r open-tray-reads.Post (λ _ _. [])
open-tray-agrees κs args a b x y p q = (p ∙ sym q, refl)

pub judge-record-agrees : Agrees 1 judge-record.ps judge-record.r judge-record-reads.Post (λ _ _. [])
judge-record-agrees κs args a b x y p q = (p ∙ sym q, refl)

-- the check makes no reading of the contract of `judge_records`: its promise is written out, and shown to be the contract
abbrev judge-promise : Promise judge-records.ended
judge-promise κs args r x = r ≡ tray_of args.0.now args.1.0.now

pub judge-records-read : {M : Type 1} {𝓤 : Ura M} (𝓛 : Logic 𝓤) (mem : Memory → SProp 𝓤) (run : Routine → Fun 𝓤)
    → IsContract 𝓤 judge-records.ended (judge-records.clauses 𝓛 mem run) judge-promise
judge-records-read 𝓛 mem run κs args = refl

pub judge-records-agrees : AgreesBy {A = List ℕ} judge-records.ended judge-promise (λ _ _. [])
judge-records-agrees κs args a b x y p q = (p ∙ sym q, refl)

pub carry-out-agrees : Agrees 1 carry-out.ps carry-out.r carry-out-reads.Post (λ _ x. x.0.now)
carry-out-agrees κs args a b x y p q = agree _ p q

-- ---- a list of members

pub find-side-by-side-agrees : Agrees 1 find-side-by-side.ps find-side-by-side.r find-side-by-side-reads.Post (λ _ _. [])
find-side-by-side-agrees κs args a b x y p q = (p ∙ sym q, refl)

-- a refusal changes no lent word, and what is fine leaves any result: which of the two was given, and by what answer, shows in the results
or-else-one : (i j : Judgement) → ((r : Result) → or_else i [] r ≡ or_else j [] r) → i ≡ j
or-else-one (Err a) (Err b) h =
    let q : ◌≡◌ {A = Answer} (Err a) (Err b) = (agree (result_of (Err b) []) {a = Err a} {b = Err b} {y = []} (h (result_of (Err Full) [])) refl).0 in
    let e : a ≡ b = cc in ap Err e
or-else-one (Err a) (Ok b) h = absurd (omega (arith, ap (λ (r : Result). length r.lent) (h (result_of (Err Full) (0 ∷ [])))))
or-else-one (Ok a) (Err b) h = absurd (omega (arith, ap (λ (r : Result). length r.lent) (h (result_of (Err Full) (0 ∷ [])))))
or-else-one (Ok a) (Ok b) h = refl

pub judge-members-agrees : Agrees 2 judge-members.ps judge-members.r judge-members-reads.Post (λ _ _. [])
judge-members-agrees κs args a b x y p q = (or-else-one a b (λ r. p.says [] r ∙ sym (q.says [] r)), refl)

pub same-members-agrees : Agrees 2 same-members.ps same-members.r same-members-reads.Post (λ _ _. [])
same-members-agrees κs args a b x y p q = (p ∙ sym q, refl)
