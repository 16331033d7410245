-- Any two results that keep a promise of the desk on the same input agree, in the answer and in both lent slices: for every entry point of the
-- desk. Each theorem is about the reading that the check itself makes of the function's contract. Assumes nothing.
use mathlib.Core.Path.{◌≡◌, refl, sym, ap, ◌∙◌}
use mathlib.Core.List.{[]}
use seplogic.Ra.Ura.{Ura}
use base.Logic.{SProp}
use prog.Memory.{Memory}
use prog.Routine.{Routine}
use types.Logic.{Logic}
use contract.Monad.{Fun}
use Rattle.layout.specs.Answers.{Answer}
use Rattle.layout.specs.Answers.{Result}
use Rattle.layout.proofs.Answers.{agree}
use Rattle.calls.specs.Calls.{withdraw}
use Rattle.desk.specs.Desk.{Desk, desk_of, Outcome, outcome, desk_edit}
use Rattle.agreement.specs.Agreement.{AgreesOn, Agrees, Promise, IsContract, AgreesBy}
use Rattle.desk_tray.specs.contracts.desk_withdraw_tray as desk-withdraw-tray
use Rattle.desk_edits.proofs.desk_add_vertex.Kinds as desk-add-vertex
use Rattle.desk_edits.proofs.desk_add_vertex.Reads as desk-add-vertex-reads
use Rattle.desk_edits.proofs.desk_add_hyperedge.Kinds as desk-add-hyperedge
use Rattle.desk_edits.proofs.desk_add_hyperedge.Reads as desk-add-hyperedge-reads
use Rattle.desk_edits.proofs.desk_update_hyperedge_vertices.Kinds as desk-update-hyperedge-vertices
use Rattle.desk_edits.proofs.desk_update_hyperedge_vertices.Reads as desk-update-hyperedge-vertices-reads
use Rattle.desk_removals.proofs.desk_remove_vertex.Kinds as desk-remove-vertex
use Rattle.desk_removals.proofs.desk_remove_vertex.Reads as desk-remove-vertex-reads
use Rattle.desk_edits.proofs.desk_remove_hyperedge.Kinds as desk-remove-hyperedge
use Rattle.desk_edits.proofs.desk_remove_hyperedge.Reads as desk-remove-hyperedge-reads
use Rattle.desk_removals.proofs.desk_merge_vertices.Kinds as desk-merge-vertices
use Rattle.desk_removals.proofs.desk_merge_vertices.Reads as desk-merge-vertices-reads
use Rattle.desk_anew.proofs.desk_clear.Kinds as desk-clear
use Rattle.desk_anew.proofs.desk_clear.Reads as desk-clear-reads
use Rattle.desk_anew.proofs.desk_read_frames.Kinds as desk-read-frames
use Rattle.desk_anew.proofs.desk_read_frames.Reads as desk-read-frames-reads
use Rattle.desk_review.proofs.desk_review.Kinds as desk-review
use Rattle.desk_review.proofs.desk_review.Reads as desk-review-reads
use Rattle.desk_release.proofs.desk_release.Kinds as desk-release
use Rattle.desk_release.proofs.desk_release.Reads as desk-release-reads
use Rattle.desk_order.proofs.desk_accept_order.Kinds as desk-accept-order
use Rattle.desk_order.proofs.desk_accept_order.Reads as desk-accept-order-reads
use Rattle.desk_looks.proofs.desk_state.Kinds as desk-state
use Rattle.desk_looks.proofs.desk_state.Reads as desk-state-reads
use Rattle.desk_looks.proofs.desk_list.Kinds as desk-list
use Rattle.desk_looks.proofs.desk_list.Reads as desk-list-reads
use Rattle.desk_releasable.proofs.desk_releasable.Kinds as desk-releasable
use Rattle.desk_releasable.proofs.desk_releasable.Reads as desk-releasable-reads

-- number and detail of an outcome, with nothing lent
told : Outcome → Result
told o = record { number = o.number; detail = o.detail; lent = [] }

outcomes-agree : (promised : Outcome) {a b : Answer} {x y : Desk} → outcome a x ≡ promised → outcome b y ≡ promised → (a ≡ b) × (x ≡ y)
unfolding told
outcomes-agree promised p q = ((agree (told promised) (ap told p) (ap told q)).0, ap (λ (o : Outcome). o.desk) (p ∙ sym q))

-- ---- edits

pub desk-add-vertex-agrees : AgreesOn 2 desk-add-vertex.ps desk-add-vertex.r desk-add-vertex-reads.Post (λ _ x. desk_of x.0.now x.1.0.now)
desk-add-vertex-agrees κs args a b x y p q = outcomes-agree _ p q

pub desk-add-hyperedge-agrees : AgreesOn 3 desk-add-hyperedge.ps desk-add-hyperedge.r desk-add-hyperedge-reads.Post (λ _ x. desk_of x.0.now x.1.0.now)
desk-add-hyperedge-agrees κs args a b x y p q = outcomes-agree _ p q

pub desk-update-hyperedge-vertices-agrees : AgreesOn 3 desk-update-hyperedge-vertices.ps desk-update-hyperedge-vertices.r desk-update-hyperedge-vertices-reads.Post (λ _ x. desk_of x.0.now x.1.0.now)
desk-update-hyperedge-vertices-agrees κs args a b x y p q = outcomes-agree _ p q

pub desk-remove-vertex-agrees : AgreesOn 2 desk-remove-vertex.ps desk-remove-vertex.r desk-remove-vertex-reads.Post (λ _ x. desk_of x.0.now x.1.0.now)
desk-remove-vertex-agrees κs args a b x y p q = outcomes-agree _ p q

pub desk-remove-hyperedge-agrees : AgreesOn 2 desk-remove-hyperedge.ps desk-remove-hyperedge.r desk-remove-hyperedge-reads.Post (λ _ x. desk_of x.0.now x.1.0.now)
desk-remove-hyperedge-agrees κs args a b x y p q = outcomes-agree _ p q

pub desk-merge-vertices-agrees : AgreesOn 2 desk-merge-vertices.ps desk-merge-vertices.r desk-merge-vertices-reads.Post (λ _ x. desk_of x.0.now x.1.0.now)
desk-merge-vertices-agrees κs args a b x y p q = outcomes-agree _ p q

pub desk-clear-agrees : AgreesOn 2 desk-clear.ps desk-clear.r desk-clear-reads.Post (λ _ x. desk_of x.0.now x.1.0.now)
desk-clear-agrees κs args a b x y p q = outcomes-agree _ p q

pub desk-read-frames-agrees : AgreesOn 3 desk-read-frames.ps desk-read-frames.r desk-read-frames-reads.Post (λ _ x. desk_of x.0.now x.1.0.now)
desk-read-frames-agrees κs args a b x y p q = outcomes-agree _ p q

-- the tray: the check makes no reading of its contract, so its promise is written out and shown to be the contract
abbrev tray-promise : Promise desk-withdraw-tray.ended
tray-promise κs args r x =
    outcome r (desk_of x.0.now x.1.0.now) ≡ desk_edit (withdraw args.1.1.0.now) (desk_of args.0.now args.1.0.now)

pub desk-withdraw-tray-read : {M : Type 1} {𝓤 : Ura M} (𝓛 : Logic 𝓤) (mem : Memory → SProp 𝓤) (run : Routine → Fun 𝓤)
    → IsContract 𝓤 desk-withdraw-tray.ended (desk-withdraw-tray.clauses 𝓛 mem run) tray-promise
desk-withdraw-tray-read 𝓛 mem run κs args = refl

pub desk-withdraw-tray-agrees : AgreesBy desk-withdraw-tray.ended tray-promise (λ _ x. desk_of x.0.now x.1.0.now)
desk-withdraw-tray-agrees κs args a b x y p q = outcomes-agree _ p q

-- ---- review, release, the planner's order, and looks at the states

pub desk-review-agrees : Agrees 2 desk-review.ps desk-review.r desk-review-reads.Post (λ _ x. x.1.0.now)
desk-review-agrees κs args a b x y p q = agree _ p q

pub desk-release-agrees : Agrees 2 desk-release.ps desk-release.r desk-release-reads.Post (λ _ x. x.1.0.now)
desk-release-agrees κs args a b x y p q = agree _ p q

pub desk-accept-order-agrees : Agrees 3 desk-accept-order.ps desk-accept-order.r desk-accept-order-reads.Post (λ _ _. [])
desk-accept-order-agrees κs args a b x y p q = agree _ p q

pub desk-state-agrees : Agrees 2 desk-state.ps desk-state.r desk-state-reads.Post (λ _ _. [])
desk-state-agrees κs args a b x y p q = agree _ p q

pub desk-list-agrees : Agrees 3 desk-list.ps desk-list.r desk-list-reads.Post (λ _ x. x.1.1.1.0.now)
desk-list-agrees κs args a b x y p q = agree _ p q

pub desk-releasable-agrees : Agrees 3 desk-releasable.ps desk-releasable.r desk-releasable-reads.Post (λ _ x. x.1.1.0.now)
desk-releasable-agrees κs args a b x y p q = agree _ p q
