-- Any two replies of a C function of the desk that keep its promise on the same input agree, and so do both lent slices. Assumes nothing.
use mathlib.Core.Path.{◌≡◌, refl, sym, ap, ◌∙◌}
use mathlib.Core.List.{[]}
use seplogic.Ra.Ura.{Ura}
use base.Logic.{SProp}
use prog.Memory.{Memory}
use prog.Routine.{Routine}
use types.Logic.{Logic}
use contract.Monad.{Fun}
use Rattle.layout.specs.declared.Reply.{Reply}
use Rattle.calls.specs.Calls.{withdraw}
use Rattle.desk.specs.Desk.{Desk, desk_of, Outcome, desk_edit}
use Rattle.agreement.specs.Agreement.{AgreesOn, Agrees, Promise, IsContract, AgreesBy}
use Rattle.promises.proofs.Interface.{replies-agree}
use Rattle.vaultsorrel.specs.Replies.{replied_at}
use Rattle.vaultsorrel.specs.contracts.at_desk.vs_desk_withdraw_tray as vs-desk-withdraw-tray
use Rattle.vaultsorrel.proofs.at_desk.vs_desk_add_vertex.Kinds as vs-desk-add-vertex
use Rattle.vaultsorrel.proofs.at_desk.vs_desk_add_vertex.Reads as vs-desk-add-vertex-reads
use Rattle.vaultsorrel.proofs.at_desk.vs_desk_add_hyperedge.Kinds as vs-desk-add-hyperedge
use Rattle.vaultsorrel.proofs.at_desk.vs_desk_add_hyperedge.Reads as vs-desk-add-hyperedge-reads
use Rattle.vaultsorrel.proofs.at_desk.vs_desk_update_hyperedge_vertices.Kinds as vs-desk-update-hyperedge-vertices
use Rattle.vaultsorrel.proofs.at_desk.vs_desk_update_hyperedge_vertices.Reads as vs-desk-update-hyperedge-vertices-reads
use Rattle.vaultsorrel.proofs.at_desk.vs_desk_remove_vertex.Kinds as vs-desk-remove-vertex
use Rattle.vaultsorrel.proofs.at_desk.vs_desk_remove_vertex.Reads as vs-desk-remove-vertex-reads
use Rattle.vaultsorrel.proofs.at_desk.vs_desk_remove_hyperedge.Kinds as vs-desk-remove-hyperedge
use Rattle.vaultsorrel.proofs.at_desk.vs_desk_remove_hyperedge.Reads as vs-desk-remove-hyperedge-reads
use Rattle.vaultsorrel.proofs.at_desk.vs_desk_merge_vertices.Kinds as vs-desk-merge-vertices
use Rattle.vaultsorrel.proofs.at_desk.vs_desk_merge_vertices.Reads as vs-desk-merge-vertices-reads
use Rattle.vaultsorrel.proofs.at_desk.vs_desk_clear.Kinds as vs-desk-clear
use Rattle.vaultsorrel.proofs.at_desk.vs_desk_clear.Reads as vs-desk-clear-reads
use Rattle.vaultsorrel.proofs.at_desk.vs_desk_read_frames.Kinds as vs-desk-read-frames
use Rattle.vaultsorrel.proofs.at_desk.vs_desk_read_frames.Reads as vs-desk-read-frames-reads
use Rattle.vaultsorrel.proofs.at_desk.vs_desk_review.Kinds as vs-desk-review
use Rattle.vaultsorrel.proofs.at_desk.vs_desk_review.Reads as vs-desk-review-reads
use Rattle.vaultsorrel.proofs.at_desk.vs_desk_release.Kinds as vs-desk-release
use Rattle.vaultsorrel.proofs.at_desk.vs_desk_release.Reads as vs-desk-release-reads
use Rattle.vaultsorrel.proofs.at_desk.vs_desk_accept_order.Kinds as vs-desk-accept-order
use Rattle.vaultsorrel.proofs.at_desk.vs_desk_accept_order.Reads as vs-desk-accept-order-reads
use Rattle.vaultsorrel.proofs.at_desk.vs_desk_state.Kinds as vs-desk-state
use Rattle.vaultsorrel.proofs.at_desk.vs_desk_state.Reads as vs-desk-state-reads
use Rattle.vaultsorrel.proofs.at_desk.vs_desk_list.Kinds as vs-desk-list
use Rattle.vaultsorrel.proofs.at_desk.vs_desk_list.Reads as vs-desk-list-reads
use Rattle.vaultsorrel.proofs.at_desk.vs_desk_releasable.Kinds as vs-desk-releasable
use Rattle.vaultsorrel.proofs.at_desk.vs_desk_releasable.Reads as vs-desk-releasable-reads

desk-replies-agree : (promised : Outcome) {a b : Reply} {x y : Desk} → replied_at a x ≡ promised → replied_at b y ≡ promised → (a ≡ b) × (x ≡ y)
desk-replies-agree promised p q = (
  ap (λ (o : Outcome). record { number = o.number; detail = o.detail }) (p ∙ sym q),
  ap (λ (o : Outcome). o.desk) (p ∙ sym q),
)

-- ---- edits

pub vs-desk-add-vertex-agrees : AgreesOn 2 vs-desk-add-vertex.ps vs-desk-add-vertex.r vs-desk-add-vertex-reads.Post (λ _ x. desk_of x.0.now x.1.0.now)
vs-desk-add-vertex-agrees κs args a b x y p q = desk-replies-agree _ p q

pub vs-desk-add-hyperedge-agrees : AgreesOn 3 vs-desk-add-hyperedge.ps vs-desk-add-hyperedge.r vs-desk-add-hyperedge-reads.Post (λ _ x. desk_of x.0.now x.1.0.now)
vs-desk-add-hyperedge-agrees κs args a b x y p q = desk-replies-agree _ p q

pub vs-desk-update-hyperedge-vertices-agrees : AgreesOn 3 vs-desk-update-hyperedge-vertices.ps vs-desk-update-hyperedge-vertices.r vs-desk-update-hyperedge-vertices-reads.Post (λ _ x. desk_of x.0.now x.1.0.now)
vs-desk-update-hyperedge-vertices-agrees κs args a b x y p q = desk-replies-agree _ p q

pub vs-desk-remove-vertex-agrees : AgreesOn 2 vs-desk-remove-vertex.ps vs-desk-remove-vertex.r vs-desk-remove-vertex-reads.Post (λ _ x. desk_of x.0.now x.1.0.now)
vs-desk-remove-vertex-agrees κs args a b x y p q = desk-replies-agree _ p q

pub vs-desk-remove-hyperedge-agrees : AgreesOn 2 vs-desk-remove-hyperedge.ps vs-desk-remove-hyperedge.r vs-desk-remove-hyperedge-reads.Post (λ _ x. desk_of x.0.now x.1.0.now)
vs-desk-remove-hyperedge-agrees κs args a b x y p q = desk-replies-agree _ p q

pub vs-desk-merge-vertices-agrees : AgreesOn 2 vs-desk-merge-vertices.ps vs-desk-merge-vertices.r vs-desk-merge-vertices-reads.Post (λ _ x. desk_of x.0.now x.1.0.now)
vs-desk-merge-vertices-agrees κs args a b x y p q = desk-replies-agree _ p q

pub vs-desk-clear-agrees : AgreesOn 2 vs-desk-clear.ps vs-desk-clear.r vs-desk-clear-reads.Post (λ _ x. desk_of x.0.now x.1.0.now)
vs-desk-clear-agrees κs args a b x y p q = desk-replies-agree _ p q

pub vs-desk-read-frames-agrees : AgreesOn 3 vs-desk-read-frames.ps vs-desk-read-frames.r vs-desk-read-frames-reads.Post (λ _ x. desk_of x.0.now x.1.0.now)
vs-desk-read-frames-agrees κs args a b x y p q = desk-replies-agree _ p q

-- the tray: the check makes no reading of its contract, so its promise is written out and shown to be the contract
abbrev tray-promise : Promise vs-desk-withdraw-tray.ended
tray-promise κs args r x =
    replied_at r (desk_of x.0.now x.1.0.now) ≡ desk_edit (withdraw args.1.1.0.now) (desk_of args.0.now args.1.0.now)

pub vs-desk-withdraw-tray-read : {M : Type 1} {𝓤 : Ura M} (𝓛 : Logic 𝓤) (mem : Memory → SProp 𝓤) (run : Routine → Fun 𝓤)
    → IsContract 𝓤 vs-desk-withdraw-tray.ended (vs-desk-withdraw-tray.clauses 𝓛 mem run) tray-promise
vs-desk-withdraw-tray-read 𝓛 mem run κs args = refl

pub vs-desk-withdraw-tray-agrees : AgreesBy vs-desk-withdraw-tray.ended tray-promise (λ _ x. desk_of x.0.now x.1.0.now)
vs-desk-withdraw-tray-agrees κs args a b x y p q = desk-replies-agree _ p q

-- ---- review, release, the planner's order, and looks at the states

pub vs-desk-review-agrees : Agrees 2 vs-desk-review.ps vs-desk-review.r vs-desk-review-reads.Post (λ _ x. x.1.0.now)
vs-desk-review-agrees κs args a b x y p q = replies-agree _ p q

pub vs-desk-release-agrees : Agrees 2 vs-desk-release.ps vs-desk-release.r vs-desk-release-reads.Post (λ _ x. x.1.0.now)
vs-desk-release-agrees κs args a b x y p q = replies-agree _ p q

pub vs-desk-accept-order-agrees : Agrees 3 vs-desk-accept-order.ps vs-desk-accept-order.r vs-desk-accept-order-reads.Post (λ _ _. [])
vs-desk-accept-order-agrees κs args a b x y p q = replies-agree _ p q

pub vs-desk-state-agrees : Agrees 2 vs-desk-state.ps vs-desk-state.r vs-desk-state-reads.Post (λ _ _. [])
vs-desk-state-agrees κs args a b x y p q = replies-agree _ p q

pub vs-desk-list-agrees : Agrees 3 vs-desk-list.ps vs-desk-list.r vs-desk-list-reads.Post (λ _ x. x.1.1.1.0.now)
vs-desk-list-agrees κs args a b x y p q = replies-agree _ p q

pub vs-desk-releasable-agrees : Agrees 3 vs-desk-releasable.ps vs-desk-releasable.r vs-desk-releasable-reads.Post (λ _ x. x.1.1.0.now)
vs-desk-releasable-agrees κs args a b x y p q = replies-agree _ p q
