-- The desk's states, and the test of the desk: any two results that keep the promise on the same input agree, or agree in what is given. Assumes
-- nothing.
use mathlib.Core.Path.{refl, sym, ◌∙◌}
use mathlib.Core.List.{[]}
use lib.ListN.{take}
use Rattle.layout.specs.Layout.{vertex_count}
use Rattle.agreement.specs.Agreement.{Agrees, AgreesIn}
use Rattle.desk_states.proofs.states_fit.Kinds as states-fit
use Rattle.desk_states.proofs.states_fit.Reads as states-fit-reads
use Rattle.desk_states.proofs.is_open.Kinds as is_open
use Rattle.desk_states.proofs.is_open.Reads as is-open-reads
use Rattle.desk_states.proofs.note_numbers.Kinds as note-numbers
use Rattle.desk_states.proofs.note_numbers.Reads as note-numbers-reads
use Rattle.desk_states.proofs.follow.Kinds as follow
use Rattle.desk_states.proofs.follow.Reads as follow-reads
use Rattle.desk_states.proofs.is_done.Kinds as is-done
use Rattle.desk_states.proofs.is_done.Reads as is-done-reads
use Rattle.desk_states.proofs.follow_done.Kinds as follow-done
use Rattle.desk_states.proofs.follow_done.Reads as follow-done-reads
use Rattle.desk_states.proofs.renew.Kinds as renew
use Rattle.desk_states.proofs.renew.Reads as renew-reads
use Rattle.desk_fits.proofs.desk_fits.Kinds as desk-fits
use Rattle.desk_fits.proofs.desk_fits.Reads as desk-fits-reads

-- ---- tests

pub states-fit-agrees : Agrees 1 states-fit.ps states-fit.r states-fit-reads.Post (λ _ _. [])
states-fit-agrees κs args a b x y p q = (p ∙ sym q, refl)

pub is-open-agrees : Agrees 2 is_open.ps is_open.r is-open-reads.Post (λ _ _. [])
is-open-agrees κs args a b x y p q = (p ∙ sym q, refl)

pub is-done-agrees : Agrees 0 is-done.ps is-done.r is-done-reads.Post (λ _ _. [])
is-done-agrees κs args a b x y p q = (p ∙ sym q, refl)

pub desk-fits-agrees : Agrees 2 desk-fits.ps desk-fits.r desk-fits-reads.Post (λ _ _. [])
desk-fits-agrees κs args a b x y p q = (p ∙ sym q, refl)

-- ---- states that follow, and that begin anew

-- the numbers of the vertex records
pub note-numbers-agrees : AgreesIn 1 note-numbers.ps note-numbers.r note-numbers-reads.Pre note-numbers-reads.Post
    (λ κs args a x. take (vertex_count args.0.now) a)
note-numbers-agrees κs args a b x y pre p q = p.front ∙ sym q.front

pub follow-agrees : Agrees 3 follow.ps follow.r follow-reads.Post (λ _ x. x.1.1.1.0.now)
follow-agrees κs args a b x y p q = (refl, p ∙ sym q)

pub follow-done-agrees : Agrees 3 follow-done.ps follow-done.r follow-done-reads.Post (λ _ x. x.1.1.1.0.now)
follow-done-agrees κs args a b x y p q = (refl, p ∙ sym q)

pub renew-agrees : Agrees 1 renew.ps renew.r renew-reads.Post (λ _ x. x.0.now)
renew-agrees κs args a b x y p q = (refl, p ∙ sym q)
