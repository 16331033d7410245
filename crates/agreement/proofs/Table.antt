-- What is read and found in a table: any two results that keep the promise on the same input agree; of a part of the table, in its words. Assumes
-- nothing.
use mathlib.Core.Path.{refl, sym, ◌∙◌}
use mathlib.Core.List.{[]}
use Rattle.agreement.specs.Agreement.{Agrees, AgreesIn}
use Rattle.layout.proofs.next_vertex.Kinds as next-vertex
use Rattle.layout.proofs.next_vertex.Reads as next-vertex-reads
use Rattle.layout.proofs.next_hyperedge.Kinds as next-hyperedge
use Rattle.layout.proofs.next_hyperedge.Reads as next-hyperedge-reads
use Rattle.layout.proofs.vertex_count.Kinds as vertex-count
use Rattle.layout.proofs.vertex_count.Reads as vertex-count-reads
use Rattle.layout.proofs.hyperedge_count.Kinds as hyperedge-count
use Rattle.layout.proofs.hyperedge_count.Reads as hyperedge-count-reads
use Rattle.layout.proofs.vertex_number.Kinds as vertex-number
use Rattle.layout.proofs.vertex_number.Reads as vertex-number-reads
use Rattle.layout.proofs.vertex_weight.Kinds as vertex-weight
use Rattle.layout.proofs.vertex_weight.Reads as vertex-weight-reads
use Rattle.layout.proofs.hyperedge_number.Kinds as hyperedge-number
use Rattle.layout.proofs.hyperedge_number.Reads as hyperedge-number-reads
use Rattle.layout.proofs.hyperedge_weight.Kinds as hyperedge-weight
use Rattle.layout.proofs.hyperedge_weight.Reads as hyperedge-weight-reads
use Rattle.layout.proofs.member_count.Kinds as member-count
use Rattle.layout.proofs.member_count.Reads as member-count-reads
use Rattle.layout.proofs.members.Kinds as members
use Rattle.layout.proofs.members.Reads as members-reads
use Rattle.layout.proofs.members_formed.Kinds as members-formed
use Rattle.layout.proofs.members_formed.Reads as members-formed-reads
use Rattle.layout.proofs.wide.Kinds as wide
use Rattle.layout.proofs.wide.Reads as wide-reads
use Rattle.find.proofs.find_number.Kinds as find-number
use Rattle.find.proofs.find_number.Reads as find-number-reads
use Rattle.find.proofs.find_vertex.Kinds as find-vertex
use Rattle.find.proofs.find_vertex.Reads as find-vertex-reads
use Rattle.find.proofs.find_hyperedge.Kinds as find-hyperedge
use Rattle.find.proofs.find_hyperedge.Reads as find-hyperedge-reads
use Rattle.find.proofs.first_missing_vertex.Kinds as first-missing-vertex
use Rattle.find.proofs.first_missing_vertex.Reads as first-missing-vertex-reads
use Rattle.find.proofs.first_missing_hyperedge.Kinds as first-missing-hyperedge
use Rattle.find.proofs.first_missing_hyperedge.Reads as first-missing-hyperedge-reads

-- ---- words and records

pub next-vertex-agrees : Agrees 1 next-vertex.ps next-vertex.r next-vertex-reads.Post (λ _ _. [])
next-vertex-agrees κs args a b x y p q = (p ∙ sym q, refl)

pub next-hyperedge-agrees : Agrees 1 next-hyperedge.ps next-hyperedge.r next-hyperedge-reads.Post (λ _ _. [])
next-hyperedge-agrees κs args a b x y p q = (p ∙ sym q, refl)

pub vertex-count-agrees : Agrees 1 vertex-count.ps vertex-count.r vertex-count-reads.Post (λ _ _. [])
vertex-count-agrees κs args a b x y p q = (p ∙ sym q, refl)

pub hyperedge-count-agrees : Agrees 1 hyperedge-count.ps hyperedge-count.r hyperedge-count-reads.Post (λ _ _. [])
hyperedge-count-agrees κs args a b x y p q = (p ∙ sym q, refl)

pub vertex-number-agrees : Agrees 1 vertex-number.ps vertex-number.r vertex-number-reads.Post (λ _ _. [])
vertex-number-agrees κs args a b x y p q = (p ∙ sym q, refl)

pub vertex-weight-agrees : Agrees 1 vertex-weight.ps vertex-weight.r vertex-weight-reads.Post (λ _ _. [])
vertex-weight-agrees κs args a b x y p q = (p ∙ sym q, refl)

pub hyperedge-number-agrees : Agrees 1 hyperedge-number.ps hyperedge-number.r hyperedge-number-reads.Post (λ _ _. [])
hyperedge-number-agrees κs args a b x y p q = (p ∙ sym q, refl)

pub hyperedge-weight-agrees : Agrees 1 hyperedge-weight.ps hyperedge-weight.r hyperedge-weight-reads.Post (λ _ _. [])
hyperedge-weight-agrees κs args a b x y p q = (p ∙ sym q, refl)

pub member-count-agrees : Agrees 1 member-count.ps member-count.r member-count-reads.Post (λ _ _. [])
member-count-agrees κs args a b x y p q = (p ∙ sym q, refl)

pub members-agrees : AgreesIn 1 members.ps members.r members-reads.Pre members-reads.Post (λ κs args a x. a.now)
members-agrees κs args a b x y pre p q = p ∙ sym q

pub members-formed-agrees : AgreesIn 1 members-formed.ps members-formed.r members-formed-reads.Pre members-formed-reads.Post (λ κs args a x. a.now)
members-formed-agrees κs args a b x y pre p q = p ∙ sym q

pub wide-agrees : Agrees 0 wide.ps wide.r wide-reads.Post (λ _ _. [])
wide-agrees κs args a b x y p q = (p ∙ sym q, refl)

-- ---- where a number stands, and which is missing

pub find-number-agrees : Agrees 1 find-number.ps find-number.r find-number-reads.Post (λ _ _. [])
find-number-agrees κs args a b x y p q = (p ∙ sym q, refl)

pub find-vertex-agrees : Agrees 1 find-vertex.ps find-vertex.r find-vertex-reads.Post (λ _ _. [])
find-vertex-agrees κs args a b x y p q = (p ∙ sym q, refl)

pub find-hyperedge-agrees : Agrees 1 find-hyperedge.ps find-hyperedge.r find-hyperedge-reads.Post (λ _ _. [])
find-hyperedge-agrees κs args a b x y p q = (p ∙ sym q, refl)

pub first-missing-vertex-agrees : Agrees 2 first-missing-vertex.ps first-missing-vertex.r first-missing-vertex-reads.Post (λ _ _. [])
first-missing-vertex-agrees κs args a b x y p q = (p ∙ sym q, refl)

pub first-missing-hyperedge-agrees : Agrees 2 first-missing-hyperedge.ps first-missing-hyperedge.r first-missing-hyperedge-reads.Post (λ _ _. [])
first-missing-hyperedge-agrees κs args a b x y p q = (p ∙ sym q, refl)
