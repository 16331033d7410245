-- Frame text written: any two results that keep the promise on the same input agree. Assumes nothing.
use mathlib.Core.Path.{◌≡◌, refl, sym, ◌∙◌}
use mathlib.Core.List.{List, []}
use Prim.Native.Nat.{ℕ, ◌+◌, ◌*◌, ◌/◌, ◌%◌, ◌<◌}
use native.Mathlib.Nat.{div-add-mod', mod-lt}
use native.Mathlib.Omega.{arith}
use lib.ListN.{length, get_or}
use lib.Seq.{ext_get_or}
use Rattle.lists.proofs.Cases.{on_same}
use Rattle.frames.specs.Frames.{byte_values}
use Rattle.frames.specs.Pairs.{Pairs}
use Rattle.frames.specs.Put.{Put}
use Rattle.agreement.specs.Agreement.{Agrees}
use Rattle.frames.proofs.wide.Kinds as wide
use Rattle.frames.proofs.wide.Reads as wide-reads
use Rattle.frames.proofs.digit.Kinds as digit
use Rattle.frames.proofs.digit.Reads as digit-reads
use Rattle.frames.proofs.byte_pairs.Kinds as byte-pairs
use Rattle.frames.proofs.byte_pairs.Reads as byte-pairs-reads
use Rattle.frames.proofs.byte_of.Kinds as byte_of
use Rattle.frames.proofs.byte_of.Reads as byte-of-reads
use Rattle.frames.proofs.put_byte.Kinds as put_byte
use Rattle.frames.proofs.put_byte.Reads as put-byte-reads
use Rattle.frames.proofs.put_bytes.Kinds as put-bytes
use Rattle.frames.proofs.put_bytes.Reads as put-bytes-reads
use Rattle.frames.proofs.put_short.Kinds as put-short
use Rattle.frames.proofs.put_short.Reads as put-short-reads
use Rattle.frames.proofs.put_number.Kinds as put-number
use Rattle.frames.proofs.put_number.Reads as put-number-reads
use Rattle.frame_lines.proofs.number_sum.Kinds as number-sum
use Rattle.frame_lines.proofs.number_sum.Reads as number-sum-reads
use Rattle.frame_lines.proofs.put_end.Kinds as put-end
use Rattle.frame_lines.proofs.put_end.Reads as put-end-reads
use Rattle.frame_lines.proofs.put_head.Kinds as put-head
use Rattle.frame_lines.proofs.put_head.Reads as put-head-reads
use Rattle.frame_lines.proofs.put_record.Kinds as put_record
use Rattle.frame_lines.proofs.put_record.Reads as put-record-reads
use Rattle.hyperedge_frames.proofs.put_hyperedges.Kinds as put-hyperedges
use Rattle.hyperedge_frames.proofs.put_hyperedges.Reads as put-hyperedges-reads

-- what was put, and the place behind it
pub put_one : {at n : ℕ} {xs before x y : List ℕ} {a b : ℕ} → Put at n xs before x a → Put at n xs before y b → (a ≡ b) × (x ≡ y)
put_one p q = (p.reached ∙ sym q.reached, p.wrote ∙ sym q.wrote)

-- the digits of all bytes fill their room
pairs-one : {ps qs : List ℕ} → Pairs byte_values ps → Pairs byte_values qs → ps ≡ qs
pairs-one {ps} {qs} p q = ext_get_or 0 ps qs (p.sized ∙ sym q.sized) same
  where
    same : (k : ℕ) → k < length ps → get_or ps k 0 ≡ get_or qs k 0
    same k h =
        let b : ℕ = k / 2 in
        let e : b * 2 + k % 2 ≡ k = div-add-mod' k 2 in
        let r : k % 2 < 2 = mod-lt k (omega arith) in
        let l : b < byte_values = omega (arith, e, p.sized) in
        on_same (k % 2) 0
        (λ z. let i : k ≡ b * 2 = omega (arith, e, z) in rw i (p.high b l ∙ sym (q.high b l)))
        (λ z. let i : k ≡ b * 2 + 1 = omega (arith, e, z, r) in rw i (p.low b l ∙ sym (q.low b l)))

-- ---- digits and bytes

pub wide-agrees : Agrees 0 wide.ps wide.r wide-reads.Post (λ _ _. [])
wide-agrees κs args a b x y p q = (p ∙ sym q, refl)

pub digit-agrees : Agrees 0 digit.ps digit.r digit-reads.Post (λ _ _. [])
digit-agrees κs args a b x y p q = (p ∙ sym q, refl)

pub byte-pairs-agrees : Agrees 0 byte-pairs.ps byte-pairs.r byte-pairs-reads.Post (λ _ _. [])
byte-pairs-agrees κs args a b x y p q = (pairs-one p q, refl)

pub byte-of-agrees : Agrees 0 byte_of.ps byte_of.r byte-of-reads.Post (λ _ _. [])
byte-of-agrees κs args a b x y p q = (p ∙ sym q, refl)

pub put-byte-agrees : Agrees 2 put_byte.ps put_byte.r put-byte-reads.Post (λ _ x. x.0.now)
put-byte-agrees κs args a b x y p q = put_one p q

pub put-bytes-agrees : Agrees 2 put-bytes.ps put-bytes.r put-bytes-reads.Post (λ _ x. x.0.now)
put-bytes-agrees κs args a b x y p q = put_one p q

pub put-short-agrees : Agrees 2 put-short.ps put-short.r put-short-reads.Post (λ _ x. x.0.now)
put-short-agrees κs args a b x y p q = put_one p q

pub put-number-agrees : Agrees 2 put-number.ps put-number.r put-number-reads.Post (λ _ x. x.0.now)
put-number-agrees κs args a b x y p q = put_one p q

-- ---- lines

pub number-sum-agrees : Agrees 0 number-sum.ps number-sum.r number-sum-reads.Post (λ _ _. [])
number-sum-agrees κs args a b x y p q = (p.0 ∙ sym q.0, refl)

pub put-end-agrees : Agrees 2 put-end.ps put-end.r put-end-reads.Post (λ _ x. x.0.now)
put-end-agrees κs args a b x y p q = put_one p q

pub put-head-agrees : Agrees 2 put-head.ps put-head.r put-head-reads.Post (λ _ x. x.0.now)
put-head-agrees κs args a b x y p q = put_one p q

pub put-record-agrees : Agrees 2 put_record.ps put_record.r put-record-reads.Post (λ _ x. x.0.now)
put-record-agrees κs args a b x y p q = put_one p q

pub put-hyperedges-agrees : Agrees 3 put-hyperedges.ps put-hyperedges.r put-hyperedges-reads.Post (λ _ x. x.0.now)
put-hyperedges-agrees κs args a b x y p q = put_one p q
