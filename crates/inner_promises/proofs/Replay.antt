-- The same for the public functions of `replay`, by which the programs hold answers against recorded ones. Assumes nothing.
use mathlib.Core.Path.{◌≡◌, refl, sym, ap, ◌∙◌}
use mathlib.Core.List.{List, []}
use Prim.Native.Nat.{ℕ}
use Rattle.agreement.specs.Agreement.{Agrees}
use Rattle.replay.specs.Judging.{AfterCount, after_count}
use Rattle.replay.specs.Replayed.{LeftBy}
use Rattle.replay_reading.proofs.byte.Kinds as byte
use Rattle.replay_reading.proofs.byte.Reads as byte-Reads
use Rattle.replay_reading.proofs.four.Kinds as four
use Rattle.replay_reading.proofs.four.Reads as four-reads
use Rattle.replay_reading.proofs.eight.Kinds as eight
use Rattle.replay_reading.proofs.eight.Reads as eight-reads
use Rattle.replay_reading.proofs.word.Kinds as word
use Rattle.replay_reading.proofs.word.Reads as word-reads
use Rattle.replay_reading.proofs.list.Kinds as list
use Rattle.replay_reading.proofs.list.Reads as list-reads
use Rattle.replay.proofs.tally.count.Kinds as count
use Rattle.replay.proofs.tally.count.Reads as count-reads
use Rattle.replay.proofs.tally.compared.Kinds as compared
use Rattle.replay.proofs.tally.compared.Reads as compared-reads
use Rattle.replay_judge.proofs.given.Kinds as given
use Rattle.replay_judge.proofs.given.Reads as given-reads
use Rattle.replay_judge.proofs.same_reply.Kinds as same-reply
use Rattle.replay_judge.proofs.same_reply.Reads as same-reply-reads
use Rattle.replay_judge.proofs.answer.Kinds as answer
use Rattle.replay_judge.proofs.answer.Reads as answer-reads
use Rattle.replay_judge.proofs.word_of.Kinds as word_of
use Rattle.replay_judge.proofs.word_of.Reads as word-of-reads
use Rattle.replay_judge.proofs.mix.Kinds as mix
use Rattle.replay_judge.proofs.mix.Reads as mix-reads
use Rattle.replay_judge.proofs.sum.Kinds as sum
use Rattle.replay_judge.proofs.sum.Reads as sum-reads
use Rattle.replay_judge.proofs.sum_of_bytes.Kinds as sum-of-bytes
use Rattle.replay_judge.proofs.sum_of_bytes.Reads as sum-of-bytes-reads
use Rattle.replay_judge.proofs.summed.Kinds as summed
use Rattle.replay_judge.proofs.summed.Reads as summed-reads
use Rattle.replay_judge.proofs.at_most.Kinds as at_most
use Rattle.replay_judge.proofs.at_most.Reads as at-most-reads
use Rattle.replay_judge.proofs.both.Kinds as both
use Rattle.replay_judge.proofs.both.Reads as both-reads
use Rattle.replay_judge.proofs.listing.Kinds as listing
use Rattle.replay_judge.proofs.listing.Reads as listing-reads
use Rattle.replay_rows.proofs.listing.Kinds as lists-listing
use Rattle.replay_rows.proofs.listing.Reads as lists-listing-reads
use Rattle.replay_rows.proofs.answer.Kinds as path-answer
use Rattle.replay_rows.proofs.answer.Reads as path-answer-reads
use Rattle.replay_tables.proofs.record.Kinds as table-record
use Rattle.replay_tables.proofs.record.Reads as table-record-reads

-- the place after what is recorded, and the tally
judged-agree : (j : AfterCount) {a b : ℕ} {x y : List ℕ} → after_count a x ≡ j → after_count b y ≡ j → (a ≡ b) × (x ≡ y)
judged-agree j p q = (ap (λ (k : AfterCount). k.at) (p ∙ sym q), ap (λ (k : AfterCount). k.tally) (p ∙ sym q))

-- ---- reading

pub byte-agrees : Agrees 1 byte.ps byte.r byte-Reads.Post (λ _ _. [])
byte-agrees κs args a b x y p q = (p.0 ∙ sym q.0, refl)

pub four-agrees : Agrees 1 four.ps four.r four-reads.Post (λ _ _. [])
four-agrees κs args a b x y p q = (p ∙ sym q, refl)

pub eight-agrees : Agrees 1 eight.ps eight.r eight-reads.Post (λ _ _. [])
eight-agrees κs args a b x y p q = (p ∙ sym q, refl)

pub word-agrees : Agrees 1 word.ps word.r word-reads.Post (λ _ _. [])
word-agrees κs args a b x y p q = (p ∙ sym q, refl)

pub list-agrees : Agrees 2 list.ps list.r list-reads.Post (λ _ x. x.1.1.0.now)
list-agrees κs args a b x y p q = (p.0 ∙ sym q.0, p.1.0 ∙ sym q.1.0)

-- ---- the tally

pub count-agrees : Agrees 1 count.ps count.r count-reads.Post (λ _ x. x.0.now)
count-agrees κs args a b x y p q = (refl, p ∙ sym q)

pub compared-agrees : Agrees 1 compared.ps compared.r compared-reads.Post (λ _ _. [])
compared-agrees κs args a b x y p q = (p ∙ sym q, refl)

-- ---- answers

pub given-agrees : Agrees 1 given.ps given.r given-reads.Post (λ _ _. [])
given-agrees κs args a b x y p q = (p ∙ sym q, refl)

pub same-reply-agrees : Agrees 0 same-reply.ps same-reply.r same-reply-reads.Post (λ _ _. [])
same-reply-agrees κs args a b x y p q = (p ∙ sym q, refl)

pub answer-agrees : Agrees 2 answer.ps answer.r answer-reads.Post (λ _ x. x.1.1.1.1.0.now)
answer-agrees κs args a b x y p q = judged-agree _ p q

pub word-of-agrees : Agrees 1 word_of.ps word_of.r word-of-reads.Post (λ _ _. [])
word-of-agrees κs args a b x y p q = (p ∙ sym q, refl)

pub mix-agrees : Agrees 0 mix.ps mix.r mix-reads.Post (λ _ _. [])
mix-agrees κs args a b x y p q = (p ∙ sym q, refl)

pub sum_agrees : Agrees 1 sum.ps sum.r sum-reads.Post (λ _ _. [])
sum_agrees κs args a b x y p q = (p ∙ sym q, refl)

pub sum-of-bytes-agrees : Agrees 1 sum-of-bytes.ps sum-of-bytes.r sum-of-bytes-reads.Post (λ _ _. [])
sum-of-bytes-agrees κs args a b x y p q = (p ∙ sym q, refl)

pub summed-agrees : Agrees 1 summed.ps summed.r summed-reads.Post (λ _ _. [])
summed-agrees κs args a b x y p q = (p ∙ sym q, refl)

pub at-most-agrees : Agrees 0 at_most.ps at_most.r at-most-reads.Post (λ _ _. [])
at-most-agrees κs args a b x y p q = (p ∙ sym q, refl)

pub both-agrees : Agrees 0 both.ps both.r both-reads.Post (λ _ _. [])
both-agrees κs args a b x y p q = (p ∙ sym q, refl)

pub listing-agrees : Agrees 3 listing.ps listing.r listing-reads.Post (λ _ x. x.1.1.1.1.1.0.now)
listing-agrees κs args a b x y p q = judged-agree _ p q

pub lists-listing-agrees : Agrees 3 lists-listing.ps lists-listing.r lists-listing-reads.Post (λ _ x. x.1.1.1.1.1.0.now)
lists-listing-agrees κs args a b x y p q = judged-agree _ p q

pub path-answer-agrees : Agrees 3 path-answer.ps path-answer.r path-answer-reads.Post (λ _ x. x.1.1.1.1.1.1.1.0.now)
path-answer-agrees κs args a b x y p q = judged-agree _ p q

-- ---- tables: the place and the table, and the place and the tally

pub record-agrees-table : Agrees 3 table-record.ps table-record.r table-record-reads.Post (λ _ x. x.1.1.1.0.now)
record-agrees-table κs args a b x y p q = (ap (λ (k : LeftBy). k.at) (p ∙ sym q), ap (λ (k : LeftBy). k.table) (p ∙ sym q))

pub record-agrees-tally : Agrees 3 table-record.ps table-record.r table-record-reads.Post (λ _ x. x.1.1.1.1.0.now)
record-agrees-tally κs args a b x y p q = (ap (λ (k : LeftBy). k.at) (p ∙ sym q), ap (λ (k : LeftBy). k.tally) (p ∙ sym q))
