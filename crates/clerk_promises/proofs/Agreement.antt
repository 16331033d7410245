-- Any two results that keep a promise of the program on the same input agree, in the answer and in what is lent. Each theorem is about the
-- reading that the check itself makes of the function's contract. Assumes nothing.
use mathlib.Core.Path.{◌≡◌, refl, sym, ap, ◌∙◌}
use mathlib.Core.List.{List, []}
use Prim.Native.Nat.{ℕ}
use Rattle.layout.specs.Answers.{Answer}
use Rattle.layout.specs.Answers.{number, detail, Result, result_of}
use Rattle.layout.proofs.Answers.{agree}
use Rattle.desk.specs.Desk.{Desk, desk_of, Outcome, outcome}
use Rattle.agreement.specs.Agreement.{AgreesOn, Agrees}
use Rattle.changes.specs.Changes.{Told, told}
use Rattle.batches.specs.declared.Ran.{Ran}
use Rattle.batches.specs.Batches.{Ended}
use Rattle.batches.specs.Runs.{ended_by}
use Rattle.asking.proofs.ask.Kinds as ask
use Rattle.asking.proofs.ask.Reads as ask-reads
use Rattle.query_sheets.proofs.put_query.Kinds as put-query
use Rattle.query_sheets.proofs.put_query.Reads as put-query-reads
use Rattle.look_sheets.proofs.put_look.Kinds as put-look
use Rattle.look_sheets.proofs.put_look.Reads as put-look-reads
use Rattle.change_sheets.proofs.make_change.Kinds as make-change
use Rattle.change_sheets.proofs.make_change.Reads as make-change-reads
use Rattle.command_sheets.proofs.tell.Kinds as tell
use Rattle.command_sheets.proofs.tell.Reads as tell-reads
use Rattle.batches.proofs.run.Kinds as run
use Rattle.batches.proofs.run.Reads as run-reads
use Rattle.desk_numbers.proofs.desk_withdraw_numbers.Kinds as desk-withdraw-numbers
use Rattle.desk_numbers.proofs.desk_withdraw_numbers.Reads as desk-withdraw-numbers-reads
use Rattle.desk_numbers.proofs.desk_release_numbers.Kinds as desk-release-numbers
use Rattle.desk_numbers.proofs.desk_release_numbers.Reads as desk-release-numbers-reads
use Rattle.batch_changes.proofs.has_change.Kinds as has-change
use Rattle.batch_changes.proofs.has_change.Reads as has-change-reads
use Rattle.closed_walk.proofs.closed_walk.Kinds as closed-walk
use Rattle.closed_walk.proofs.closed_walk.Reads as closed-walk-reads
use Rattle.read_states.proofs.read_states.Kinds as read-states
use Rattle.read_states.proofs.read_states.Reads as read-states-reads

-- ---- calls that answer, and write one lent slice

pub ask-agrees : Agrees 2 ask.ps ask.r ask-reads.Post (λ _ x. x.1.1.0.now)
ask-agrees κs args a b x y p q = agree _ p q

pub put-query-agrees : Agrees 2 put-query.ps put-query.r put-query-reads.Post (λ _ x. x.1.1.1.0.now)
put-query-agrees κs args a b x y p q = agree _ p q

pub put-look-agrees : Agrees 4 put-look.ps put-look.r put-look-reads.Post (λ _ x. x.1.1.1.1.1.0.now)
put-look-agrees κs args a b x y p q = agree _ p q

pub closed-walk-agrees : Agrees 2 closed-walk.ps closed-walk.r closed-walk-reads.Post (λ _ x. x.1.0.now)
closed-walk-agrees κs args a b x y p q = agree _ p q

pub read-states-agrees : Agrees 3 read-states.ps read-states.r read-states-reads.Post (λ _ x. x.1.1.0.now)
read-states-agrees κs args a b x y p q = agree _ p q

pub has-change-agrees : Agrees 1 has-change.ps has-change.r has-change-reads.Post (λ _ _. [])
has-change-agrees κs args a b x y p q = (p ∙ sym q, refl)

pub desk-release-numbers-agrees : Agrees 3 desk-release-numbers.ps desk-release-numbers.r desk-release-numbers-reads.Post (λ _ x. x.1.0.now)
desk-release-numbers-agrees κs args a b x y p q = agree _ p q

-- ---- a call that writes table and states

outcomes-agree : (o : Outcome) {a b : Answer} {x y : Desk} → outcome a x ≡ o → outcome b y ≡ o → (a ≡ b) × (x ≡ y)
outcomes-agree o {a} {b} {x} {y} p q =
    let same : outcome a x ≡ outcome b y = p ∙ sym q in (
      (agree (result_of b []) {a = a} {b = b} {x = []} {y = []} (ap (λ (z : Outcome). record { number = z.number; detail = z.detail; lent = [] }) same) refl).0,
      ap (λ (z : Outcome). z.desk) same,
    )

pub desk-withdraw-numbers-agrees : AgreesOn 3 desk-withdraw-numbers.ps desk-withdraw-numbers.r desk-withdraw-numbers-reads.Post (λ _ x. desk_of x.0.now x.1.0.now)
desk-withdraw-numbers-agrees κs args a b x y p q = outcomes-agree _ p q

-- ---- calls that write table, states and page

-- the desk and the page at exit
abbrev pub Left : Type 0
Left = Desk × List ℕ

tolds-agree : (t : Told) {a b : Answer} {d e : Desk} {bs cs : List ℕ} → told a d bs ≡ t → told b e cs ≡ t → (a ≡ b) × (◌≡◌ {A = Left} (d, bs) (e, cs))
tolds-agree t {a} {b} {d} {e} {bs} {cs} p q =
    let same : told a d bs ≡ told b e cs = p ∙ sym q in (
      (agree (result_of b cs) {a = a} {b = b} {x = bs} {y = cs} (ap (λ (x : Told). record { number = x.number; detail = x.detail; lent = x.lent }) same) refl).0,
      ap (λ (x : Told). (x.desk, x.lent)) same,
    )

pub make-change-agrees : AgreesOn {A = Left} 4 make-change.ps make-change.r make-change-reads.Post (λ _ x. (desk_of x.0.now x.1.0.now, x.1.1.1.1.1.0.now))
make-change-agrees κs args a b x y p q = tolds-agree _ p q

pub tell-agrees : AgreesOn {A = Left} 5 tell.ps tell.r tell-reads.Post (λ _ x. (desk_of x.0.now x.1.0.now, x.1.1.1.1.1.1.0.now))
tell-agrees κs args a b x y p q = tolds-agree _ p q

ends-agree : (t : Ended) {a b : Ran} {d e : Desk} {bs cs : List ℕ} → ended_by a d bs ≡ t → ended_by b e cs ≡ t → (a ≡ b) × (◌≡◌ {A = Left} (d, bs) (e, cs))
ends-agree t {a} {b} {d} {e} {bs} {cs} p q =
    let same : ended_by a d bs ≡ ended_by b e cs = p ∙ sym q in
    (ap (λ (x : Ended). record { status = x.status; length = x.page.next }) same, ap (λ (x : Ended). (x.desk, x.page.bytes)) same)

pub run-agrees : AgreesOn {A = Left} 5 run.ps run.r run-reads.Post (λ _ x. (desk_of x.0.now x.1.0.now, x.1.1.1.1.1.0.now))
run-agrees κs args a b x y p q = ends-agree _ p q
