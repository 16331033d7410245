-- A refused call leaves the desk as it was, and a call that is done leaves a desk that fits. Assumes nothing.
use mathlib.Core.Path.{◌≡◌, refl, sym, ap, ◌∙◌}
use mathlib.Core.Bool.{true, false}
use mathlib.Core.List.{List, [], ◌∷◌}
use Prim.Native.Nat.{ℕ, zero, suc, ◌<◌}
use native.Mathlib.Omega.{arith}
use lib.Dec.{eqb}
use lib.ListN.{length}
use borrow.Author.Tests.{eqb-true, eq-eqb, ne_eqb}
use Rattle.lists.proofs.Cases.{on, clash, and_both}
use Rattle.layout.specs.Layout.{limit, vertex_limit, size}
use Rattle.layout.specs.WellFormed.{well_formed}
use Rattle.layout.specs.Answers.{Result}
use Rattle.edits.specs.Results.{clear_result}
use Rattle.edits.proofs.StaysFormed.{clear_stays}
use Rattle.frames.specs.Reading.{accepted, read_result}
use Rattle.frame_laws.proofs.Accepted.{accepted-written}
use Rattle.frame_laws.proofs.Document.{read-written}
use Rattle.calls.specs.Calls.{Edit, an_edit, clear, read_text}
use Rattle.desk.specs.States.{waiting, released}
use Rattle.desk.specs.Desk.{Desk, desk_of, Outcome, desk_fits, desk_edit, renewed, replaced}
use Rattle.desk.specs.Releases.{once_reviewed}
use Rattle.desk.specs.Calls.{DeskCall, through, review, release, desk_call, after_desk}
use Rattle.desk.proofs.States.{state-below, waiting-fits}
use Rattle.desk.proofs.Edits.{desk-fits-of, edit-formed, following-fits, edit-unfit, edit-fitting, edit-refused-stays}
use Rattle.desk.proofs.Signing.{signed-fits, review-goes, release-goes}

-- ---- refused

-- an edit, in a desk that fits or not
edit-keeps : (e : Edit) (d : Desk) (n : ℕ) → (desk_edit e d).number ≡ suc n → (desk_edit e d).desk ≡ d
edit-keeps e d n q =
    on (desk_fits d)
    (λ h. ap (λ (o : Outcome). o.desk) (edit-refused-stays d h e n (ap (λ (o : Outcome). o.number) (sym (edit-fitting d h e)) ∙ q)))
    (λ u. ap (λ (o : Outcome). o.desk) (edit-unfit e d u))

-- a clear or a read
module _ (r : Result) (d : Desk) where
  renewed-keeps : (n : ℕ) → r.number ≡ suc n → r.lent ≡ d.table → renewed r d ≡ d
  unfolding renewed
  renewed-keeps n q l = rw (ne_eqb r.number 0 (λ z. omega (arith, q, z)), l)

  replaced-keeps : (n : ℕ) → (r.number ≡ suc n → r.lent ≡ d.table) → (replaced r d).number ≡ suc n → (replaced r d).desk ≡ d
  unfolding replaced
  replaced-keeps n kept q =
      on (eqb (length d.states) vertex_limit)
      (λ h. let p : r.number ≡ suc n = rw h at q in rw h (renewed-keeps n p (kept p)))
      (λ h. rw h)

clear_kept : (ws : List ℕ) (n : ℕ) → (clear_result ws).number ≡ suc n → (clear_result ws).lent ≡ ws
unfolding clear_result
clear_kept ws n q = on (eqb (length ws) (size limit)) (λ h. absurd (let z : ◌≡◌ {A = ℕ} 0 (suc n) = rw h at q in omega arith)) (λ h. rw h)

read_kept : (text ws : List ℕ) (n : ℕ) → (read_result text ws).number ≡ suc n → (read_result text ws).lent ≡ ws
unfolding read_result
read_kept text ws n q =
    on (eqb (length ws) (size limit))
    (λ h. on (accepted text) (λ a. absurd (let z : ◌≡◌ {A = ℕ} 0 (suc n) = rw (h, a) at q in omega arith)) (λ a. rw (h, a)))
    (λ h. rw h)

-- with these states in place of its own the desk is as it was, where the call that left them is refused
abbrev KeptBy : Desk → Result → Type 0
KeptBy d r = (n : ℕ) → r.number ≡ suc n → desk_of d.table r.lent ≡ d

pub refused-keeps : (c : DeskCall) (d : Desk) (n : ℕ) → (desk_call c d).number ≡ suc n → (desk_call c d).desk ≡ d
unfolding desk_call
refused-keeps (through (an_edit e)) d n q = edit-keeps e d n q
refused-keeps (through clear) d n q = replaced-keeps (clear_result d.table) d n (clear_kept d.table n) q
refused-keeps (through (read_text text)) d n q = replaced-keeps (read_result text d.table) d n (read_kept text d.table n) q
refused-keeps (review v) d n q = review-goes (KeptBy d) d v (λ a k m p. refl) (λ h l m p. absurd (omega (arith, p))) n q
refused-keeps (release v) d n q =
    release-goes (KeptBy d) d v (λ a k m p. refl) (λ h l e m p. refl) (λ h l f m p. absurd (omega (arith, p))) n q

-- ---- done

edit-fits : (e : Edit) (d : Desk) → (desk_edit e d).number ≡ 0 → desk_fits (desk_edit e d).desk ≡ true
edit-fits e d q =
    on (desk_fits d)
    (λ h. ap (λ (o : Outcome). desk_fits o.desk) (edit-fitting d h e) ∙ following-fits d h _ (edit-formed d.table (desk-fits-of h).formed e))
    (λ u. absurd (let z : ◌≡◌ {A = ℕ} 1 0 = ap (λ (o : Outcome). o.number) (sym (edit-unfit e d u)) ∙ q in omega arith))

-- a clear or a read, from any desk
module _ (r : Result) (d : Desk) where
  renewed-fits : r.number ≡ 0 → well_formed limit r.lent ≡ true → desk_fits (renewed r d) ≡ true
  unfolding desk_fits renewed
  renewed-fits q f = rw q (and_both _ _ f (waiting-fits _))

  replaced-fits : (r.number ≡ 0 → well_formed limit r.lent ≡ true) → (replaced r d).number ≡ 0 → desk_fits (replaced r d).desk ≡ true
  unfolding replaced
  replaced-fits formed q =
      on (eqb (length d.states) vertex_limit)
      (λ h. let p : r.number ≡ 0 = rw h at q in rw h (renewed-fits p (formed p)))
      (λ h. absurd (let z : ◌≡◌ {A = ℕ} 1 0 = rw h at q in omega arith))

clear-formed : (ws : List ℕ) → (clear_result ws).number ≡ 0 → well_formed limit (clear_result ws).lent ≡ true
unfolding clear_result
clear-formed ws q =
    on (eqb (length ws) (size limit))
    (λ h. clear_stays ws (eqb-true _ _ h))
    (λ h. absurd (let z : ◌≡◌ {A = ℕ} 1 0 = rw h at q in omega arith))

read-formed : (text ws : List ℕ) → (read_result text ws).number ≡ 0 → well_formed limit (read_result text ws).lent ≡ true
unfolding read_result
read-formed text ws q =
    on (eqb (length ws) (size limit))
    (λ h. on (accepted text)
    (λ a. let w = accepted-written text a in ap (λ (r : Result). well_formed limit r.lent) (read-written text ws w (eqb-true _ _ h)) ∙ w.formed)
    (λ a. absurd (let z : ◌≡◌ {A = ℕ} 12 0 = rw (h, a) at q in omega arith)))
    (λ h. absurd (let z : ◌≡◌ {A = ℕ} 1 0 = rw h at q in omega arith))

-- with these states in place of its own the desk fits, where the call that left them is done
abbrev FitsBy : Desk → Result → Type 0
FitsBy d r = r.number ≡ 0 → desk_fits (desk_of d.table r.lent) ≡ true

-- a refusal is no such call
not_done : {C : Type 0} (n : ℕ) → eqb n 0 ≡ false → n ≡ 0 → C
not_done n k p = clash (eq-eqb n 0 p) k

once-below : (x : ℕ) → x < suc released → once_reviewed x < suc released
unfolding once_reviewed
once-below x h = on (eqb x waiting) (λ e. rw e (omega arith)) (λ e. rw e h)

pub done-fits : (c : DeskCall) (d : Desk) → (desk_call c d).number ≡ 0 → desk_fits (desk_call c d).desk ≡ true
unfolding desk_call
done-fits (through (an_edit e)) d q = edit-fits e d q
done-fits (through clear) d q = replaced-fits (clear_result d.table) d (clear-formed d.table) q
done-fits (through (read_text text)) d q = replaced-fits (read_result text d.table) d (read-formed text d.table) q
done-fits (review v) d q =
    review-goes (FitsBy d) d v (λ a k p. not_done _ k p)
    (λ h l p. signed-fits d h v _ l (once-below _ (state-below _ _ d.states (desk-fits-of h).fit v))) q
done-fits (release v) d q =
    release-goes (FitsBy d) d v (λ a k p. not_done _ k p) (λ h l e p. h) (λ h l f p. signed-fits d h v released l (omega arith)) q

-- ---- one call after the other

-- done or refused, a desk that fits stays one
pub call_fits : (c : DeskCall) (d : Desk) → desk_fits d ≡ true → desk_fits (desk_call c d).desk ≡ true
call_fits c d h = by_number_lem (desk_call c d).number refl
  where
    by_number_lem : (k : ℕ) → (desk_call c d).number ≡ k → desk_fits (desk_call c d).desk ≡ true
    by_number_lem zero q = done-fits c d q
    by_number_lem (suc n) q = ap desk_fits (refused-keeps c d n q) ∙ h

pub calls-fit : (cs : List DeskCall) (d : Desk) → desk_fits d ≡ true → desk_fits (after_desk cs d) ≡ true
unfolding after_desk
calls-fit [] d h = h
calls-fit (c ∷ cs) d h = calls-fit cs (desk_call c d).desk (call_fits c d h)
