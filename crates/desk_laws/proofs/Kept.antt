-- No call changes the state of a vertex but those that sign it and those that may end it; what is released stays released. Assumes nothing.
use mathlib.Core.Path.{◌≡◌, refl, sym, ap, ◌∙◌}
use mathlib.Core.Bool.{true, false, not}
use mathlib.Core.List.{List, [], ◌∷◌, map}
use Prim.Native.Nat.{ℕ, zero, suc}
use native.Mathlib.Omega.{arith}
use lib.Dec.{eqb}
use lib.ListN.{length}
use Rattle.lists.specs.Lists.{any, memb, other_than, itself}
use Rattle.lists.proofs.Cases.{on, clash, and_both, and-false-left, or-false-left, or-false-right}
use Rattle.lists.proofs.Kept.{memb-filter}
use Rattle.lists.proofs.Memb.{memb-left}
use Rattle.layout.specs.Content.{Table, live_vertices, is_live}
use Rattle.layout.specs.Layout.{limit, vertex_limit, read}
use Rattle.layout.specs.Answers.{Result}
use Rattle.edits.specs.Results.{clear_result}
use Rattle.removals.specs.Removals.{vertex, hyperedge, is_vertex, stays_vertex}
use Rattle.trays.specs.Trays.{asked}
use Rattle.frames.specs.Reading.{read_result}
use Rattle.calls.specs.Calls.{Edit, add_vertex, add_hyperedge, update, merge, remove, withdraw, edit, an_edit, clear, read_text}
use Rattle.desk.specs.States.{waiting, released, state_of, in_state}
use Rattle.desk.specs.Desk.{Desk, desk_of, Outcome, content, desk_fits, following, desk_edit, renewed, replaced}
use Rattle.desk.specs.Calls.{DeskCall, through, review, release, desk_call, after_desk}
use Rattle.desk.proofs.States.{state-dead, state-by, waiting-all}
use Rattle.desk.proofs.Edits.{live_after, edit-live, desk-fits-of, edit-unfit, edit-fitting, edit-refused-stays}
use Rattle.desk.proofs.Signing.{released-reviewed, released-kept, fits-room, review-goes, release-goes}
use Rattle.desk_laws.specs.Kept.{Released, may_end}

-- the state of v in the desk
abbrev pub state_at_desk : Desk → ℕ → ℕ
state_at_desk d v = state_of (content d) d.states v

-- ---- who is live after an edit

module _ (t : Table) (v : ℕ) where
  -- a live vertex that the edit may not end is live
  live-kept : (e : Edit) → may_end v (through (an_edit e)) ≡ false → is_live (live_vertices t) v ≡ true → is_live (live_after e t) v ≡ true
  unfolding may_end live_after is_vertex stays_vertex other_than
  live-kept (add_vertex w) m l = memb-left v (live_vertices t) (t.next_vertex ∷ []) l
  live-kept (add_hyperedge ms w) m l = l
  live-kept (update x ms) m l = l
  live-kept (merge x w) m l = memb-filter (other_than itself w) v (live_vertices t) ∙ and_both _ _ (ap not m) l
  live-kept (remove (vertex w)) m l = memb-filter (other_than itself w) v (live_vertices t) ∙ and_both _ _ (ap not m) l
  live-kept (remove (hyperedge x)) m l = l
  live-kept (withdraw rs) m l = memb-filter (stays_vertex (map asked rs)) v (live_vertices t) ∙ and_both _ _ (ap not m) l

  -- one that it may end is not
  live-ended : (e : Edit) → may_end v (through (an_edit e)) ≡ true → is_live (live_after e t) v ≡ false
  unfolding may_end live_after is_vertex stays_vertex other_than
  live-ended (add_vertex w) m = clash m refl
  live-ended (add_hyperedge ms w) m = clash m refl
  live-ended (update x ms) m = clash m refl
  live-ended (merge x w) m = memb-filter (other_than itself w) v (live_vertices t) ∙ and-false-left _ _ (ap not m)
  live-ended (remove (vertex w)) m = memb-filter (other_than itself w) v (live_vertices t) ∙ and-false-left _ _ (ap not m)
  live-ended (remove (hyperedge x)) m = clash m refl
  live-ended (withdraw rs) m = memb-filter (stays_vertex (map asked rs)) v (live_vertices t) ∙ and-false-left _ _ (ap not m)

-- ---- the states after an edit

-- where each live vertex stays live, it has the state that it had; one that is not live before waits in any case
following-keeps : (d : Desk) (ws : List ℕ) (v : ℕ)
    → (is_live (live_vertices (content d)) v ≡ true → is_live (live_vertices (read limit ws)) v ≡ true) → state_at_desk (following d ws) v ≡ state_at_desk d v
unfolding following
following-keeps d ws v stays =
    on (is_live (live_vertices (read limit ws)) v)
    (λ l. state-by (state_at_desk d) (live_vertices (read limit ws)) v l)
    (λ l. state-dead _ _ v l ∙ sym (state-dead (live_vertices (content d)) d.states v
    (on (is_live (live_vertices (content d)) v) (λ m. clash (stays m) l) (λ m. m))))

module _ (e : Edit) (d : Desk) (v : ℕ) (keeps : may_end v (through (an_edit e)) ≡ false) where
  fitting-keeps : (h : desk_fits d ≡ true) (k : ℕ) → (edit e d.table).number ≡ k → state_at_desk (desk_edit e d).desk v ≡ state_at_desk d v
  fitting-keeps h zero q =
      ap (λ (o : Outcome). state_at_desk o.desk v) (edit-fitting d h e)
      ∙ following-keeps d (edit e d.table).lent v
      (λ l. ap (memb v) (edit-live d.table (desk-fits-of h).formed e q) ∙ live-kept (content d) v e keeps l)
  fitting-keeps h (suc n) q = ap (λ (o : Outcome). state_at_desk o.desk v) (edit-refused-stays d h e n q)

  -- an edit changes the state of no vertex but those that it removes
  pub edit-keeps-state : state_at_desk (desk_edit e d).desk v ≡ state_at_desk d v
  edit-keeps-state =
      on (desk_fits d)
      (λ h. fitting-keeps h _ refl)
      (λ u. ap (λ (o : Outcome). state_at_desk o.desk v) (edit-unfit e d u))

-- ---- released

released-same : (d after : Desk) (v : ℕ) → state_at_desk after v ≡ state_at_desk d v → Released d v → Released after v
unfolding in_state
released-same d after v s r = ap (λ (x : ℕ). eqb x released) s ∙ r

-- with these states in place of its own v is released
abbrev ReleasedBy : Desk → ℕ → Result → Type 0
ReleasedBy d v r = Released (desk_of d.table r.lent) v

call-keeps : (c : DeskCall) (d : Desk) (v : ℕ) → may_end v c ≡ false → Released d v → Released (desk_call c d).desk v
unfolding desk_call may_end
call-keeps (through (an_edit e)) d v m r = released-same d (desk_edit e d).desk v (edit-keeps-state e d v m) r
call-keeps (through clear) d v m r = clash refl m
call-keeps (through (read_text text)) d v m r = clash refl m
call-keeps (review x) d v m r =
    review-goes (ReleasedBy d v) d x (λ a k. r) (λ h l. released-reviewed (content d) d.states x l (fits-room d h) v ∙ r)
call-keeps (release x) d v m r =
    release-goes (ReleasedBy d v) d x (λ a k. r) (λ h l e. r) (λ h l f. released-kept (content d) d.states x l (fits-room d h) v r)

-- nothing released goes back, short of its removal, a clear and the read of a text
pub released-stays : (cs : List DeskCall) (d : Desk) (v : ℕ) → any (may_end v) cs ≡ false → Released d v → Released (after_desk cs d) v
unfolding after_desk any
released-stays [] d v m r = r
released-stays (c ∷ cs) d v m r =
    released-stays cs (desk_call c d).desk v (or-false-right (may_end v c) (any (may_end v) cs) m)
    (call-keeps c d v (or-false-left (may_end v c) (any (may_end v) cs) m) r)

-- ---- what ends a state

-- a vertex that a done edit may end is not live afterwards
fitting-ends : (e : Edit) (d : Desk) (v : ℕ) (h : desk_fits d ≡ true) → (edit e d.table).number ≡ 0 → may_end v (through (an_edit e)) ≡ true
    → is_live (live_vertices (content (following d (edit e d.table).lent))) v ≡ false
unfolding following
fitting-ends e d v h q m = ap (memb v) (edit-live d.table (desk-fits-of h).formed e q) ∙ live-ended (content d) v e m

pub edit-ends : (e : Edit) (d : Desk) (v : ℕ) → (desk_edit e d).number ≡ 0 → may_end v (through (an_edit e)) ≡ true
    → is_live (live_vertices (content (desk_edit e d).desk)) v ≡ false
edit-ends e d v q m =
    on (desk_fits d)
    (λ h. let is = edit-fitting d h e in
    ap (λ (o : Outcome). is_live (live_vertices (content o.desk)) v) is ∙ fitting-ends e d v h (ap (λ (o : Outcome). o.number) (sym is) ∙ q) m)
    (λ u. absurd (let z : ◌≡◌ {A = ℕ} 1 0 = ap (λ (o : Outcome). o.number) (sym (edit-unfit e d u)) ∙ q in omega arith))

-- after a clear or a read that is done every vertex waits
renewed-waits : (r : Result) (d : Desk) (v : ℕ) → (replaced r d).number ≡ 0 → state_at_desk (replaced r d).desk v ≡ waiting
unfolding replaced renewed
renewed-waits r d v q =
    on (eqb (length d.states) vertex_limit)
    (λ h. let p : r.number ≡ 0 = rw h at q in rw (h, p) (waiting-all (live_vertices (read limit r.lent)) v))
    (λ h. absurd (let z : ◌≡◌ {A = ℕ} 1 0 = rw h at q in omega arith))

-- so a call that is done and may end a vertex's state does end it
pub ended-waits : (c : DeskCall) (d : Desk) (v : ℕ) → (desk_call c d).number ≡ 0 → may_end v c ≡ true → state_at_desk (desk_call c d).desk v ≡ waiting
unfolding desk_call may_end
ended-waits (through (an_edit e)) d v q m = state-dead _ (desk_edit e d).desk.states v (edit-ends e d v q m)
ended-waits (through clear) d v q m = renewed-waits (clear_result d.table) d v q
ended-waits (through (read_text text)) d v q m = renewed-waits (read_result text d.table) d v q
ended-waits (review x) d v q m = clash m refl
ended-waits (release x) d v q m = clash m refl
