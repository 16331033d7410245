-- A release looks at everything with a step into the vertex, so that everything upstream of a released vertex is released: reviews and
-- releases keep it. Assumes nothing.
use mathlib.Core.Path.{◌≡◌, refl, sym, ap, ◌∙◌}
use mathlib.Core.Bool.{true, false, not}
use mathlib.Core.List.{List, [], ◌∷◌}
use Prim.Native.Nat.{ℕ}
use borrow.Author.Tests.{eqb-true, eqb-false, not-true}
use Rattle.lists.specs.Tests.{◌and◌}
use Rattle.lists.specs.Lists.{all, any, memb}
use Rattle.lists.proofs.Cases.{on, on_same, clash, and_left, and_right, and_both}
use Rattle.lists.proofs.Any.{any_of}
use Rattle.lists.proofs.Kept.{memb-filter}
use Rattle.lists.proofs.Memb.{memb-at}
use Rattle.walks.specs.Walks.{Reach, here, step}
use Rattle.layout.specs.Content.{live_vertices, is_live}
use Rattle.layout.specs.Layout.{limit}
use Rattle.layout.specs.Steps.{StepIn}
use Rattle.layout.specs.Answers.{number, Result}
use Rattle.layout.proofs.Read.{formed-of}
use Rattle.steps.proofs.Among.{steps-among}
use Rattle.desk.specs.States.{reviewed, released, state_of, in_state, all_waiting}
use Rattle.desk.specs.Desk.{Desk, desk_of, content, desk_fits}
use Rattle.desk.specs.Releases.{holds, is_releasable, releasable}
use Rattle.desk.specs.Calls.{DeskCall, through, review, release, desk_call, after_desk}
use Rattle.desk.proofs.States.{waiting-all}
use Rattle.desk.proofs.Edits.{desk-fits-of}
use Rattle.desk.proofs.Signing.{Free, released-reviewed, released-kept, released-other, fits-room, review-goes, release-goes, release-first}
use Rattle.desk_laws.specs.Kept.{Released, UpstreamReleased, signs}

-- ---- at the moment of a release

-- held by none: every vertex with a step into it is released
unheld-upstream : (d : Desk) (v : ℕ) → desk_fits d ≡ true → any (holds (content d) d.states v) (live_vertices (content d)) ≡ false
    → (u : ℕ) → StepIn (content d) u v → Released d u
unfolding holds
unheld-upstream d v fits none u s =
    on (in_state (content d) d.states released u) (λ e. e)
    (λ e.
    let live = (steps-among (content d) (formed-of limit d.table (desk-fits-of fits).formed).content u v s).0 in
    let r = memb-at u (live_vertices (content d)) live in
    clash (any_of (holds (content d) d.states v) (live_vertices (content d)) 0 r.0 r.1 (rw r.2 (and_both _ _ s (ap not e)))) none)

-- a release that is done of a vertex that was not released: it was reviewed, and everything with a step into it was released
pub release-upstream : (d : Desk) (v : ℕ) → (desk_call (release v) d).number ≡ 0 → (Released d v → ⊥)
    → (in_state (content d) d.states reviewed v ≡ true) × ((u : ℕ) → StepIn (content d) u v → Released d u)
unfolding desk_call
release-upstream d v done new =
    release-goes (λ r. r.number ≡ 0 → (in_state (content d) d.states reviewed v ≡ true) × ((u : ℕ) → StepIn (content d) u v → Released d u)) d v
    (λ a n q. absurd (eqb-false (number a) 0 n q))
    (λ fits live again q. absurd (new again))
    (λ fits live free q. (free.signed, unheld-upstream d v fits free.unheld))
    done

-- ---- kept by reviews and releases

module _ (d : Desk) (v : ℕ) (up : UpstreamReleased d) where
  review-keeps : UpstreamReleased (desk_call (review v) d).desk
  unfolding desk_call
  review-keeps =
      review-goes (λ r. UpstreamReleased (desk_of d.table r.lent)) d v (λ a n. up)
      (λ fits live u w s e.
      let same = released-reviewed (content d) d.states v live (fits-room d fits) in
      same u ∙ up u w s (sym (same w) ∙ e))

  release-keeps : UpstreamReleased (desk_call (release v) d).desk
  unfolding desk_call
  release-keeps =
      release-goes (λ r. UpstreamReleased (desk_of d.table r.lent)) d v (λ a n. up)
      (λ fits live again. up)
      (λ fits live free u w s e.
      let kept = released-kept (content d) d.states v live (fits-room d fits) in
      on_same w v
      (λ q. kept u (unheld-upstream d v fits free.unheld u (rw q at s)))
      (λ ne. kept u (up u w s (sym (released-other (content d) d.states v live (fits-room d fits) w ne) ∙ e))))

sign-keeps : (c : DeskCall) (d : Desk) → signs c ≡ true → UpstreamReleased d → UpstreamReleased (desk_call c d).desk
unfolding signs
sign-keeps (through c) d e up = clash e refl
sign-keeps (review v) d e up = review-keeps d v up
sign-keeps (release v) d e up = release-keeps d v up

-- over any reviews and releases, done or refused
pub upstream-kept : (cs : List DeskCall) (d : Desk) → all signs cs ≡ true → UpstreamReleased d → UpstreamReleased (after_desk cs d)
unfolding all after_desk
upstream-kept [] d e up = up
upstream-kept (c ∷ cs) d e up = upstream-kept cs (desk_call c d).desk (and_right _ _ e) (sign-keeps c d (and_left _ _ e) up)

-- ---- and then everything upstream of a released vertex is released, by walks of any length

pub reach-released : (d : Desk) → UpstreamReleased d → {u v : ℕ} → Reach (StepIn (content d)) u v → Released d v → Released d u
reach-released d up here e = e
reach-released d up (step {y = y} {z = z} w s) e = reach-released d up w (up y z s e)

-- it holds where nothing is released
pub none-upstream : (d : Desk) → ((v : ℕ) → Released d v → ⊥) → UpstreamReleased d
none-upstream d none u v s e = absurd (none v e)

-- as after a clear or the read of a text
pub waiting-upstream : (d : Desk) → d.states ≡ all_waiting → UpstreamReleased d
unfolding in_state
waiting-upstream d e =
    none-upstream d (λ v r. clash r (rw (e, waiting-all (live_vertices (content d)) v)))

-- ---- what is shown as releasable is what a release would release now

module _ (d : Desk) (v : ℕ) where
  reviewed-new : in_state (content d) d.states reviewed v ≡ true → in_state (content d) d.states released v ≡ false
  unfolding in_state
  reviewed-new e = rw (eqb-true (state_of (content d) d.states v) reviewed e)

  releasable-is : memb v (releasable d.states (content d)) ≡ (is_releasable (content d) d.states v and is_live (live_vertices (content d)) v)
  unfolding releasable
  releasable-is = memb-filter (is_releasable (content d) d.states) v (live_vertices (content d))

  pub releasable-released : desk_fits d ≡ true → memb v (releasable d.states (content d)) ≡ true
      → (is_live (live_vertices (content d)) v ≡ true) × (Released d v → ⊥) × ((desk_call (release v) d).number ≡ 0)
  unfolding desk_call is_releasable
  releasable-released fits m =
      let both = sym releasable-is ∙ m in
      let live : is_live (live_vertices (content d)) v ≡ true = and_right _ _ both in
      let ready : in_state (content d) d.states reviewed v ≡ true = and_left _ _ (and_left _ _ both) in
      let free : Free (content d) d.states v =
      record { before = reviewed-new ready; signed = ready; unheld = not-true _ (and_right _ _ (and_left _ _ both)) } in
      (live, λ e. clash e (reviewed-new ready), ap (λ (r : Result). r.number) (release-first d v fits live free))

  pub released-releasable : is_live (live_vertices (content d)) v ≡ true → (Released d v → ⊥) → (desk_call (release v) d).number ≡ 0
      → memb v (releasable d.states (content d)) ≡ true
  unfolding desk_call is_releasable
  released-releasable live new done =
      releasable-is ∙ and_both _ _
      (release-goes (λ r. r.number ≡ 0 → is_releasable (content d) d.states v ≡ true) d v
      (λ a n q. absurd (eqb-false (number a) 0 n q))
      (λ fits l again q. absurd (new again))
      (λ fits l free q. and_both _ _ free.signed (ap not free.unheld))
      done)
      live
