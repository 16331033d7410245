-- A review of every live vertex is done and none waits; then going down an accepted order is done and releases all. Assumes nothing.
use Rattle.std.specs.Prelude.{Ok}
use mathlib.Core.Path.{◌≡◌, refl, sym, ap, ◌∙◌, subst}
use mathlib.Core.Bool.{Bool, true, false, cond, ◌||◌}
use mathlib.Core.Logic.{◌⊎◌, inl, inr, ⊎_elim}
use mathlib.Core.List.{List, [], ◌∷◌, map}
use Prim.Native.Nat.{ℕ, zero, suc, ◌<◌, suc-le-suc}
use native.Mathlib.Nat.{zero-lt-suc}
use native.Mathlib.Omega.{arith}
use lib.Dec.{eqb}
use lib.ListN.{length, get_or, take, length-take}
use lib.Seq.{get_or-take}
use borrow.Author.Tests.{eqb-true, eqb-false, eq-eqb, not-true}
use Rattle.lists.specs.Lists.{all, any, memb}
use Rattle.lists.proofs.Cases.{on, on_same, clash, or-true, and_left, and_right}
use Rattle.lists.proofs.All.{all-at, all_of}
use Rattle.lists.proofs.Any.{any_at}
use Rattle.lists.proofs.Kept.{all_then}
use Rattle.lists.proofs.Memb.{memb-getD, memb-at}
use Rattle.layout.specs.Content.{live_vertices, is_live}
use Rattle.layout.specs.Steps.{StepIn}
use Rattle.layout.specs.Layout.{limit, read}
use Rattle.layout.specs.Answers.{Result}
use Rattle.layout.proofs.Read.{formed-of}
use Rattle.steps.proofs.Among.{steps-among}
use Rattle.desk.specs.States.{waiting, reviewed, released, state_of, in_state, with_state}
use Rattle.desk.specs.Desk.{Desk, desk_of, Outcome, outcome, content, desk_fits}
use Rattle.desk.specs.Releases.{once_reviewed, holds}
use Rattle.desk.specs.Calls.{DeskCall, review, release, signed, desk_call, after_desk}
use Rattle.desk.proofs.States.{state-below}
use Rattle.desk.proofs.Edits.{desk-fits-of}
use Rattle.desk.proofs.Signing.{Free, state-set, state-other, state-reviewed, released-set, released-kept, fits-room, signed-fits, review-done, release-again, release-first}
use Rattle.desk_laws.specs.Kept.{Released}
use Rattle.desk_laws.specs.Down.{Accepts, ForwardIn, AllDone, AllReviewed, AllReleased, past_waiting, releases}
use Rattle.desk_laws.proofs.Fits.{done-fits}
use Rattle.desk_laws.proofs.Orders.{accepted-forward, forward-accepted}

-- ---- a call that is done, and the others after it

module _ (c : DeskCall) (d e : Desk) (is : desk_call c d ≡ outcome (Ok 0) e) (cs : List DeskCall) where
  done-then : AllDone cs e → AllDone (c ∷ cs) d
  done-then h = rw is (refl, h)

  after_then : after_desk (c ∷ cs) d ≡ after_desk cs e
  unfolding after_desk
  after_then = ap (λ (o : Outcome). after_desk cs o.desk) is

-- ---- reviews, one after the other

once-twice : (x : ℕ) → once_reviewed (once_reviewed x) ≡ once_reviewed x
unfolding once_reviewed
once-twice x = on (eqb x waiting) (λ e. rw e) (λ e. rw (e, e))

-- no state is waiting after a review
once-past : (x : ℕ) → eqb (once_reviewed x) waiting ≡ false
unfolding once_reviewed
once-past x = on (eqb x waiting) (λ e. rw e) (λ e. rw e e)

-- a review releases none, and takes none back
once-released : (x : ℕ) → eqb (once_reviewed x) released ≡ eqb x released
unfolding once_reviewed
once-released x = on (eqb x waiting) (λ e. rw (e, eqb-true x waiting e)) (λ e. rw e)

-- ss are the states after a review for each of vs
record Reviews (d : Desk) (vs ss : List ℕ) : Type 0 where
  done : AllDone (map review vs) d
  leaves : after_desk (map review vs) d ≡ desk_of d.table ss
  fits : desk_fits (desk_of d.table ss) ≡ true
  states : (u : ℕ) → state_of (content d) ss u ≡ cond (memb u vs) (once_reviewed (state_of (content d) d.states u)) (state_of (content d) d.states u)

-- the desk after a review of v
abbrev after_review : Desk → ℕ → Desk
after_review d v = desk_of d.table (with_state (content d) v (once_reviewed (state_of (content d) d.states v)) d.states)

module _ (d : Desk) (v : ℕ) (fits : desk_fits d ≡ true) (live : is_live (live_vertices (content d)) v ≡ true) where
  review-call : desk_call (review v) d ≡ outcome (Ok 0) (after_review d v)
  unfolding desk_call
  review-call = ap (signed d) (review-done d v fits live)

  review-fits : desk_fits (after_review d v) ≡ true
  review-fits =
      ap (λ (o : Outcome). desk_fits o.desk) (sym review-call) ∙ done-fits (review v) d (ap (λ (o : Outcome). o.number) review-call)

  after-states : (u : ℕ)
      → state_of (content d) (after_review d v).states u ≡ cond (eqb u v) (once_reviewed (state_of (content d) d.states u)) (state_of (content d) d.states u)
  after-states u = state-reviewed (content d) d.states v live (fits-room d fits) u

two-reviews : (a b : Bool) (x y z : ℕ) → y ≡ cond a (once_reviewed x) x → z ≡ cond b (once_reviewed y) y → z ≡ cond (a || b) (once_reviewed x) x
two-reviews true true x y z p q = q ∙ ap once_reviewed p ∙ once-twice x
two-reviews true false x y z p q = q ∙ p
two-reviews false true x y z p q = q ∙ ap once_reviewed p
two-reviews false false x y z p q = q ∙ p

reviews-go : (vs : List ℕ) (d : Desk) → desk_fits d ≡ true → all (is_live (live_vertices (content d))) vs ≡ true → (ss : List ℕ) × Reviews d vs ss
unfolding after_desk all
reviews-go [] d fits live = (d.states, record { done = tt; leaves = refl; fits = fits; states = λ u. refl })
reviews-go (v ∷ vs) d fits live =
    let here : is_live (live_vertices (content d)) v ≡ true = and_left _ _ live in
    let e : desk_call (review v) d ≡ outcome (Ok 0) (after_review d v) = review-call d v fits here in
    let r = reviews-go vs (after_review d v) (review-fits d v fits here) (and_right _ _ live) in
    let s = r.1 in (
      r.0,
      record {
        done = done-then (review v) d (after_review d v) e (map review vs) s.done;
        leaves = after_then (review v) d (after_review d v) e (map review vs) ∙ s.leaves;
        fits = s.fits;
        states = λ u. two-reviews (eqb u v) (memb u vs) _ _ _ (after-states d v fits here u) (s.states u);
      },
    )

module _ (d : Desk) (fits : desk_fits d ≡ true) (vs : List ℕ) (live : all (is_live (live_vertices (content d))) vs ≡ true) where
  after : (ss : List ℕ) × Reviews d vs ss
  after = reviews-go vs d fits live

  pub reviews-done : AllDone (map review vs) d
  reviews-done = after.1.done

  pub reviews-fit : desk_fits (after_desk (map review vs) d) ≡ true
  reviews-fit = rw after.1.leaves after.1.fits

  pub reviews-table : (after_desk (map review vs) d).table ≡ d.table
  reviews-table = rw after.1.leaves

  -- reviews release none, and take none back
  pub reviews-released : (u : ℕ)
      → in_state (content (after_desk (map review vs) d)) (after_desk (map review vs) d).states released u ≡ in_state (content d) d.states released u
  unfolding in_state
  reviews-released u = rw (after.1.leaves, after.1.states u) (on (memb u vs) (λ e. rw e (once-released _)) (λ e. rw e))

  -- where each live vertex is among them, none waits
  pub reviews-all : ((u : ℕ) → is_live (live_vertices (content d)) u ≡ true → memb u vs ≡ true) → AllReviewed (after_desk (map review vs) d)
  unfolding past_waiting in_state
  reviews-all each =
      rw after.1.leaves (all_of _ (live_vertices (content d)) 0 (λ i h.
      let u = get_or (live_vertices (content d)) i 0 in
      rw (after.1.states u, each u (memb-getD (live_vertices (content d)) i h), once-past (state_of (content d) d.states u))))

-- ---- releases, one after the other

-- ss are the states after a release of v
record Releases (d : Desk) (v : ℕ) (ss : List ℕ) : Type 0 where
  is : desk_call (release v) d ≡ outcome (Ok 0) (desk_of d.table ss)
  fits : desk_fits (desk_of d.table ss) ≡ true
  past : AllReviewed (desk_of d.table ss)
  kept : (u : ℕ) → Released d u → in_state (content d) ss released u ≡ true
  here : in_state (content d) ss released v ≡ true

module _ (d : Desk) (v : ℕ) (fits : desk_fits d ≡ true) (past : AllReviewed d) (live : is_live (live_vertices (content d)) v ≡ true) where
  -- what neither waits nor is released is reviewed
  between : (x : ℕ) → x < suc released → eqb x waiting ≡ false → eqb x released ≡ false → eqb x reviewed ≡ true
  between x small a b = eq-eqb x reviewed (let p = eqb-false x waiting a in let q = eqb-false x released b in omega (arith, p, q))

  past-here : eqb (state_of (content d) d.states v) waiting ≡ false
  unfolding past_waiting in_state
  past-here =
      let r = memb-at v (live_vertices (content d)) live in
      let p : past_waiting d v ≡ true = rw r.2 at (all-at (past_waiting d) (live_vertices (content d)) r.0 0 past r.1) in
      not-true (eqb (state_of (content d) d.states v) waiting) p

  free : in_state (content d) d.states released v ≡ false → ((u : ℕ) → StepIn (content d) u v → Released d u) → Free (content d) d.states v
  unfolding in_state holds
  free new up = record {
    before = new;
    signed = between _ (state-below _ (live_vertices (content d)) d.states (desk-fits-of fits).fit v) past-here new;
    unheld = on (any (holds (content d) d.states v) (live_vertices (content d)))
        (λ e.
        let r = any_at (holds (content d) d.states v) (live_vertices (content d)) 0 e in
        clash (up (get_or (live_vertices (content d)) r.0 0) (and_left _ _ r.2)) (not-true _ (and_right _ _ r.2)))
        (λ e. e);
  }

  past-set : AllReviewed (desk_of d.table (with_state (content d) v released d.states))
  unfolding past_waiting in_state
  past-set = all_then _ _ (live_vertices (content d)) (λ u e. on_same u v
      (λ q. rw (q, state-set (content d) d.states v released live (fits-room d fits)))
      (λ ne. rw (state-other (content d) d.states v released live u ne) e)) past

  -- where every vertex with a step into it is released, a live vertex is released by the call
  release-on : ((u : ℕ) → StepIn (content d) u v → Released d u) → (ss : List ℕ) × Releases d v ss
  unfolding desk_call
  release-on up = on (in_state (content d) d.states released v)
      (λ e. (d.states, record { is = ap (signed d) (release-again d v fits live e); fits = fits; past = past; kept = λ u q. q; here = e }))
      (λ e. (
        with_state (content d) v released d.states,
        record {
          is = ap (signed d) (release-first d v fits live (free e up));
          fits = signed-fits d fits v released live (omega arith);
          past = past-set;
          kept = released-kept (content d) d.states v live (fits-room d fits);
          here = released-set (content d) d.states v live (fits-room d fits);
        },
      ))

-- every vertex with a step into an entry is released, or stands before it
Ordered : Desk → List ℕ → Type 0
Ordered d order = (k u : ℕ) → k < length order → StepIn (content d) u (get_or order k 0) → Released d u ⊎ (memb u (take k order) ≡ true)

-- ss are the states after a release for each of the order
record Downs (d : Desk) (order ss : List ℕ) : Type 0 where
  done : AllDone (releases order) d
  leaves : after_desk (releases order) d ≡ desk_of d.table ss
  kept : (u : ℕ) → Released d u → in_state (content d) ss released u ≡ true
  listed : (u : ℕ) → memb u order ≡ true → in_state (content d) ss released u ≡ true

-- v is released first, and then the rest of the order
module _ (d : Desk) (v : ℕ) (order ss : List ℕ) (one : Releases d v ss) where
  ordered-on : Ordered d (v ∷ order) → Ordered (desk_of d.table ss) order
  unfolding Ordered
  ordered-on up k u h s = ⊎_elim
      (λ q. inl (one.kept u q))
      (λ q. ⊎_elim (λ p. inl (rw (eqb-true u v p) one.here)) (λ p. inr p) (or-true (eqb u v) (memb u (take k order)) q))
      (up (suc k) u (suc-le-suc h) s)

  downs-on : (after : List ℕ) → Downs (desk_of d.table ss) order after → Downs d (v ∷ order) after
  downs-on after rest = record {
    done = done-then (release v) d (desk_of d.table ss) one.is (releases order) rest.done;
    leaves = after_then (release v) d (desk_of d.table ss) one.is (releases order) ∙ rest.leaves;
    kept = λ u q. rest.kept u (one.kept u q);
    listed = λ u q. ⊎_elim (λ p. rw (eqb-true u v p) (rest.kept v one.here)) (λ p. rest.listed u p) (or-true (eqb u v) (memb u order) q);
  }

-- the first of the order has nothing before it
ordered-first : (d : Desk) (v : ℕ) (order : List ℕ) → Ordered d (v ∷ order) → (u : ℕ) → StepIn (content d) u v → Released d u
unfolding Ordered
ordered-first d v order up u s = ⊎_elim (λ q. q) (λ q. clash q refl) (up zero u (zero-lt-suc (length order)) s)

downs-go : (order : List ℕ) (d : Desk) → desk_fits d ≡ true → AllReviewed d → all (is_live (live_vertices (content d))) order ≡ true → Ordered d order
    → (ss : List ℕ) × Downs d order ss
unfolding after_desk all
downs-go [] d fits past live up = (d.states, record { done = tt; leaves = refl; kept = λ u q. q; listed = λ u e. clash e refl })
downs-go (v ∷ order) d fits past live up =
    let one = release-on d v fits past (and_left _ _ live) (ordered-first d v order up) in
    let rest = downs-go order (desk_of d.table one.0) one.1.fits one.1.past (and_right _ _ live) (ordered-on d v order one.0 one.1 up) in
    (rest.0, downs-on d v order one.0 one.1 rest.0 rest.1)

-- ---- an order that goes forward

module _ (d : Desk) (fits : desk_fits d ≡ true) (order : List ℕ) (f : ForwardIn (content d) order) where
  forward-ordered : Ordered d order
  unfolding Ordered
  forward-ordered k u h s =
      let l = (steps-among (content d) (formed-of limit d.table (desk-fits-of fits).formed).content u (get_or order k 0) s).0 in
      let r = memb-at u order (f.same u ∙ l) in
      let b : r.0 < k = f.forward r.0 k r.1 h (rw r.2 s) in
      let m : memb (get_or (take k order) r.0 0) (take k order) ≡ true = memb-getD (take k order) r.0 (rw length-take (omega (arith, r.1))) in
      inr (rw (get_or-take k order r.0 0 b, r.2) at m)

  forward-live : all (is_live (live_vertices (content d))) order ≡ true
  forward-live = all_of _ order 0 (λ i h. sym (f.same (get_or order i 0)) ∙ memb-getD order i h)

-- after every vertex is reviewed, whatever was released before, going down an accepted order is done and releases all
pub going-down : (d : Desk) → desk_fits d ≡ true → AllReviewed d → (order : List ℕ) → Accepts d order
    → AllDone (releases order) d × AllReleased (after_desk (releases order) d)
going-down d fits past order a =
    let f = accepted-forward d fits order a in
    let r = downs-go order d fits past (forward-live d fits order f) (forward-ordered d fits order f) in (
      r.1.done,
      rw r.1.leaves (all_of _ (live_vertices (content d)) 0 (λ i h.
          let u = get_or (live_vertices (content d)) i 0 in r.1.listed u (f.same u ∙ memb-getD (live_vertices (content d)) i h))),
    )

-- a review of each live vertex and then a release down an accepted order: no refusal, and all are released
pub day-done : (d : Desk) → desk_fits d ≡ true → (order : List ℕ) → Accepts d order
    → let e = after_desk (map review (live_vertices (content d))) d in
    AllDone (map review (live_vertices (content d))) d × AllDone (releases order) e × AllReleased (after_desk (releases order) e)
day-done d fits order a =
    let vs = live_vertices (content d) in
    let live : all (is_live vs) vs ≡ true = all_of (is_live vs) vs 0 (memb-getD vs) in
    let e = after_desk (map review vs) d in
    let f : ForwardIn (content e) order =
    subst (λ (ws : List ℕ). ForwardIn (read limit ws) order) (sym (reviews-table d fits vs live)) (accepted-forward d fits order a) in
    let good : desk_fits e ≡ true = reviews-fit d fits vs live in
    let down = going-down e good (reviews-all d fits vs live (λ u q. q)) order (ap (λ (r : Result). r.number) (forward-accepted e good order f)) in
    (reviews-done d fits vs live, down.0, down.1)
