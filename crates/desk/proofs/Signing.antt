-- The state of each vertex after one is set, after a review and after a release; and that states that fit still do. Assumes nothing.
use Rattle.std.specs.Prelude.{Option, Some, None, Ok, Err}
use mathlib.Core.Path.{◌≡◌, refl, sym, ap, ◌∙◌}
use mathlib.Core.Bool.{Bool, true, false, cond}
use mathlib.Core.List.{List, [], ◌∷◌}
use Prim.Native.Nat.{ℕ, zero, suc, ◌≤◌, ◌<◌}
use native.Mathlib.Omega.{arith}
use lib.Dec.{eqb}
use lib.ListN.{length, set, length-set}
use lib.Seq.{get_or-set_same, get_or-set_other, drop-set-lt}
use borrow.Author.Tests.{eqb-true, eq-eqb, ne_eqb, lt-ltb}
use Rattle.lists.specs.Lists.{all, any, is_below, zeros, word_at}
use Rattle.lists.proofs.Cases.{on, on_same, clash, or-false-left, or-false-right, and_left, and_right, and_both}
use Rattle.layout.specs.Answers.{Answer}
use Rattle.layout.specs.declared.Refusal.TheVariants.{NotWellFormed}
use Rattle.layout.specs.Content.{Table, live_vertices, is_live, position, place}
use Rattle.layout.specs.Layout.{limit, vertex_limit}
use Rattle.layout.specs.Answers.{number, Result, result_of, on_live, on_live_vertex, vertex_missing}
use Rattle.layout.proofs.Position.{position-found, missing-dead}
use Rattle.layout.proofs.Read.{live-length, formed-of}
use Rattle.edits.specs.Results.{on_first}
use Rattle.desk.specs.States.{waiting, reviewed, released, states_fit, state_at, state_in, state_of, in_state, with_state}
use Rattle.desk.specs.Desk.{Desk, desk_of, content, desk_fits}
use Rattle.desk.specs.Releases.{on_desk, once_reviewed, review_result, holds, not_reviewed, upstream_held, on_reviewed, releasing, release_result}
use Rattle.desk.proofs.Edits.{desk-fits-of}

-- ---- a live vertex has a record

found_of : (p : Option ℕ) (x : ℕ) (xs : List ℕ) → position x xs ≡ p → is_live xs x ≡ true → (i : ℕ) × (position x xs ≡ Some i)
found_of (Some i) x xs e live = (i, e)
found_of None x xs e live = clash live (missing-dead x xs e)

pub recorded : (x : ℕ) (xs : List ℕ) → is_live xs x ≡ true → (i : ℕ) × (position x xs ≡ Some i)
recorded x xs live = found_of (position x xs) x xs refl live

-- ---- one word set

all_set : (f : ℕ → Bool) (xs : List ℕ) (i x : ℕ) → all f xs ≡ true → f x ≡ true → all f (set xs i x) ≡ true
unfolding all
all_set f [] i x a h = refl
all_set f (y ∷ ys) zero x a h = and_both _ _ h (and_right _ _ a)
all_set f (y ∷ ys) (suc i) x a h = and_both _ _ (and_left _ _ a) (all_set f ys i x (and_right _ _ a) h)

module _ (t : Table) (ss : List ℕ) (v x : ℕ) (live : is_live (live_vertices t) v ≡ true) where
  pub state-set : length (live_vertices t) ≤ length ss → state_of t (with_state t v x ss) v ≡ x
  unfolding state_in with_state
  state-set room =
      let r = recorded v (live_vertices t) live in
      rw r.1 (get_or-set_same ss r.0 x 0 (omega (arith, (position-found v (live_vertices t) r.0 r.1).0)))

  other_at : (u : ℕ) (p : Option ℕ) → position u (live_vertices t) ≡ p → (u ≡ v → ⊥) → state_at p (with_state t v x ss) ≡ state_at p ss
  unfolding with_state
  other_at u None e ne = refl
  other_at u (Some j) e ne =
      let r = recorded v (live_vertices t) live in
      rw r.1 (get_or-set_other ss r.0 j x 0 (λ q. ne
      (sym (position-found u (live_vertices t) j e).1 ∙ ap (word_at (live_vertices t)) q ∙ (position-found v (live_vertices t) r.0 r.1).1)))

  pub state-other : (u : ℕ) → (u ≡ v → ⊥) → state_of t (with_state t v x ss) u ≡ state_of t ss u
  unfolding state_in
  state-other u ne = other_at u (position u (live_vertices t)) refl ne

  pub set-fits : x < suc released → states_fit (length (live_vertices t)) ss ≡ true → states_fit (length (live_vertices t)) (with_state t v x ss) ≡ true
  unfolding states_fit with_state
  set-fits small fits =
      let r = recorded v (live_vertices t) live in
      let i = place (position v (live_vertices t)) in
      let l : i < length (live_vertices t) = rw r.1 (position-found v (live_vertices t) r.0 r.1).0 in
      and_both _ _ (ap (λ (n : ℕ). eqb n vertex_limit) (length-set ss i x) ∙ and_left _ _ fits)
      (and_both _ _
      (all_set (is_below (suc released)) ss i x (and_left _ _ (and_right _ _ fits)) (lt-ltb x (suc released) small))
      (ap zeros (drop-set-lt (length (live_vertices t)) ss i x l) ∙ and_right _ _ (and_right _ _ fits)))

-- ---- the states after a review and after a release of v

module _ (t : Table) (ss : List ℕ) (v : ℕ) (live : is_live (live_vertices t) v ≡ true) (room : length (live_vertices t) ≤ length ss) where
  pub state-reviewed : (u : ℕ)
      → state_of t (with_state t v (once_reviewed (state_of t ss v)) ss) u ≡ cond (eqb u v) (once_reviewed (state_of t ss u)) (state_of t ss u)
  state-reviewed u = on_same u v
      (λ e. rw (e, eq-eqb v v refl) (state-set t ss v _ live room))
      (λ ne. rw (ne_eqb u v ne) (state-other t ss v _ live u ne))

  -- a review releases none, and takes none back
  pub released-reviewed : (u : ℕ) → in_state t (with_state t v (once_reviewed (state_of t ss v)) ss) released u ≡ in_state t ss released u
  unfolding in_state once_reviewed
  released-reviewed u =
      rw (state-reviewed u) (on (eqb u v)
      (λ e. rw e (on (eqb (state_of t ss u) waiting) (λ w. rw (w, eqb-true (state_of t ss u) waiting w)) (λ w. rw w)))
      (λ e. rw e))

  pub released-set : in_state t (with_state t v released ss) released v ≡ true
  unfolding in_state
  released-set = rw (state-set t ss v released live room)

  -- a release takes none back, and releases no other
  pub released-kept : (u : ℕ) → in_state t ss released u ≡ true → in_state t (with_state t v released ss) released u ≡ true
  unfolding in_state
  released-kept u e = on_same u v (λ q. rw (q, state-set t ss v released live room)) (λ ne. rw (state-other t ss v released live u ne) e)

  pub released-other : (u : ℕ) → (u ≡ v → ⊥) → in_state t (with_state t v released ss) released u ≡ in_state t ss released u
  unfolding in_state
  released-other u ne = rw (state-other t ss v released live u ne)

-- ---- a desk that fits

module _ (d : Desk) (fits : desk_fits d ≡ true) where
  -- each live vertex has a word
  pub fits-room : length (live_vertices (content d)) ≤ length d.states
  unfolding states_fit
  fits-room =
      let n : length d.states ≡ vertex_limit = eqb-true _ _ (and_left _ _ (desk-fits-of fits).fit) in
      omega (arith, live-length limit d.table, (formed-of limit d.table (desk-fits-of fits).formed).shape.vertices-le)

  -- the state of one live vertex set, the desk fits
  pub signed-fits : (v x : ℕ) → is_live (live_vertices (content d)) v ≡ true → x < suc released
      → desk_fits (desk_of d.table (with_state (content d) v x d.states)) ≡ true
  unfolding desk_fits
  signed-fits v x live small = and_both _ _ (desk-fits-of fits).formed (set-fits (content d) d.states v x live small (desk-fits-of fits).fit)

-- ---- the ways that a review and a release can go: refused, with the states as they were, or done; f is what is known there

-- the first that passes is refused
first-or : {A : Type 0} (P : Result → Type 0) (p : A → Bool) (refusal : A → Answer) (lent : List ℕ) (r : Result) (xs : List A)
    → ((x : A) → P (result_of (refusal x) lent)) → (any p xs ≡ false → P r) → P (on_first p refusal xs lent r)
unfolding on_first any
first-or P p refusal lent r [] refused f = f refl
first-or P p refusal lent r (x ∷ xs) refused f = on (p x) (λ e. rw e (refused x)) (λ e. rw e (first-or P p refusal lent r xs refused (λ h. f (rw (e, h)))))

-- v was not released, is reviewed and is held by none
pub record Free (t : Table) (ss : List ℕ) (v : ℕ) : Type 0 where
  pub before : in_state t ss released v ≡ false
  pub signed : in_state t ss reviewed v ≡ true
  pub unheld : any (holds t ss v) (live_vertices t) ≡ false

module _ (P : Result → Type 0) (d : Desk) (v : ℕ) (refused : (a : Answer) → eqb (number a) 0 ≡ false → P (result_of a d.states)) where
  live-or : (f : Result) → (desk_fits d ≡ true → is_live (live_vertices (content d)) v ≡ true → P f)
      → P (cond (desk_fits d) (on_live_vertex (content d) v d.states f) (result_of (Err NotWellFormed) d.states))
  unfolding on_live
  live-or r f =
      on (desk_fits d)
      (λ e. rw e (on (is_live (live_vertices (content d)) v) (λ l. rw l (f e l)) (λ l. rw l (refused (vertex_missing v) refl))))
      (λ e. rw e (refused (Err NotWellFormed) refl))

  pub review-goes :
      (desk_fits d ≡ true → is_live (live_vertices (content d)) v ≡ true
      → P (result_of (Ok 0) (with_state (content d) v (once_reviewed (state_of (content d) d.states v)) d.states)))
      → P (on_desk d d.states (review_result v d.states))
  unfolding on_desk review_result
  review-goes f = live-or _ f

  pub release-goes :
      (desk_fits d ≡ true → is_live (live_vertices (content d)) v ≡ true → in_state (content d) d.states released v ≡ true → P (result_of (Ok 0) d.states))
      → (desk_fits d ≡ true → is_live (live_vertices (content d)) v ≡ true → Free (content d) d.states v
      → P (result_of (Ok 0) (with_state (content d) v released d.states)))
      → P (on_desk d d.states (release_result v d.states))
  unfolding on_desk release_result releasing on_reviewed
  release-goes again first =
      live-or _ (λ e l. on (in_state (content d) d.states released v)
      (λ a. rw a (again e l a))
      (λ a. rw a (on (in_state (content d) d.states reviewed v)
      (λ b. rw b (first-or P (holds (content d) d.states v) upstream_held d.states _ (live_vertices (content d))
      (λ u. refused (upstream_held u) refl)
      (λ h. first e l (record { before = a; signed = b; unheld = h }))))
      (λ b. rw b (refused (not_reviewed v) refl)))))

-- ---- on a desk that fits, of a live vertex

first-none : {A : Type 0} (p : A → Bool) (refusal : A → Answer) (lent : List ℕ) (r : Result) (xs : List A) → any p xs ≡ false → on_first p refusal xs lent r ≡ r
unfolding on_first any
first-none p refusal lent r [] e = refl
first-none p refusal lent r (x ∷ xs) e = rw (or-false-left (p x) (any p xs) e) (first-none p refusal lent r xs (or-false-right (p x) (any p xs) e))

module _ (d : Desk) (v : ℕ) (fits : desk_fits d ≡ true) (live : is_live (live_vertices (content d)) v ≡ true) where
  pub review-done : on_desk d d.states (review_result v d.states)
      ≡ result_of (Ok 0) (with_state (content d) v (once_reviewed (state_of (content d) d.states v)) d.states)
  unfolding on_desk review_result on_live
  review-done = rw (fits, live)

  pub release-again : in_state (content d) d.states released v ≡ true → on_desk d d.states (release_result v d.states) ≡ result_of (Ok 0) d.states
  unfolding on_desk release_result on_live
  release-again e = rw (fits, live, e)

  pub release-first : Free (content d) d.states v → on_desk d d.states (release_result v d.states) ≡ result_of (Ok 0) (with_state (content d) v released d.states)
  unfolding on_desk release_result on_live releasing on_reviewed
  release-first f = rw (fits, live, f.before, f.signed) (first-none (holds (content d) d.states v) upstream_held d.states _ (live_vertices (content d)) f.unheld)
