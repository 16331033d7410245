-- The desk accepts an order exactly where it lists every live vertex once and every step goes forward; what it answers otherwise is the first
-- fault. So the sort's order is accepted, and some order is exactly where no steps form a closed walk. Assumes nothing.
use Rattle.std.specs.Prelude.{Option, Some, None, Ok, Err}
use mathlib.Core.Path.{◌≡◌, refl, sym, ap, ◌∙◌}
use mathlib.Core.Bool.{true, false, not}
use mathlib.Core.Logic.{⊎_elim}
use mathlib.Core.List.{List, []}
use Prim.Native.Nat.{ℕ, suc, ◌<◌}
use native.Mathlib.Nat.{lt_irrefl}
use native.Mathlib.Omega.{arith}
use lib.Dec.{leb}
use lib.ListN.{length, take, length-take}
use lib.Seq.{get_or-take, take-append_seam}
use borrow.Author.Tests.{not-false, ltb-false, le-ltb}
use Rattle.lists.specs.Lists.{any, memb, Distinct, over, word_at}
use Rattle.lists.proofs.Cases.{on, on_below, clash, test-ext, or-false-left, or-false-right}
use Rattle.lists.proofs.Memb.{memb-getD, memb-at}
use Rattle.lists.proofs.Any.{any_at, any_of}
use Rattle.layout.specs.declared.Refusal.TheVariants.{BadOrder}
use Rattle.layout.specs.Content.{Table, live_vertices, is_live}
use Rattle.layout.specs.Layout.{limit}
use Rattle.layout.specs.Inner.{Formed}
use Rattle.layout.specs.Steps.{has_step}
use Rattle.layout.specs.Answers.{Result, result_of, on_formed, listed}
use Rattle.layout.proofs.Read.{formed-of, live-ascends}
use Rattle.layout.proofs.Answers.{formed-result}
use Rattle.graph.proofs.Outside.{distinct-before}
use Rattle.order.proofs.Smallest.{forward-open}
use Rattle.steps.proofs.Among.{steps-among}
use Rattle.structural.specs.Sort.{SmallestIn, ClosedIn, sort_result}
use Rattle.structural.proofs.Sorting.{closed-or-smallest, closed-answers, smallest-answers}
use Rattle.desk.specs.Desk.{Desk, content, desk_fits}
use Rattle.desk.specs.Releases.{on_desk}
use Rattle.desk.specs.Orders.{at_fault, first_fault, stops_short, on_accepted, accept_result}
use Rattle.desk.proofs.Edits.{desk-fits-of}
use Rattle.desk_laws.specs.Down.{accept_call, Accepts, ForwardIn, FirstFault}
use Rattle.desk_laws.proofs.Repeats.{distinct_of, ascending-distinct, distinct-shorter, distinct-covers, first-none, none_first, first-at, at_first}

-- ---- one place of an order

module _ (t : Table) (order : List ℕ) (i : ℕ) where
  sound-live : at_fault t order i ≡ false → is_live (live_vertices t) (word_at order i) ≡ true
  unfolding at_fault
  sound-live e = not-false _ (or-false-left _ _ e)

  sound-new : at_fault t order i ≡ false → memb (word_at order i) (take i order) ≡ false
  unfolding at_fault
  sound-new e = or-false-left _ _ (or-false-right (not (is_live (live_vertices t) (word_at order i))) _ e)

  sound-steps : at_fault t order i ≡ false → any (has_step t (word_at order i)) (take (suc i) order) ≡ false
  unfolding at_fault
  sound-steps e = or-false-right (memb (word_at order i) (take i order)) _ (or-false-right (not (is_live (live_vertices t) (word_at order i))) _ e)

  sound-of : is_live (live_vertices t) (word_at order i) ≡ true → memb (word_at order i) (take i order) ≡ false
      → any (has_step t (word_at order i)) (take (suc i) order) ≡ false → at_fault t order i ≡ false
  unfolding at_fault
  sound-of a b c = rw (a, b, c)

-- ---- no place is at fault and the order does not stop short, exactly where it is forward

pub record Sound (t : Table) (order : List ℕ) : Type 0 where
  pub places : (i : ℕ) → i < length order → at_fault t order i ≡ false
  pub whole : stops_short t order ≡ false

module _ (t : Table) (order : List ℕ) where
  sound-listed : Sound t order → (x : ℕ) → memb x order ≡ true → is_live (live_vertices t) x ≡ true
  sound-listed s x e = let r = memb-at x order e in rw r.2 at (sound-live t order r.0 (s.places r.0 r.1))

  sound-once : Sound t order → Distinct order
  sound-once s = distinct_of order (λ k b. sound-new t order k (s.places k b))

  sound-forward : Sound t order → ForwardIn t order
  unfolding stops_short
  sound-forward s = record {
    once = sound-once s;
    same = λ x. test-ext _ _ (sound-listed s x) (distinct-covers order (live_vertices t) (sound-once s) (sound-listed s) (ltb-false _ _ s.whole) x);
    forward = λ i j hi hj step. on_below i j (λ l. l) (λ l. clash
        (any_of (has_step t (word_at order i)) (take (suc i) order) 0 j (rw length-take (omega arith)) (rw (get_or-take (suc i) order j 0 (omega arith)) step))
        (sound-steps t order i (s.places i hi)));
  }

  forward-sound : Distinct (live_vertices t) → ForwardIn t order → Sound t order
  unfolding stops_short
  forward-sound apart f = record {
    places = λ i h. sound-of t order i (sym (f.same (word_at order i)) ∙ memb-getD order i h) (distinct-before order i f.once h)
        (on (any (has_step t (word_at order i)) (take (suc i) order))
        (λ e.
        let r = any_at (has_step t (word_at order i)) (take (suc i) order) 0 e in
        let b : r.0 < suc i = omega (arith, rw length-take at r.1) in
        let c : r.0 < length order = omega arith in
        let l : i < r.0 = f.forward i r.0 h c (rw (get_or-take (suc i) order r.0 0 b) at r.2) in
        absurd (lt_irrefl i (omega arith)))
        (λ e. e));
    whole = le-ltb _ _ (distinct-shorter (live_vertices t) order apart (λ x e. f.same x ∙ e));
  }

-- ---- what is answered

module _ (t : Table) (order : List ℕ) where
  done_at : (p : Option ℕ) → first_fault t order ≡ p → (on_accepted p t order (result_of (Ok 0) [])).number ≡ 0 → Sound t order
  unfolding first_fault
  done_at (Some i) e q = absurd (let z : ◌≡◌ {A = ℕ} 19 0 = q in omega arith)
  done_at None e q = record {
    places = first-none (at_fault t order) (length order) e;
    whole = on (stops_short t order) (λ s. absurd (let z : ◌≡◌ {A = ℕ} 19 0 = rw s at q in omega arith)) (λ s. s);
  }

  done-sound : (accept_result order t).number ≡ 0 → Sound t order
  unfolding accept_result
  done-sound q = done_at (first_fault t order) refl q

  sound-done : Sound t order → accept_result order t ≡ result_of (Ok 0) []
  unfolding accept_result first_fault
  sound-done s = rw (none_first (at_fault t order) (length order) s.places, s.whole)

  fault-at : (p : Option ℕ) → first_fault t order ≡ p → (on_accepted p t order (result_of (Ok 0) [])).number ≡ 19
      → FirstFault t order (on_accepted p t order (result_of (Ok 0) [])).detail
  unfolding first_fault
  fault-at (Some i) e q =
      let r = first-at (at_fault t order) (length order) i e in
      record { within = omega (arith, r.0); before = r.2; here = λ h. r.1; short = λ h. absurd (lt_irrefl i (omega (arith, r.0))) }
  fault-at None e q =
      on (stops_short t order)
      (λ s. rw s (record {
        within = omega arith;
        before = first-none (at_fault t order) (length order) e;
        here = λ h. absurd (lt_irrefl (length order) h);
        short = λ h. s;
      }))
      (λ s. absurd (let z : ◌≡◌ {A = ℕ} 0 19 = rw s at q in omega arith))

  refused-fault : (accept_result order t).number ≡ 19 → FirstFault t order (accept_result order t).detail
  unfolding accept_result
  refused-fault q = fault-at (first_fault t order) refl q

  fault-refused : (i : ℕ) → FirstFault t order i → accept_result order t ≡ result_of (Err (BadOrder i)) []
  unfolding accept_result first_fault
  fault-refused i f =
      on_below i (length order)
      (λ h. rw (at_first (at_fault t order) (length order) i h (f.here h) f.before))
      (λ h.
      let e : i ≡ length order = omega (arith, f.within) in
      rw (none_first (at_fault t order) (length order) (λ j l. f.before j (omega arith)), f.short e, e))

-- what a listing that is done wrote
listed-done : (l lent : List ℕ) → (listed l lent).number ≡ 0 → take (listed l lent).detail (listed l lent).lent ≡ l
unfolding listed over
listed-done l lent q =
    on (leb (length l) (length lent))
    (λ h. rw h (take-append_seam l _))
    (λ h. absurd (let z : ◌≡◌ {A = ℕ} 11 0 = rw h at q in omega arith))

module _ (d : Desk) (fits : desk_fits d ≡ true) where
  formed : Formed limit d.table
  formed = formed-of limit d.table (desk-fits-of fits).formed

  call-is : (order : List ℕ) → accept_call order d ≡ accept_result order (content d)
  unfolding on_desk
  call-is order = rw fits

  -- ---- accepted exactly where it lists every live vertex once and every step goes forward

  pub accepted-forward : (order : List ℕ) → Accepts d order → ForwardIn (content d) order
  accepted-forward order a = sound-forward (content d) order (done-sound (content d) order (ap (λ (r : Result). r.number) (sym (call-is order)) ∙ a))

  pub forward-accepted : (order : List ℕ) → ForwardIn (content d) order → accept_call order d ≡ result_of (Ok 0) []
  forward-accepted order f =
      call-is order ∙ sound-done (content d) order
      (forward-sound (content d) order (ascending-distinct (live_vertices (content d)) (live-ascends limit d.table formed)) f)

  -- ---- refused with the first fault, and no other

  pub order-refused : (order : List ℕ) → (accept_call order d).number ≡ 19 → FirstFault (content d) order (accept_call order d).detail
  order-refused order q = rw (call-is order) (refused-fault (content d) order (ap (λ (r : Result). r.number) (sym (call-is order)) ∙ q))

  pub fault-answered : (order : List ℕ) (i : ℕ) → FirstFault (content d) order i → accept_call order d ≡ result_of (Err (BadOrder i)) []
  fault-answered order i f = call-is order ∙ fault-refused (content d) order i f

  -- ---- the sort's order is accepted; some order is exactly where no steps form a closed walk

  smallest-accepted : (l : List ℕ) → SmallestIn (content d) l → Accepts d l
  smallest-accepted l s = ap (λ (r : Result). r.number) (forward-accepted l s.order)

  pub sort-accepted : (lent : List ℕ) → (on_formed d.table lent (sort_result lent)).number ≡ 0
      → Accepts d (take (on_formed d.table lent (sort_result lent)).detail (on_formed d.table lent (sort_result lent)).lent)
  sort-accepted lent q =
      let c : on_formed d.table lent (sort_result lent) ≡ sort_result lent (content d) = formed-result d.table lent (sort_result lent) (desk-fits-of fits).formed in
      ⊎_elim
      (λ (closed : ClosedIn (content d)). absurd (let z : ◌≡◌ {A = ℕ} 9 0 = rw (c, (closed-answers formed lent closed).0) at q in omega arith))
      (λ (s : (l : List ℕ) × SmallestIn (content d) l).
      let e : on_formed d.table lent (sort_result lent) ≡ listed s.0 lent = c ∙ (smallest-answers formed lent s.0 s.1).0 in
      rw (e, listed-done s.0 lent (rw e at q)) (smallest-accepted s.0 s.1))
      (closed-or-smallest formed)

  pub some-accepted : (ClosedIn (content d) → ⊥) → (order : List ℕ) × Accepts d order
  some-accepted none = ⊎_elim (λ closed. absurd (none closed)) (λ s. (s.0, smallest-accepted s.0 s.1)) (closed-or-smallest formed)

  pub none-accepted : ClosedIn (content d) → (order : List ℕ) → Accepts d order → ⊥
  none-accepted closed order a = forward-open (steps-among (content d) formed.content) (accepted-forward order a) closed
