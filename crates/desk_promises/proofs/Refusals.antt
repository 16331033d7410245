-- What a call of the desk keeps to that is judged by its grounds, and the desk's own grounds. Assumes nothing.
use Rattle.std.specs.Prelude.{Option, Some, None, Err}
use mathlib.Core.Path.{◌≡◌, refl, sym, ap, ◌∙◌}
use mathlib.Core.Bool.{Bool, true, false, not, cond}
use mathlib.Core.List.{List, [], ◌∷◌, ◌++◌, map}
use mathlib.Core.Option.{Option as Maybe, some, none}
use Prim.Native.Nat.{ℕ, zero, suc, ◌+◌}
use native.Mathlib.Omega.{arith}
use lib.Dec.{eqb}
use lib.ListN.{length}
use borrow.Author.Tests.{not-true}
use Rattle.lists.specs.Lists.{all, tab}
use Rattle.lists.proofs.Cases.{on, and_left, and_right}
use Rattle.layout.specs.declared.Refusal.TheVariants.{BadOrder}
use Rattle.layout.specs.Content.{Table, live_vertices}
use Rattle.layout.specs.Layout.{vertex_limit}
use Rattle.layout.specs.Answers.{number, Result, result_of}
use Rattle.edits.specs.Results.{first_passing_from, first_passing}
use Rattle.desk.specs.States.{reviewed, in_state}
use Rattle.desk.specs.Desk.{Desk, Outcome, outcome, answering, content, desk_fits, following, edited, renewed, replaced}
use Rattle.desk.specs.Releases.{on_desk, on_reviewed, on_unheld, holds, upstream_held}
use Rattle.desk.specs.Orders.{at_fault, first_fault, stops_short, on_accepted}
use Rattle.desk.proofs.Edits.{following-same}
use Rattle.promises.specs.Refusals.{Ground, first, Judged}
use Rattle.promises.proofs.Refusals.{off-ground, on-ground, first-judged}
use Rattle.desk_promises.specs.Refusals.{DeskJudged, misfit, states_unsized, unreviewed, upstream, order_faults, fault_at, short_order}

-- ---- what a judged call keeps to, where it may write both lent slices

module _ {gs : List Ground} {d : Desk} {o : Outcome} (j : DeskJudged gs d o) where
  -- a refusal is one of the grounds', the first that applies
  pub desk-only-then : (n : ℕ) → o.number ≡ suc n → (g : Ground) × (first gs ≡ some g) × (o ≡ outcome g.answer d)
  desk-only-then n e = by (first gs) refl where
    by : (q : Maybe Ground) → first gs ≡ q → (g : Ground) × (first gs ≡ some g) × (o ≡ outcome g.answer d)
    by none h = absurd (let z : suc n ≡ 0 = sym e ∙ j.done h in omega arith)
    by (some g) h = (g, h, j.refused g h)

  -- a refusal changes neither table nor states
  pub desk-refusal-keeps : (n : ℕ) → o.number ≡ suc n → o.desk ≡ d
  desk-refusal-keeps n e = ap (λ (x : Outcome). x.desk) (desk-only-then n e).2

-- ---- grounds of refusals

-- the answer is not 0
unfoldable pub refuses : Ground → Bool
refuses g = not (eqb (number g.answer) 0)

-- the first of a list that has one ground more
first-is : (gs : List Ground) (g : Ground) (b : Bool) → g.applies ≡ b → first (g ∷ gs) ≡ cond b (some g) (first gs)
unfolding first
first-is gs g b h = ap (λ (c : Bool). cond c (some g) (first gs)) h

first-refuses : (gs : List Ground) → all refuses gs ≡ true → (g : Ground) → first gs ≡ some g → eqb (number g.answer) 0 ≡ false
unfolding first all refuses
first-refuses [] a g e = absurd (let z : ◌≡◌ {A = ℕ} 0 1 = cc in omega arith)
first-refuses (k ∷ gs) a g e = on k.applies
    (λ h. let s : some k ≡ some g = sym (first-is gs k true h) ∙ e in let z : k ≡ g = cc in not-true _ (rw z at (and_left _ _ a)))
    (λ h. first-refuses gs (and_right _ _ a) g (sym (first-is gs k false h) ∙ e))

-- ---- one ground more, the test of the desk

module _ (d : Desk) {gs : List Ground} {r : Result} (j : Judged gs d.table r) where
  -- it applies
  tested : (g : Ground) → g.applies ≡ true → (o : Outcome) → o ≡ outcome g.answer d → DeskJudged (g ∷ gs) d o
  tested g h o q = record {
    refused = λ k e. (let s : some g ≡ some k = sym (first-is gs g true h) ∙ e in let z : g ≡ k = cc in q ∙ ap (λ (x : Ground). outcome x.answer d) z);
    done = λ e. absurd (let s : some g ≡ none = sym (first-is gs g true h) ∙ e in let z : ◌≡◌ {A = ℕ} 0 1 = cc in omega arith);
  }

  -- it does not, and the desk is left as f says of the result
  passed : (g : Ground) → g.applies ≡ false → (f : Result → Desk) → ((k : Ground) → first gs ≡ some k → f (result_of k.answer d.table) ≡ d)
      → (o : Outcome) → o ≡ answering r (f r) → DeskJudged (g ∷ gs) d o
  passed g h f kept o q = record {
    refused = λ k e. (let s : first gs ≡ some k = sym (first-is gs g false h) ∙ e in
        q ∙ ap (λ (x : Result). answering x (f x)) (j.refused k s) ∙ ap (outcome k.answer) (kept k s));
    done = λ e. ap (λ (x : Outcome). x.number) q ∙ j.done (sym (first-is gs g false h) ∙ e);
  }

  -- an edit: 1, then its own
  pub edited-judged : DeskJudged (misfit d ∷ gs) d (edited r d)
  unfolding edited
  edited-judged = on (desk_fits d)
      (λ h. passed (misfit d) (rw h) (λ x. following d x.lent) (λ k s. following-same d h) (edited r d) (rw h))
      (λ h. tested (misfit d) (rw h) (edited r d) (rw h))

  -- a clear or a read: 1 for the states' length, then its own, of which each is a refusal
  pub replaced-judged : all refuses gs ≡ true → DeskJudged (states_unsized d ∷ gs) d (replaced r d)
  unfolding replaced renewed
  replaced-judged a = on (eqb (length d.states) vertex_limit)
      (λ h. passed (states_unsized d) (rw h) (λ x. renewed x d) (λ k s. rw (first-refuses gs a k s)) (replaced r d) (rw h))
      (λ h. tested (states_unsized d) (rw h) (replaced r d) (rw h))

-- ---- the combinators

pub fits-judged : (d : Desk) (f : Table → Result) {lent : List ℕ} {gs : List Ground} → Judged gs lent (f (content d)) → Judged (misfit d ∷ gs) lent (on_desk d lent f)
unfolding on_desk
fits-judged d f {lent} {gs} j = off-ground gs lent (f (content d)) j (misfit d) (desk_fits d) refl

module _ (t : Table) (v : ℕ) (ss : List ℕ) {gs : List Ground} {r : Result} (j : Judged gs ss r) where
  pub reviewed-judged : Judged (unreviewed t ss v ∷ gs) ss (on_reviewed t v ss r)
  unfolding on_reviewed
  reviewed-judged = off-ground gs ss r j (unreviewed t ss v) (in_state t ss reviewed v) refl

  pub unheld-judged : Judged (upstream t ss v ++ gs) ss (on_unheld t v ss r)
  unheld-judged = first-judged j (holds t ss v) upstream_held (live_vertices t)

-- 19, or what comes after
module _ (t : Table) (order : List ℕ) (r : Result) where
  fault-first : (b : Bool) (i x : ℕ) (f : Option ℕ) → i ≡ x → on_accepted (cond b (Some i) f) t order r ≡ cond b (result_of (Err (BadOrder x)) []) (on_accepted f t order r)
  fault-first true i x f e = ap (λ (k : ℕ). result_of (Err (BadOrder k)) []) e
  fault-first false i x f e = refl

  -- the places from i on, each the number that f gives
  places-judged : {gs : List Ground} → Judged gs [] (on_accepted None t order r) → (f : ℕ → ℕ) (i m : ℕ) → ((k : ℕ) → f k ≡ i + k)
      → Judged (map (fault_at t order) (tab f m) ++ gs) [] (on_accepted (first_passing_from (at_fault t order) i (tab f m)) t order r)
  unfolding first_passing_from tab
  places-judged j f i zero is = j
  places-judged {gs} j f i (suc m) is =
      let more = places-judged j (λ k. f (suc k)) (suc i) m (λ k. is (suc k) ∙ omega arith) in
      let later = first_passing_from (at_fault t order) (suc i) (tab (λ k. f (suc k)) m) in
      rw (fault-first (at_fault t order (f 0)) i (f 0) later (omega (arith, is 0)))
      (on-ground (map (fault_at t order) (tab (λ k. f (suc k)) m) ++ gs) [] (on_accepted later t order r) more (fault_at t order (f 0)) (at_fault t order (f 0)) refl)

  pub accepted-judged : {gs : List Ground} → Judged gs [] r → Judged (order_faults t order ++ (short_order t order ∷ gs)) [] (on_accepted (first_fault t order) t order r)
  unfolding first_fault first_passing
  accepted-judged {gs} j =
      let short = on-ground gs [] r j (short_order t order) (stops_short t order) refl in
      places-judged short (λ i. i) 0 (length order) (λ k. omega arith)
