-- No number is given twice, over any list of edits from a well-formed table on. Assumes nothing.
use mathlib.Core.Path.{◌≡◌, refl, sym, ◌∙◌}
use mathlib.Core.Bool.{true}
use mathlib.Core.Logic.{⊎_elim}
use mathlib.Core.List.{List, [], ◌∷◌, ◌++◌, append-nil, append_assoc}
use Prim.Native.Nat.{ℕ, ◌≤◌, ◌<◌}
use native.Mathlib.Omega.{arith}
use Rattle.lists.specs.Lists.{memb}
use Rattle.lists.proofs.Cases.{clash, and_left, or-true}
use Rattle.lists.proofs.Memb.{memb-append, memb-left, memb-snoc, memb-snoc-self}
use Rattle.layout.specs.Content.{numbered}
use Rattle.layout.specs.Layout.{limit, read}
use Rattle.layout.specs.WellFormed.{well_formed}
use Rattle.layout.proofs.Back.{read-holdable}
use Rattle.layout.proofs.Holdable.{Holdable, holdable-of}
use Rattle.edits.proofs.AddHoldable.{numbered_more, below_next}
use Rattle.calls.specs.Calls.{Edit, edit, after}
use Rattle.demands.specs.Numbers.{Kind, vertices, hyperedges, live, next_number, given_by, given, seen, NotTwice}
use Rattle.demands.proofs.NumbersSteps.{Moved, kept, grown, edit-moved}

-- ---- one call

moved-formed : {k : Kind} {ws s g : List ℕ} → Moved k ws s g → well_formed limit s ≡ true
moved-formed (kept f n l) = f
moved-formed (grown f n l) = f

moved-next : {k : Kind} {ws s g : List ℕ} → Moved k ws s g → next_number k ws ≤ next_number k s
moved-next (kept f n l) = omega (arith, n)
moved-next (grown f n l) = omega (arith, n)

moved-from : {k : Kind} {ws s g : List ℕ} → Moved k ws s g → (x : ℕ) → memb x g ≡ true → next_number k ws ≤ x
moved-from (kept f n l) x m = clash m refl
moved-from {k} {ws} (grown f n l) x m = ⊎_elim (λ e. clash e refl) (λ e. omega (arith, e)) (memb-snoc x (next_number k ws) [] m)

-- ---- any list of calls

module _ (k : Kind) where
  all-formed : (es : List Edit) (ws : List ℕ) → well_formed limit ws ≡ true → well_formed limit (after es ws) ≡ true
  unfolding after
  all-formed [] ws f = f
  all-formed (e ∷ es) ws f = all-formed es (edit e ws).lent (moved-formed (edit-moved ws f k e))

  all-next : (es : List Edit) (ws : List ℕ) → well_formed limit ws ≡ true → next_number k ws ≤ next_number k (after es ws)
  unfolding after
  all-next [] ws f = omega arith
  all-next (e ∷ es) ws f = let m = edit-moved ws f k e in omega (arith, moved-next m, all-next es (edit e ws).lent (moved-formed m))

  all_from : (es : List Edit) (ws : List ℕ) → well_formed limit ws ≡ true → (x : ℕ) → memb x (given k es ws) ≡ true → next_number k ws ≤ x
  unfolding given
  all_from [] ws f x h = clash h refl
  all_from (e ∷ es) ws f x h =
      let m = edit-moved ws f k e in
      ⊎_elim
      (λ g. moved-from m x g)
      (λ g. omega (arith, moved-next m, all_from es (edit e ws).lent (moved-formed m) x g))
      (or-true _ _ (sym (memb-append x (given_by k e ws) (given k es (edit e ws).lent)) ∙ h))

-- ---- the numbers live at the start and those given so far

-- ns ascend strictly, below the next number, and what is live is among them
record Known (k : Kind) (ns ws : List ℕ) : Type 0 where
  order : numbered ns (next_number k ws) ≡ true
  among : (x : ℕ) → memb x (live k ws) ≡ true → memb x ns ≡ true

known_start : (k : Kind) (ws : List ℕ) → well_formed limit ws ≡ true → Known k (live k ws) ws
unfolding live next_number
known_start vertices ws f =
    let p : Holdable limit (read limit ws) = holdable-of (read-holdable limit ws f) in record { order = p.vertices-numbered; among = λ x m. m }
known_start hyperedges ws f =
    let p : Holdable limit (read limit ws) = holdable-of (read-holdable limit ws f) in record { order = p.hyperedges-numbered; among = λ x m. m }

known_more : {k : Kind} {ns ws s g : List ℕ} → Moved k ws s g → Known k ns ws → Known k (ns ++ g) s
known_more {ns = ns} (kept f n l) q = rw (append-nil ns) (record { order = rw n q.order; among = λ x m. q.among x (l x m) })
known_more {k} {ns} {ws} (grown f n l) q = record {
  order = rw n (numbered_more ns (next_number k ws) q.order);
  among = λ x m.
      ⊎_elim
      (λ h. memb-left x ns (next_number k ws ∷ []) (q.among x h))
      (λ e. rw e (memb-snoc-self (next_number k ws) ns))
      (memb-snoc x (next_number k ws) (live k ws) (rw l at m));
}

known-all : (k : Kind) (es : List Edit) (ns ws : List ℕ) → well_formed limit ws ≡ true → Known k ns ws → Known k (ns ++ given k es ws) (after es ws)
unfolding given after
known-all k [] ns ws f q = rw (append-nil ns) q
known-all k (e ∷ es) ns ws f q =
    let m = edit-moved ws f k e in
    rw (← append_assoc ns (given_by k e ws) (given k es (edit e ws).lent))
    (known-all k es (ns ++ given_by k e ws) (edit e ws).lent (moved-formed m) (known_more m q))

-- ---- no number is given twice

pub not-twice : (k : Kind) (es : List Edit) (ws : List ℕ) → well_formed limit ws ≡ true → NotTwice k es ws
unfolding seen numbered
not-twice k es ws f =
    let end : well_formed limit (after es ws) ≡ true = all-formed k es ws f in
    let q : Known k (live k ws ++ given k es ws) (after es ws) = known-all k es (live k ws) ws f (known_start k ws f) in
    let below : (x : ℕ) → memb x (live k ws ++ given k es ws) ≡ true → x < next_number k (after es ws) = below_next _ _ q.order in
    record {
      formed = end;
      ascend = and_left _ _ q.order;
      from_start = all_from k es ws f;
      below_end = below;
      no-fall = all-next k es ws f;
      live-seen = q.among;
      further = λ e x y m g. omega (arith, below x m, moved-from (edit-moved (after es ws) end k e) y g);
    }
