-- Each refusal is given then and only then, by the first that applies, and changes no lent word: for every entry point. Assumes nothing.
use Rattle.std.specs.Prelude.{Option, Some, Ok, Err}
use mathlib.Core.Path.{◌≡◌, refl, sym, ap, ◌∙◌}
use mathlib.Core.Bool.{Bool, true, false, not, cond}
use mathlib.Core.List.{List, [], ◌∷◌, ◌++◌, map}
use mathlib.Core.Option.{Option as Maybe, some, none}
use Prim.Native.Nat.{ℕ, suc}
use native.Mathlib.Omega.{arith}
use lib.ListN.{length}
use Rattle.lists.specs.Tests.{◌and◌}
use Rattle.lists.specs.Lists.{any, over}
use Rattle.lists.proofs.Cases.{on}
use Rattle.layout.specs.Answers.{Answer}
use Rattle.layout.specs.declared.Refusal.TheVariants.{BadRecord}
use Rattle.layout.specs.Content.{Hyperedge, Table, is_live}
use Rattle.layout.specs.Layout.{limit, read}
use Rattle.layout.specs.WellFormed.{well_formed}
use Rattle.layout.specs.Steps.{steps_of, same_ends}
use Rattle.layout.specs.Answers.{Result, result_of, on_formed, on_live, fits, listed}
use Rattle.edits.specs.Results.{has_some, on_some, is_short, on_short, has_room, on_room, is_spent, on_number, on_first, by_number, on_new, equals_old, on_changed, identical, is_same, on_other, side_by_side, side_by_side_in, on_apart, twiceInARow, on_unequal, first_passing_from}
use Rattle.trays.specs.declared.Withdrawal.{Withdrawal}
use Rattle.trays.specs.Trays.{is_faulty, on_faultless}
use Rattle.lookups.specs.Results.{is_few, on_several}
use Rattle.promises.specs.Refusals.{Ground, first, Judged, unformed, no_members, missing, same_members, too_many, full, spent, too_few, no_room, same_vertex, beside, faulty_record, faulty_from, equal_next, unless}

-- ---- what a judged call keeps to

module _ {gs : List Ground} {lent : List ℕ} {r : Result} (j : Judged gs lent r) where
  -- a refusal is one of the grounds', the first that applies
  pub only_then : (n : ℕ) → r.number ≡ suc n → (g : Ground) × (first gs ≡ some g) × (r ≡ result_of g.answer lent)
  only_then n e = by (first gs) refl where
    by : (o : Maybe Ground) → first gs ≡ o → (g : Ground) × (first gs ≡ some g) × (r ≡ result_of g.answer lent)
    by none h = absurd (let z : suc n ≡ 0 = sym e ∙ j.done h in omega arith)
    by (some g) h = (g, h, j.refused g h)

  -- a refusal changes neither table nor answer slice
  pub refusal-keeps : (n : ℕ) → r.number ≡ suc n → r.lent ≡ lent
  refusal-keeps n e = ap (λ (x : Result). x.lent) (only_then n e).2

-- ---- one ground more

pub none-refused : {lent : List ℕ} {r : Result} → r.number ≡ 0 → Judged [] lent r
unfolding first
none-refused e = record { refused = λ g h. absurd (let z : ◌≡◌ {A = ℕ} 0 1 = cc in omega arith); done = λ _. e }

module _ (gs : List Ground) (lent : List ℕ) (r : Result) (j : Judged gs lent r) (g : Ground) where
  first-is : (b : Bool) → g.applies ≡ b → first (g ∷ gs) ≡ cond b (some g) (first gs)
  unfolding first
  first-is b h = ap (λ (c : Bool). cond c (some g) (first gs)) h

  pub refused-by : g.applies ≡ true → Judged (g ∷ gs) lent (result_of g.answer lent)
  refused-by h = record {
    refused = λ k e. (let s : some g ≡ some k = sym (first-is true h) ∙ e in let q : g ≡ k = cc in ap (λ (x : Ground). result_of x.answer lent) q);
    done = λ e. absurd (let s : some g ≡ none = sym (first-is true h) ∙ e in let z : ◌≡◌ {A = ℕ} 0 1 = cc in omega arith);
  }

  pub passed-by : g.applies ≡ false → Judged (g ∷ gs) lent r
  passed-by h = record {
    refused = λ k e. j.refused k (sym (first-is false h) ∙ e);
    done = λ e. j.done (sym (first-is false h) ∙ e);
  }

  -- by a test that the ground applies, or that it does not
  pub on-ground : (b : Bool) → g.applies ≡ b → Judged (g ∷ gs) lent (cond b (result_of g.answer lent) r)
  on-ground true h = refused-by h
  on-ground false h = passed-by h

  pub off-ground : (b : Bool) → g.applies ≡ not b → Judged (g ∷ gs) lent (cond b r (result_of g.answer lent))
  off-ground true h = passed-by h
  off-ground false h = refused-by h

-- ---- the combinators

module _ {gs : List Ground} {lent : List ℕ} {r : Result} (j : Judged gs lent r) where
  pub live-judged : (live : List ℕ) (refusal : ℕ → Answer) (xs : List ℕ) → Judged (map (missing live refusal) xs ++ gs) lent (on_live live refusal xs lent r)
  unfolding on_live
  live-judged live refusal [] = j
  live-judged live refusal (x ∷ xs) =
      off-ground (map (missing live refusal) xs ++ gs) lent (on_live live refusal xs lent r) (live-judged live refusal xs) (missing live refusal x) (is_live live x) refl

  pub some-judged : (ms : List ℕ) (d : ℕ) → Judged (no_members ms d ∷ gs) lent (on_some ms d lent r)
  unfolding on_some
  some-judged ms d = off-ground gs lent r j (no_members ms d) (has_some ms) refl

  pub short-judged : (ms : List ℕ) → Judged (too_many ms ∷ gs) lent (on_short ms lent r)
  unfolding on_short
  short-judged ms = off-ground gs lent r j (too_many ms) (is_short ms) refl

  pub room-judged : (live most : ℕ) → Judged (full live most ∷ gs) lent (on_room live most lent r)
  unfolding on_room
  room-judged live most = off-ground gs lent r j (full live most) (has_room live most) refl

  pub number-judged : (next : ℕ) → Judged (spent next ∷ gs) lent (on_number next lent r)
  unfolding on_number
  number-judged next = on-ground gs lent r j (spent next) (is_spent next) refl

  pub changed-judged : (x : ℕ) (ms : List ℕ) (t : Table) → Judged (same_members x ms t ∷ gs) lent (on_changed x ms t lent r)
  unfolding on_changed
  changed-judged x ms t = on-ground gs lent r j (same_members x ms t) (equals_old x ms t) refl

  pub other-judged : (v w : ℕ) → Judged (same_vertex v w ∷ gs) lent (on_other v w lent r)
  unfolding on_other
  other-judged v w = on-ground gs lent r j (same_vertex v w) (is_same v w) refl

  pub several-judged : (xs : List ℕ) → Judged (too_few xs ∷ gs) lent (on_several xs lent r)
  unfolding on_several
  several-judged xs = on-ground gs lent r j (too_few xs) (is_few xs) refl

  -- a ground for each of a list
  pub first-judged : {A : Type 0} (p : A → Bool) (answer : A → Answer) (xs : List A)
      → Judged (map (λ x. record { answer = answer x; applies = p x }) xs ++ gs) lent (on_first p answer xs lent r)
  unfolding on_first
  first-judged p answer [] = j
  first-judged p answer (x ∷ xs) =
      on-ground _ lent (on_first p answer xs lent r) (first-judged p answer xs) (record { answer = answer x; applies = p x }) (p x) refl

  pub unequal-judged : (ms : List ℕ) → Judged (equal_next ms ++ gs) lent (on_unequal ms lent r)
  unequal-judged ms = first-judged same_ends twiceInARow (steps_of ms)

  pub apart-judged : (v w : ℕ) (t : Table) → Judged (beside v w t ++ gs) lent (on_apart v w t.hyperedges lent r)
  apart-judged v w t = first-judged (side_by_side v w) (by_number side_by_side_in) t.hyperedges

-- 15, or what comes after
fault-first : (b : Bool) (i : ℕ) (f : Option ℕ) (lent : List ℕ) (r : Result) → on_faultless (cond b (Some i) f) lent r ≡ cond b (result_of (Err (BadRecord i)) lent) (on_faultless f lent r)
fault-first true i f lent r = refl
fault-first false i f lent r = refl

pub faultless-judged : {gs : List Ground} {lent : List ℕ} {r : Result} → Judged gs lent r → (t : Table) (i : ℕ) (rs : List Withdrawal)
    → Judged (faulty_from t i rs ++ gs) lent (on_faultless (first_passing_from (is_faulty t) i rs) lent r)
unfolding faulty_from first_passing_from
faultless-judged j t i [] = j
faultless-judged {gs} {lent} {r} j t i (w ∷ rs) =
    let rest : Result = on_faultless (first_passing_from (is_faulty t) (suc i) rs) lent r in
    rw (fault-first (is_faulty t w) i (first_passing_from (is_faulty t) (suc i) rs) lent r)
    (on-ground (faulty_from t (suc i) rs ++ gs) lent rest (faultless-judged j t (suc i) rs) (faulty_record t i w) (is_faulty t w) refl)

pub formed-judged : (ws : List ℕ) (f : Table → Result) {lent : List ℕ} {gs : List Ground} → Judged gs lent (f (read limit ws)) → Judged (unformed ws ∷ gs) lent (on_formed ws lent f)
unfolding on_formed
formed-judged ws f {lent} {gs} j = off-ground gs lent (f (read limit ws)) j (unformed ws) (well_formed limit ws) refl

pub listed-judged : (xs lent : List ℕ) → Judged (no_room xs lent ∷ []) lent (listed xs lent)
unfolding listed
listed-judged xs lent =
    let done = result_of (Ok (length xs)) (over xs lent) in
    off-ground [] lent done (none-refused refl) (no_room xs lent) (fits xs lent) refl

-- an identical one answers, and nothing behind it applies
none-applies : (gs : List Ground) → first (map (unless true) gs) ≡ none
unfolding first ◌and◌
none-applies [] = refl
none-applies (g ∷ gs) = none-applies gs

pub all-apply : (gs : List Ground) → map (unless false) gs ≡ gs
unfolding ◌and◌
all-apply [] = refl
all-apply (g ∷ gs) = ap (λ (hs : List Ground). g ∷ hs) (all-apply gs)

pub answered : (gs : List Ground) (lent : List ℕ) (r : Result) → r.number ≡ 0 → Judged (map (unless true) gs) lent r
answered gs lent r e = record {
  refused = λ g h. absurd (let z : none ≡ some g = sym (none-applies gs) ∙ h in let y : ◌≡◌ {A = ℕ} 0 1 = cc in omega arith);
  done = λ _. e;
}

pub new-judged : {gs : List Ground} {lent : List ℕ} {r : Result} → Judged gs lent r → (ms : List ℕ) (w : ℕ) (es : List Hyperedge) →
    Judged (map (unless (any (identical ms w) es)) gs) lent (on_new ms w es lent r)
unfolding any on_first
new-judged {gs} j ms w [] = rw (all-apply gs) j
new-judged {gs} {lent} j ms w (e ∷ es) = on (identical ms w e)
    (λ h. rw h (answered gs lent (result_of (Ok e.number) lent) refl))
    (λ h. rw h (new-judged j ms w es))
