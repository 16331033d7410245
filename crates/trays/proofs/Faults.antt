-- The search for the first faulty record of a tray. Assumes nothing.
use Rattle.std.specs.Prelude.{Some, None}
use mathlib.Core.Path.{◌≡◌, refl, ap, ◌∙◌}
use mathlib.Core.Bool.{true, false, not}
use mathlib.Core.List.{List, [], ◌∷◌}
use Prim.Native.Nat.{ℕ, zero, suc, ◌+◌, ◌<◌, suc-le-suc}
use native.Mathlib.Nat.{not-suc-le-zero, le_of_suc-le-suc, zero-lt-suc}
use native.Mathlib.Omega.{arith}
use lib.ListN.{length, get_or, take}
use Rattle.lists.specs.Tests.{◌and◌}
use Rattle.lists.specs.Lists.{all, any}
use Rattle.lists.proofs.Cases.{on, clash, and_left, and_right, and_both}
use Rattle.layout.specs.Content.{Table}
use Rattle.edits.specs.Results.{first_passing_from, first_passing}
use Rattle.trays.specs.declared.Withdrawal.{Withdrawal}
use Rattle.trays.specs.Trays.{names_live, is_faulty}
use Rattle.trays.specs.Outcomes.{no_record, FirstFaulty}

module _ (t : Table) where
  -- every record names what is live exactly where none is faulty
  pub live-faultless : (rs : List Withdrawal) → all (names_live t) rs ≡ not (any (is_faulty t) rs)
  unfolding any all ◌and◌ is_faulty
  live-faultless [] = refl
  live-faultless (w ∷ rs) = on (names_live t w) (λ e. rw e (live-faultless rs)) (λ e. rw e)

  -- ---- no faulty record

  none_from : (k : ℕ) (rs : List Withdrawal) → all (names_live t) rs ≡ true → first_passing_from (is_faulty t) k rs ≡ None
  unfolding first_passing_from all is_faulty
  none_from k [] e = refl
  none_from k (w ∷ rs) e = rw (and_left (names_live t w) (all (names_live t) rs) e) (none_from (suc k) rs (and_right (names_live t w) (all (names_live t) rs) e))

  pub none-faulty : (rs : List Withdrawal) → all (names_live t) rs ≡ true → first_passing (is_faulty t) rs ≡ None
  unfolding first_passing
  none-faulty rs e = none_from zero rs e

  -- ---- the first

  found_from : (k i : ℕ) (rs : List Withdrawal) → i < length rs → is_faulty t (get_or rs i no_record) ≡ true → all (names_live t) (take i rs) ≡ true
      → first_passing_from (is_faulty t) k rs ≡ Some (k + i)
  unfolding first_passing_from all is_faulty
  found_from k i [] h e f = absurd (not-suc-le-zero h)
  found_from k zero (w ∷ rs) h e f = rw e (ap Some (omega arith))
  found_from k (suc i) (w ∷ rs) h e f =
      rw (and_left (names_live t w) (all (names_live t) (take i rs)) f)
      (found_from (suc k) i rs (le_of_suc-le-suc h) e (and_right (names_live t w) (all (names_live t) (take i rs)) f) ∙ ap Some (omega arith))

  pub found-faulty : (i : ℕ) (rs : List Withdrawal) → FirstFaulty i rs t → first_passing (is_faulty t) rs ≡ Some i
  unfolding first_passing
  found-faulty i rs h = found_from zero i rs h.within h.faulty h.before ∙ ap Some (omega arith)

  -- where not every record names what is live there is one
  pub first-faulty : (rs : List Withdrawal) → all (names_live t) rs ≡ false → (i : ℕ) × FirstFaulty i rs t
  unfolding all ◌and◌ is_faulty
  first-faulty [] e = clash refl e
  first-faulty (w ∷ rs) e = on (names_live t w)
      (λ l. let r = first-faulty rs (rw l at e) in
      (suc r.0, record { within = suc-le-suc r.1.within; faulty = r.1.faulty; before = and_both _ _ l r.1.before }))
      (λ l. (zero, record { within = zero-lt-suc (length rs); faulty = ap not l; before = refl }))
