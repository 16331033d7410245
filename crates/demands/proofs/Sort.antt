-- The sort: 9 exactly where steps form a closed walk, and otherwise the smallest order. Assumes nothing.
use Rattle.std.specs.Prelude.{Ok, Err}
use mathlib.Core.Path.{◌≡◌, refl, sym, ap, ◌∙◌}
use mathlib.Core.Bool.{true}
use mathlib.Core.Logic.{⊎_elim}
use mathlib.Core.List.{List}
use Prim.Native.Nat.{ℕ, ◌≤◌, ◌<◌}
use lib.ListN.{length}
use borrow.Author.Tests.{eqb-true}
use Rattle.lists.specs.Lists.{over}
use Rattle.layout.specs.declared.Refusal.TheVariants.{NoRoom}
use Rattle.layout.specs.Layout.{limit, read}
use Rattle.layout.specs.WellFormed.{well_formed}
use Rattle.layout.specs.Inner.{Formed}
use Rattle.layout.specs.Answers.{Result, result_of, listed}
use Rattle.layout.proofs.Read.{formed-of}
use Rattle.layout.proofs.Answers.{formed-result, listed-over, listed-fits}
use Rattle.structural.specs.Components.{live_count}
use Rattle.structural.specs.Sort.{SmallestIn, ClosedIn, acyclic, sort_result}
use Rattle.structural.proofs.Sorting.{closed-or-smallest, closed-answers, smallest-answers, smallest-acyclic, smallest-sort, nine-closed}
use Rattle.demands.specs.Sort.{sort_call, Sorts}

module _ (ws lent : List ℕ) (formed : well_formed limit ws ≡ true) where
  f : Formed limit ws
  f = formed-of limit ws formed

  call-is : sort_call ws lent ≡ sort_result lent (read limit ws)
  call-is = formed-result ws lent (sort_result lent) formed

  smallest : (ClosedIn (read limit ws) → ⊥) → (l : List ℕ) × SmallestIn (read limit ws) l
  smallest none = ⊎_elim (λ c. absurd (none c)) (λ s. s) (closed-or-smallest f)

  -- the smallest order lists the live vertices
  order-length : (l : List ℕ) → SmallestIn (read limit ws) l → live_count (read limit ws) ≡ length l
  unfolding acyclic
  order-length l s = sym (ap length (smallest-sort f l s) ∙ eqb-true _ _ (smallest-acyclic f l s))

  order-listed : (l : List ℕ) → SmallestIn (read limit ws) l → sort_call ws lent ≡ listed l lent
  order-listed l s = call-is ∙ (smallest-answers f lent l s).0

  order-fits : (l : List ℕ) → SmallestIn (read limit ws) l → live_count (read limit ws) ≤ length lent → sort_call ws lent ≡ result_of (Ok (length l)) (over l lent)
  order-fits l s room = order-listed l s ∙ sym (listed-fits l lent (length l) refl (over l lent) (rw (← order-length l s) room) refl)

  order-short : (l : List ℕ) → SmallestIn (read limit ws) l → length lent < live_count (read limit ws) → sort_call ws lent ≡ result_of (Err (NoRoom (live_count (read limit ws)))) lent
  order-short l s short = order-listed l s ∙ sym (listed-over l lent (live_count (read limit ws)) (order-length l s) short)

-- 9 exactly where steps form a closed walk; otherwise the smallest order, where there is room for it
pub nine-or-smallest : (ws lent : List ℕ) → well_formed limit ws ≡ true → Sorts (read limit ws) lent (sort_call ws lent)
nine-or-smallest ws lent formed = record {
  refused = λ c. call-is ws lent formed ∙ (closed-answers (f ws lent formed) lent c).0;
  only_then = λ e. nine-closed (f ws lent formed) lent (ap (λ (r : Result). r.number) (sym (call-is ws lent formed)) ∙ e);
  otherwise = λ none room. let s = smallest ws lent formed none in (s.0, s.1, order-fits ws lent formed s.0 s.1 room);
  no_room = λ none short. let s = smallest ws lent formed none in order-short ws lent formed s.0 s.1 short;
}
