-- What a lookup answers of a vertex that a search found. Assumes nothing.
use Rattle.std.specs.Prelude.{Option, Some, ok_or, Ok}
use mathlib.Core.Path.{◌≡◌, ap, ◌∙◌}
use mathlib.Core.List.{List, [], ◌∷◌}
use Prim.Native.Nat.{ℕ}
use Rattle.layout.specs.Answers.{Answer}
use Rattle.layout.specs.declared.Refusal.{Refusal}
use Rattle.layout.specs.Content.{position}
use Rattle.layout.specs.Answers.{Result, result_of, on_live}
use Rattle.layout.proofs.Answers.{on-found, asked-found}

module _ (live : List ℕ) (refusal : ℕ → Answer) (v : ℕ) (lent : List ℕ) (p : Option ℕ) (i : ℕ) (e : p ≡ position v live) (h : p ≡ Some i) where
  -- n is what the code counted
  pub found-done : (n m : ℕ) → n ≡ m → result_of (Ok n) lent ≡ on_live live refusal (v ∷ []) lent (result_of (Ok m) lent)
  found-done n m q = ap (λ (k : ℕ). result_of (Ok k) lent) q ∙ on-found live refusal v lent (result_of (Ok m) lent) p e i h

  -- a is what the code answered
  pub found-same : (a : Result) (r : Result) → a ≡ r → a ≡ on_live live refusal (v ∷ []) lent r
  found-same a r q = q ∙ on-found live refusal v lent r p e i h

-- the same by `?`: q is what `ok_or` made of p, n is what the code counted
pub asked-done : (live : List ℕ) (refusal : ℕ → Answer) (v : ℕ) (lent : List ℕ) (p : Option ℕ) → p ≡ position v live
    → (z : Refusal) (q : Answer) → q ≡ ok_or p z → (i : ℕ) → q ≡ Ok i → (n m : ℕ) → n ≡ m
    → result_of (Ok n) lent ≡ on_live live refusal (v ∷ []) lent (result_of (Ok m) lent)
asked-done live refusal v lent p e z q made i h n m s =
    asked-found live refusal v lent (result_of (Ok m) lent) p e z q made i h _ (ap (λ (k : ℕ). result_of (Ok k) lent) s)
