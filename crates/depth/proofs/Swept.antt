-- What the loop over the starts holds. Assumes nothing.
use mathlib.Core.Path.{sym, ap, ◌∙◌}
use mathlib.Core.Bool.{Bool}
use mathlib.Core.List.{List}
use Prim.Native.Nat.{ℕ, ◌+◌, ◌-◌, ◌≤◌, ◌<◌}
use native.Mathlib.Nat.{sub-zero}
use native.Mathlib.Omega.{arith}
use lib.ListN.{replicate}
use Rattle.depth.proofs.Finish.{sweep-step, sweep-end}
use Rattle.depth.proofs.Went.{free-le, fit-blank}
use Rattle.depth.specs.Dfs.{Progress}
use Rattle.depth.specs.Finish.{start_at, sweep, finished}
use Rattle.depth.specs.Went.{progress, Went}
use Rattle.depth.specs.Swept.{Swept, Finishes}

module _ {E : ℕ → ℕ → Bool} {n : ℕ} where
  pub swept-first : n ≤ 256 → Swept E n (replicate 256 0) (replicate 256 0) 0 0
  swept-first b = record {
    within = omega arith;
    fit = fit-blank n b;
    is = rw sub-zero;
  }

  module _ {m o : List ℕ} {t x : ℕ} (h : Swept E n m o t x) where
    pub swept-more : {m' o' : List ℕ} {t' : ℕ} → x < n → Went (λ f. start_at E n f x) n m o t m' o' t' → Swept E n m' o' t' (x + 1)
    swept-more l w = record {
      within = omega arith;
      fit = record { small = h.fit.small; wide = w.wide; long = w.long; room = omega (arith, w.same, h.fit.room) };
      is = ap (sweep E n (n - (x + 1)) (x + 1)) (sym (w.is n (free-le n m))) ∙ sym (sweep-step E n x (progress m o t) l) ∙ h.is;
    }

    pub swept-end : n ≤ x → Finishes E n t o
    unfolding finished
    swept-end l = record {
      is = ap (λ (s : Progress). s.out) (sym (sweep-end E n x (progress m o t) l) ∙ h.is);
      long = h.fit.long;
      short = omega (arith, h.fit.room);
    }
