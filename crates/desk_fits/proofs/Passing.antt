-- Two tests that agree at each number below n: the first that passes, and whether one does. Assumes nothing.
use Rattle.std.specs.Prelude.{Option, Some}
use mathlib.Core.Path.{◌≡◌, refl, ap₂}
use mathlib.Core.Bool.{Bool, cond, ◌||◌}
use Prim.Native.Nat.{ℕ, zero, suc, ◌<◌, suc-le-suc}
use native.Mathlib.Nat.{zero-lt-suc}
use Rattle.lists.specs.Lists.{any, tab}
use Rattle.edits.specs.Results.{first_passing_from, first_passing}

from-same : {A B : Type 0} (p : A → Bool) (q : B → Bool) (i : ℕ) (f : ℕ → A) (g : ℕ → B) (n : ℕ) → ((k : ℕ) → k < n → p (f k) ≡ q (g k))
    → first_passing_from p i (tab f n) ≡ first_passing_from q i (tab g n)
unfolding first_passing_from tab
from-same p q i f g zero h = refl
from-same p q i f g (suc n) h =
    ap₂ (λ (b : Bool) (s : Option ℕ). cond b (Some i) s) (h zero (zero-lt-suc n))
    (from-same p q (suc i) (λ k. f (suc k)) (λ k. g (suc k)) n (λ k l. h (suc k) (suc-le-suc l)))

pub first-same : {A B : Type 0} (p : A → Bool) (q : B → Bool) (f : ℕ → A) (g : ℕ → B) (n : ℕ) → ((k : ℕ) → k < n → p (f k) ≡ q (g k))
    → first_passing p (tab f n) ≡ first_passing q (tab g n)
unfolding first_passing
first-same p q f g n h = from-same p q zero f g n h

pub any_same : {A B : Type 0} (p : A → Bool) (q : B → Bool) (f : ℕ → A) (g : ℕ → B) (n : ℕ) → ((k : ℕ) → k < n → p (f k) ≡ q (g k))
    → any p (tab f n) ≡ any q (tab g n)
unfolding any tab
any_same p q f g zero h = refl
any_same p q f g (suc n) h =
    ap₂ ◌||◌ (h zero (zero-lt-suc n)) (any_same p q (λ k. f (suc k)) (λ k. g (suc k)) n (λ k l. h (suc k) (suc-le-suc l)))
