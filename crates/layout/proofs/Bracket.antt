-- A binary search over f 0, f 1, .., strictly ascending: what lies outside lo and hi is settled. Assumes nothing.
use Rattle.std.specs.Prelude.{Some, None}
use mathlib.Core.Path.{◌≡◌, sym, ap, ◌∙◌}
use mathlib.Core.Logic.{⊎_elim}
use Prim.Native.Nat.{ℕ, ◌+◌, ◌≤◌, ◌<◌}
use native.Mathlib.Nat.{eq-or-lt_of_le}
use native.Mathlib.Omega.{arith}
use lib.ListN.{get_or}
use Rattle.lists.specs.Lists.{tab, Ascending}
use Rattle.lists.proofs.Cases.{on_below}
use Rattle.lists.proofs.Tab.{length-tab, getD-tab}
use Rattle.layout.specs.Content.{position}
use Rattle.layout.proofs.Position.{position_here, position-none}

pub record Bracket (f : ℕ → ℕ) (n x lo hi : ℕ) : Type 0 where
  pub lo-le : lo ≤ hi
  pub hi-le : hi ≤ n
  pub below : (k : ℕ) → k < lo → f k < x
  pub above : (k : ℕ) → hi ≤ k → k < n → x < f k

pub bracket-start : {f : ℕ → ℕ} {n x : ℕ} → Bracket f n x 0 n
bracket-start = record { lo-le = omega arith; hi-le = omega arith; below = λ k l. omega arith; above = λ k l m. omega arith }

module _ (f : ℕ → ℕ) (n : ℕ) (asc : Ascending (tab f n)) where
  rising : (i j : ℕ) → i < j → j < n → f i < f j
  rising i j l h =
      let p : get_or (tab f n) i 0 < get_or (tab f n) j 0 = asc i j l (rw length-tab h) in
      omega (arith, getD-tab f n i 0 (omega arith), getD-tab f n j 0 h)

  pub bracket-up : {x lo hi : ℕ} (mid : ℕ) → Bracket f n x lo hi → lo ≤ mid → mid < hi → f mid < x → Bracket f n x (mid + 1) hi
  bracket-up {x} mid b l h t = record {
    lo-le = omega arith;
    hi-le = b.hi-le;
    below = λ k m. ⊎_elim (λ e. omega (arith, ap f e)) (λ q. omega (arith, rising k mid q (omega arith))) (eq-or-lt_of_le {n = k} {m = mid} (omega arith));
    above = b.above;
  }

  pub bracket-down : {x lo hi : ℕ} (mid : ℕ) → Bracket f n x lo hi → lo ≤ mid → mid < hi → x < f mid → Bracket f n x lo mid
  bracket-down {x} mid b l h t = record {
    lo-le = l;
    hi-le = omega arith;
    below = b.below;
    above = λ k m w. ⊎_elim (λ e. omega (arith, ap f e)) (λ q. omega (arith, rising mid k q w)) (eq-or-lt_of_le {n = mid} {m = k} m);
  }

  pub bracket-found : (x mid : ℕ) → mid < n → f mid ≡ x → Some mid ≡ position x (tab f n)
  bracket-found x mid h e = position_here x (tab f n) mid asc (rw length-tab h) (getD-tab f n mid 0 h ∙ e)

pub bracket-none : (f : ℕ → ℕ) (n x lo hi : ℕ) → Bracket f n x lo hi → hi ≤ lo → None ≡ position x (tab f n)
bracket-none f n x lo hi b h = sym (position-none x (tab f n) (λ k l q.
    let l' : k < n = rw length-tab at l in
    let q' : f k ≡ x = sym (getD-tab f n k 0 l') ∙ q in
    on_below k lo (λ w. omega (arith, b.below k w)) (λ w. omega (arith, b.above k (omega arith) l'))))
