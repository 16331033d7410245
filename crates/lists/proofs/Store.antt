-- A loop that stores once at each index, in order: what holds of each value stored, and that the others are as they were. Assumes nothing.
use mathlib.Core.Path.{◌≡◌, sym, ◌∙◌, subst}
use mathlib.Core.List.{List}
use Prim.Native.Nat.{ℕ, ◌+◌, ◌≤◌, ◌<◌}
use native.Mathlib.Nat.{lt_irrefl}
use native.Mathlib.Omega.{arith}
use lib.ListN.{length, get_or, set}
use lib.Seq.{get_or-set_same, get_or-set_other}
use Rattle.lists.proofs.Cases.{on_same}

pub store-more : (P : ℕ → ℕ → Type 0) (d : List ℕ) (w x : ℕ) → w < length d → ((i : ℕ) → i < w → P i (get_or d i 0)) → P w x
    → (i : ℕ) → i < w + 1 → P i (get_or (set d w x) i 0)
store-more P d w x l h p i li =
    on_same i w
    (λ e. subst (λ (k : ℕ). P k (get_or (set d w x) k 0)) (sym e) (subst (P w) (sym (get_or-set_same d w x 0 l)) p))
    (λ ne. subst (P i) (sym (get_or-set_other d w i x 0 ne)) (h i (omega arith)))

pub store-rest : (d d₀ : List ℕ) (w x : ℕ) → ((i : ℕ) → w ≤ i → get_or d i 0 ≡ get_or d₀ i 0) → (i : ℕ) → w + 1 ≤ i → get_or (set d w x) i 0 ≡ get_or d₀ i 0
store-rest d d₀ w x h i l = get_or-set_other d w i x 0 (λ e. lt_irrefl i (omega (arith, e))) ∙ h i (omega arith)
