-- Laws of blocks of words laid one after the other: how many words they have, and a few words written. Assumes nothing.
use mathlib.Core.Path.{◌≡◌, refl, sym, ap, ◌∙◌}
use mathlib.Core.List.{List, [], ◌∷◌}
use Prim.Native.Nat.{ℕ, zero, suc, ◌+◌, ◌*◌, ◌≤◌, ◌<◌}
use native.Mathlib.Nat.{le_antisymm, suc-mul}
use native.Mathlib.Numerals.{add-one}
use native.Mathlib.Omega.{arith}
use lib.ListN.{length, set}
use Rattle.lists.specs.Lists.{over, flat, tab}
use Rattle.lists.specs.Inner.{Wrote}
use Rattle.lists.proofs.Flat.{flat-more}
use Rattle.lists.proofs.Chosen.{over_none, over-more}
use Rattle.lookups.proofs.Laid.{Laid, laid_end}

module _ {A : Type 0} (f : A → List ℕ) (g : ℕ → A) where
  -- no block is above the most
  pub flat-most : (most n : ℕ) → ((i : ℕ) → i < n → length (f (g i)) ≤ most) → length (flat f (tab g n)) ≤ n * most
  unfolding flat tab
  flat-most most zero h = omega arith
  flat-most most (suc n) h = omega (arith, flat-more f g n, flat-most most n (λ i l. h i (omega arith)), h n (omega arith), suc-mul n most)

-- a loop over j that adds up the lengths of the blocks: c so far, none above the most
pub record Totalled {A : Type 0} (f : A → List ℕ) (g : ℕ → A) (most j c : ℕ) : Type 0 where
  pub within : c ≤ j * most
  pub words : c ≡ length (flat f (tab g j))

pub totalled_none : {A : Type 0} (f : A → List ℕ) (g : ℕ → A) (most : ℕ) → Totalled f g most 0 0
unfolding flat tab
totalled_none f g most = record { within = omega arith; words = refl }

module _ {A : Type 0} {f : A → List ℕ} {g : ℕ → A} {most j c : ℕ} (w : Totalled f g most j c) where
  pub totalled_more : {x more : ℕ} → x ≡ length (f (g j)) → x ≤ most → more ≡ c + x → Totalled f g most (j + 1) more
  totalled_more e l q = rw (add-one j) (record { within = omega (arith, w.within, suc-mul j most); words = omega (arith, w.words, flat-more f g j) })

  pub totalled-end : (m : ℕ) → j ≤ m → m ≤ j → c ≡ length (flat f (tab g m))
  totalled-end m a b = w.words ∙ ap (λ (k : ℕ). length (flat f (tab g k))) (le_antisymm a b)

-- ---- a few words, one after the other

pub wrote_none : (out : List ℕ) → Wrote [] out 0 out
wrote_none out = record { words = refl; wrote = sym (over_none out) }

wrote_one : (x : ℕ) (out : List ℕ) → 0 < length out → set out 0 x ≡ over (x ∷ []) out
wrote_one x out h = ap (λ (d : List ℕ). set d 0 x) (sym (over_none out)) ∙ over-more [] out x 0 refl h

over-two : (x y : ℕ) (out : List ℕ) → 1 < length out → set (set out 0 x) 1 y ≡ over (x ∷ y ∷ []) out
over-two x y out h = ap (λ (d : List ℕ). set d 1 y) (wrote_one x out (omega arith)) ∙ over-more (x ∷ []) out y 1 refl h

pub wrote-two : (x y : ℕ) (out : List ℕ) → 2 ≤ length out → Wrote (x ∷ y ∷ []) out 2 (set (set out 0 x) 1 y)
wrote-two x y out h = record { words = refl; wrote = over-two x y out (omega arith) }

pub wrote-three : (x y z : ℕ) (out : List ℕ) → 3 ≤ length out → Wrote (x ∷ y ∷ z ∷ []) out 3 (set (set (set out 0 x) 1 y) 2 z)
wrote-three x y z out h = record {
  words = refl;
  wrote = ap (λ (d : List ℕ). set d 2 z) (over-two x y out (omega arith)) ∙ over-more (x ∷ y ∷ []) out z 2 refl (omega arith);
}

-- a loop that laid all blocks
pub laid-wrote : {A : Type 0} {f : A → List ℕ} {g : ℕ → A} {out₀ out : List ℕ} {j c : ℕ} → Laid f g out₀ j c out → (m : ℕ) → j ≤ m → m ≤ j → Wrote (flat f (tab g m)) out₀ c out
laid-wrote {f = f} {g = g} d m a b = record { words = d.counted ∙ ap (λ (k : ℕ). length (flat f (tab g k))) (le_antisymm a b); wrote = laid_end d m a b }
