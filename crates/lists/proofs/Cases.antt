-- The ways that a test or a comparison can go; two tests joined. Assumes nothing.
use mathlib.Core.Path.{◌≡◌, refl, sym, ◌∙◌}
use mathlib.Core.Bool.{Bool, true, false, ◌&&◌, ◌||◌, true≢false}
use mathlib.Core.Logic.{◌⊎◌, inl, inr, ⊎_elim}
use Prim.Native.Nat.{ℕ, zero, suc, ◌≤◌, ◌<◌}
use native.Mathlib.Nat.{zero-lt-suc}
use lib.Dec.{ltb, eqb}
use borrow.Author.Tests.{ltb-true, ltb-false, eqb-true, eqb-false, ne_eqb}
use Rattle.lists.specs.Tests.{◌and◌}

pub true-or-false : (b : Bool) → (b ≡ true) ⊎ (b ≡ false)
true-or-false true = inl refl
true-or-false false = inr refl

pub eq-or-ne : (a b : ℕ) → (a ≡ b) ⊎ (a ≡ b → ⊥)
eq-or-ne a b = ⊎_elim (λ e. inl (eqb-true a b e)) (λ e. inr (eqb-false a b e)) (true-or-false (eqb a b))

pub lt-or-ge : (a b : ℕ) → (a < b) ⊎ (b ≤ a)
lt-or-ge a b = ⊎_elim (λ e. inl (ltb-true a b e)) (λ e. inr (ltb-false a b e)) (true-or-false (ltb a b))

pub clash {ℓ} : {A : Type ℓ} {b : Bool} → b ≡ true → b ≡ false → A
clash p q = absurd (true≢false (sym p ∙ q))

-- cases, with what is tested first, so that the arms' hypotheses have their types
pub on {ℓ} : {C : Type ℓ} (b : Bool) → (b ≡ true → C) → (b ≡ false → C) → C
on b f g = ⊎_elim f g (true-or-false b)

pub on_same {ℓ} : {C : Type ℓ} (a b : ℕ) → (a ≡ b → C) → ((a ≡ b → ⊥) → C) → C
on_same a b f g = ⊎_elim f g (eq-or-ne a b)

pub on_below {ℓ} : {C : Type ℓ} (a b : ℕ) → (a < b → C) → (b ≤ a → C) → C
on_below a b f g = ⊎_elim f g (lt-or-ge a b)

pub eqb_comm : (a b : ℕ) → eqb a b ≡ eqb b a
eqb_comm a b = on_same a b (λ e. rw e) (λ ne. ne_eqb a b ne ∙ sym (ne_eqb b a (λ q. ne (sym q))))

pub not_none : (n : ℕ) → (n ≡ 0 → ⊥) → 0 < n
not_none zero ne = absurd (ne refl)
not_none (suc n) ne = zero-lt-suc n

-- two tests that pass together are the same
pub test-ext : (a b : Bool) → (a ≡ true → b ≡ true) → (b ≡ true → a ≡ true) → a ≡ b
test-ext true b f g = sym (f refl)
test-ext false true f g = g refl
test-ext false false f g = refl

-- ---- both tests

pub and_left : (a b : Bool) → (a and b) ≡ true → a ≡ true
unfolding ◌and◌
and_left true b e = refl
and_left false b e = e

pub and_right : (a b : Bool) → (a and b) ≡ true → b ≡ true
unfolding ◌and◌
and_right true b e = e
and_right false b e = clash e refl

pub and_both : (a b : Bool) → a ≡ true → b ≡ true → (a and b) ≡ true
unfolding ◌and◌
and_both true b p q = q
and_both false b p q = p

pub and-false-left : (a b : Bool) → a ≡ false → (a and b) ≡ false
unfolding ◌and◌
and-false-left true b e = clash refl e
and-false-left false b e = refl

pub and-false-right : (a b : Bool) → b ≡ false → (a and b) ≡ false
unfolding ◌and◌
and-false-right true b e = e
and-false-right false b e = refl

pub and-true : (a : Bool) → (a and true) ≡ a
unfolding ◌and◌
and-true true = refl
and-true false = refl

pub and_assoc : (a b c : Bool) → ((a and b) and c) ≡ (a and (b and c))
unfolding ◌and◌
and_assoc true b c = refl
and_assoc false b c = refl

-- the same of the code's own `&&`
pub and-true-left : (a b : Bool) → (a && b) ≡ true → a ≡ true
and-true-left true b e = refl
and-true-left false b e = clash e refl

pub and-true-right : (a b : Bool) → (a && b) ≡ true → b ≡ true
and-true-right true b e = e
and-true-right false b e = clash e refl

-- ---- either test

pub or-true : (a b : Bool) → (a || b) ≡ true → (a ≡ true) ⊎ (b ≡ true)
or-true true b e = inl refl
or-true false b e = inr e

pub or-false-left : (a b : Bool) → (a || b) ≡ false → a ≡ false
or-false-left true b e = clash refl e
or-false-left false b e = refl

pub or-false-right : (a b : Bool) → (a || b) ≡ false → b ≡ false
or-false-right true b e = clash refl e
or-false-right false b e = e

pub or_right : (a b : Bool) → b ≡ true → (a || b) ≡ true
or_right true b e = refl
or_right false b e = e

pub or-false : (a : Bool) → (a || false) ≡ a
or-false true = refl
or-false false = refl

pub or-absorb : (a b : Bool) → (b || (a and b)) ≡ b
unfolding ◌and◌
or-absorb true true = refl
or-absorb true false = refl
or-absorb false true = refl
or-absorb false false = refl
