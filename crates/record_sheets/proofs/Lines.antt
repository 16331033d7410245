-- Laws of a line for each of a list: of what is left of it, of those that pass a test, of none. Assumes nothing.
use mathlib.Core.Path.{◌≡◌, refl, ap}
use mathlib.Core.Bool.{Bool, true, false}
use mathlib.Core.List.{List, [], ◌∷◌, ◌++◌}
use Prim.Native.Nat.{ℕ, ◌+◌, ◌≤◌, ◌<◌}
use native.Mathlib.Omega.{arith}
use lib.ListN.{length, drop, drop_of_length-le}
use Rattle.lists.specs.Lists.{any, filter, tab, flat}
use Rattle.lists.proofs.Cases.{on, clash}
use Rattle.lists.proofs.Tab.{length-tab, drop-tab}
use Rattle.wording.specs.Pages.{Page, page, write}
use Rattle.wording.proofs.Writing.{left-more}
use Rattle.record_sheets.specs.Records.{lines_or}
use Rattle.record_sheets.specs.Inner.{line_where}

-- ---- a loop over n records: the lines of those that are left, written on the page as it is, give the page w

module _ {A : Type 0} (w : Page) (f : A → List ℕ) (g : ℕ → A) (m n : ℕ) (e : n ≡ m) (b : List ℕ) (i r : ℕ) (h : write (flat f (drop i (tab g m))) (page b r) ≡ w) where
  pub left-record : (c : List ℕ) (q : ℕ) → i < n → page c q ≡ write (f (g i)) (page b r) → write (flat f (drop (i + 1) (tab g m))) (page c q) ≡ w
  unfolding flat
  left-record c q l k = left-more w b c (f (g i)) (flat f (drop (i + 1) (tab g m))) r q (rw (drop-tab g m i (rw e at l)) at h) k

  pub left-no-record : n ≤ i → page b r ≡ w
  unfolding flat write
  left-no-record l = rw (drop_of_length-le (tab g m) {i = i} (rw (length-tab, ← e) l)) at h

-- ---- the lines of those that pass a test

pub flat-where : {A : Type 0} (p : A → Bool) (line : A → List ℕ) (xs : List A) → flat (line_where p line) xs ≡ flat line (filter p xs)
unfolding flat line_where filter
flat-where p line [] = refl
flat-where p line (x ∷ xs) =
    on (p x) (λ e. rw e (ap (λ (l : List ℕ). line x ++ l) (flat-where p line xs))) (λ e. rw e (flat-where p line xs))

-- ---- or `none`

pub lines_none : {A : Type 0} (none : List ℕ) (line : A → List ℕ) (xs : List A) → length xs ≡ 0 → lines_or none line xs ≡ none
unfolding lines_or
lines_none none line [] e = refl
lines_none none line (x ∷ xs) e = absurd (omega arith)

pub lines-some : {A : Type 0} (none : List ℕ) (line : A → List ℕ) (xs : List A) → (length xs ≡ 0 → ⊥) → lines_or none line xs ≡ flat line xs
unfolding lines_or
lines-some none line [] ne = absurd (ne refl)
lines-some none line (x ∷ xs) ne = refl

-- none passes exactly where some does not
pub none_pass : {A : Type 0} (p : A → Bool) (xs : List A) → any p xs ≡ false → length (filter p xs) ≡ 0
unfolding any filter
none_pass p [] e = refl
none_pass p (x ∷ xs) e = on (p x) (λ h. clash refl (rw h at e)) (λ h. rw h (none_pass p xs (rw h at e)))

pub some-pass : {A : Type 0} (p : A → Bool) (xs : List A) → any p xs ≡ true → length (filter p xs) ≡ 0 → ⊥
unfolding any filter
some-pass p [] e z = clash e refl
some-pass p (x ∷ xs) e z =
    on (p x) (λ h. let n : length (x ∷ filter p xs) ≡ 0 = rw h at z in omega arith) (λ h. some-pass p xs (rw h at e) (rw h at z))
