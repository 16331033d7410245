-- Laws of records laid one after the other, and of what pads them. Assumes nothing.
use mathlib.Core.Path.{◌≡◌, refl, sym, ap, ap₂, ◌∙◌}
use mathlib.Core.Bool.{true}
use mathlib.Core.List.{List, [], ◌∷◌, ◌++◌, append_assoc, append-nil}
use Prim.Native.Nat.{ℕ, zero, suc, ◌+◌, ◌*◌, ◌-◌, ◌≤◌, ◌<◌, suc-le-suc}
use native.Mathlib.Nat.{not-suc-le-zero, le_of_suc-le-suc, zero-lt-suc, suc-mul, zero-mul, add_comm}
use native.Mathlib.Omega.{arith}
use lib.Dec.{eqb}
use lib.ListN.{length, get_or, take, drop, replicate, length-append, length-drop, length-replicate, get_or-append}
use lib.Seq.{take-add, drop-drop, length-take-le, get_or-drop, get_or-take, get_or-append-add}
use borrow.Author.Tests.{eqb-true}
use Rattle.lists.specs.Lists.{zeros, tab, flat, pad}
use Rattle.lists.proofs.Tab.{tab-suc}
use Rattle.lists.proofs.All.{all-at, all_of, zeros-are}

pub flat_append : {A : Type 0} (f : A → List ℕ) (xs ys : List A) → flat f (xs ++ ys) ≡ flat f xs ++ flat f ys
unfolding flat
flat_append f [] ys = refl
flat_append f (x ∷ xs) ys = ap (λ (r : List ℕ). f x ++ r) (flat_append f xs ys) ∙ sym (append_assoc (f x) (flat f xs) (flat f ys))

pub flat-snoc : {A : Type 0} (f : A → List ℕ) (xs : List A) (x : A) → flat f (xs ++ (x ∷ [])) ≡ flat f xs ++ f x
unfolding flat
flat-snoc f xs x = flat_append f xs (x ∷ []) ∙ ap (λ (r : List ℕ). flat f xs ++ r) (append-nil (f x))

module _ {A : Type 0} (f : A → List ℕ) (g : ℕ → A) where
  pub flat-suc : (j : ℕ) → flat f (tab g (suc j)) ≡ flat f (tab g j) ++ f (g j)
  flat-suc j = ap (flat f) (tab-suc g j) ∙ flat-snoc f (tab g j) (g j)

  pub flat-more : (j : ℕ) → length (flat f (tab g (suc j))) ≡ length (flat f (tab g j)) + length (f (g j))
  flat-more j = ap length (flat-suc j) ∙ length-append (flat f (tab g j)) (f (g j))

-- n records of k words, each the k words from its place on, are the n * k words from the first's place on
pub flat-tab : {A : Type 0} (f : A → List ℕ) (g : ℕ → A) (k base : ℕ) (ws : List ℕ) (n : ℕ)
    → ((i : ℕ) → i < n → f (g i) ≡ take k (drop (base + i * k) ws)) → flat f (tab g n) ≡ take (n * k) (drop base ws)
unfolding flat tab
flat-tab f g k base ws zero h = rw (zero-mul k)
flat-tab f g k base ws (suc n) h =
    flat-suc f g n
    ∙ ap₂ ◌++◌ (flat-tab f g k base ws n (λ i l. h i (omega arith))) (h n (omega arith) ∙ ap (take k) (sym (drop-drop (n * k) base ws)))
    ∙ sym (take-add (n * k) k (drop base ws)) ∙ ap (λ (m : ℕ). take m (drop base ws)) (sym (suc-mul n k))

-- a front, padded with the 0s that follow it
pub pad-front : (l : List ℕ) (c n : ℕ) → c ≤ n → n ≤ length l → zeros (take (n - c) (drop c l)) ≡ true → pad n (take c l) ≡ take n l
pad-front l c n h k z =
    let rest : List ℕ = take (n - c) (drop c l) in
    let e : n - length (take c l) ≡ length rest = omega (arith, length-take-le c l (omega arith), length-take-le (n - c) (drop c l) (rw length-drop (omega arith))) in
    let f : c + (n - c) ≡ n = omega arith in
    ap (λ (r : List ℕ). take c l ++ r) (ap (λ (m : ℕ). replicate m 0) e ∙ sym (zeros-are rest z)) ∙ sym (take-add c (n - c) l) ∙ ap (λ (m : ℕ). take m l) f

-- the words of a part are 0, word by word
pub zeros-part-at : (ws : List ℕ) (a k : ℕ) → a + k ≤ length ws → zeros (take k (drop a ws)) ≡ true → (p : ℕ) → a ≤ p → p < a + k → get_or ws p 0 ≡ 0
unfolding zeros
zeros-part-at ws a k h z p l m =
    let e : a + (p - a) ≡ p = omega arith in
    let i : p - a < k = omega arith in
    ap (λ (q : ℕ). get_or ws q 0) (sym e) ∙ sym (get_or-drop a ws (p - a) 0) ∙ sym (get_or-take k (drop a ws) (p - a) 0 i)
    ∙ sym (eqb-true 0 _ (all-at (eqb 0) (take k (drop a ws)) (p - a) 0 z (rw (length-take-le k (drop a ws) (rw length-drop (omega arith))) i)))

pub zeros-part-of : (ws : List ℕ) (a k : ℕ) → a + k ≤ length ws → ((p : ℕ) → a ≤ p → p < a + k → get_or ws p 0 ≡ 0) → zeros (take k (drop a ws)) ≡ true
unfolding zeros
zeros-part-of ws a k h f =
    let len : length (take k (drop a ws)) ≡ k = length-take-le k (drop a ws) (rw length-drop (omega arith)) in
    all_of (eqb 0) (take k (drop a ws)) 0 (λ i l. let l' : i < k = rw len at l in
    rw (get_or-take k (drop a ws) i 0 l', get_or-drop a ws i 0, f (a + i) (omega arith) (omega arith)))

-- ---- reading back what was laid down

pub zero-end : (l : List ℕ) (k i : ℕ) → get_or (l ++ replicate k 0) i 0 ≡ get_or l i 0
zero-end [] zero i = refl
zero-end [] (suc k) zero = refl
zero-end [] (suc k) (suc i) = zero-end [] k i
zero-end (x ∷ l) k zero = refl
zero-end (x ∷ l) k (suc i) = zero-end l k i

-- every record has k words
abbrev pub Uniform : {A : Type 0} → (A → List ℕ) → ℕ → List A → A → Type 0
Uniform f k xs d = (i : ℕ) → i < length xs → length (f (get_or xs i d)) ≡ k

pub flat-length : {A : Type 0} (f : A → List ℕ) (k : ℕ) (xs : List A) (d : A) → Uniform f k xs d → length (flat f xs) ≡ length xs * k
unfolding flat
flat-length f k [] d u = sym (zero-mul k)
flat-length f k (x ∷ xs) d u =
    length-append (f x) (flat f xs) ∙ ap₂ ◌+◌ (u zero (zero-lt-suc (length xs))) (flat-length f k xs d (λ i h. u (suc i) (suc-le-suc h)))
    ∙ add_comm k (length xs * k) ∙ sym (suc-mul (length xs) k)

-- word r of record i
pub flat-at : {A : Type 0} (f : A → List ℕ) (k : ℕ) (xs : List A) (d : A) → Uniform f k xs d → (i r : ℕ) → i < length xs → r < k
    → get_or (flat f xs) (i * k + r) 0 ≡ get_or (f (get_or xs i d)) r 0
unfolding flat
flat-at f k [] d u i r h l = absurd (not-suc-le-zero h)
flat-at f k (x ∷ xs) d u zero r h l =
    let e : 0 * k + r ≡ r = omega arith in
    ap (λ (p : ℕ). get_or (f x ++ flat f xs) p 0) e ∙ get_or-append (f x) (flat f xs) 0 r (omega (arith, u zero h))
flat-at f k (x ∷ xs) d u (suc i) r h l =
    let e : suc i * k + r ≡ length (f x) + (i * k + r) = omega (arith, u zero (zero-lt-suc (length xs)), suc-mul i k) in
    ap (λ (p : ℕ). get_or (f x ++ flat f xs) p 0) e ∙ get_or-append-add (f x) (flat f xs) (i * k + r) 0
    ∙ flat-at f k xs d (λ i h. u (suc i) (suc-le-suc h)) i r (le_of_suc-le-suc h) l

-- a list is its own elements
pub tab-getD : {A : Type 0} (xs : List A) (d : A) → tab (λ i. get_or xs i d) (length xs) ≡ xs
unfolding tab
tab-getD [] d = refl
tab-getD {A} (x ∷ xs) d = ap (λ (r : List A). x ∷ r) (tab-getD xs d)

pub length-pad : (n : ℕ) (xs : List ℕ) → length xs ≤ n → length (pad n xs) ≡ n
length-pad n xs h = length-append xs (replicate (n - length xs) 0) ∙ rw length-replicate (omega arith)
