-- The words of the pairs: how many there are, and how they are written. Assumes nothing.
use Rattle.std.specs.Prelude.{Ok, Err}
use mathlib.Core.Path.{◌≡◌, refl, sym, ap, ◌∙◌}
use mathlib.Core.Bool.{Bool, true, false, not}
use mathlib.Core.List.{List, [], ◌∷◌, ◌++◌, append_assoc}
use Prim.Native.Nat.{ℕ, zero, suc, ◌+◌, ◌*◌, ◌≤◌, ◌<◌}
use native.Mathlib.Nat.{le_antisymm}
use native.Mathlib.Numerals.{add-one}
use native.Mathlib.Omega.{arith}
use lib.Dec.{eqb}
use lib.ListN.{length, set, length-append, length-set}
use borrow.Author.Tests.{eq-eqb, ne_eqb}
use Rattle.lists.specs.Tests.{◌and◌, count, chosen}
use Rattle.lists.specs.Lists.{flat, over, up_to}
use Rattle.lists.specs.Inner.{Wrote}
use Rattle.lists.proofs.Chosen.{chosen_none, chosen-in, chosen-out, chosen-count, chosen-ext, over_none, over-more}
use Rattle.lists.proofs.Count.{count-below}
use Rattle.lists.proofs.Flat.{flat-snoc}
use Rattle.layout.specs.declared.Refusal.TheVariants.{NoRoom}
use Rattle.layout.specs.Answers.{result_of, listed}
use Rattle.layout.proofs.Answers.{listed-over, listed-fits}
use Rattle.components.proofs.Blocks.{blocks-suc, blocks-ext}
use Rattle.closure.specs.Pairs.{apart, seconds_of, pair_words, row_words, pairs_words}
use Rattle.closure.specs.State.{pairs_below}

-- ---- what the code tests

pub apart-same : (E : ℕ → ℕ → Bool) (x y : ℕ) → x ≡ y → false ≡ apart E x y
unfolding apart ◌and◌
apart-same E x y e = rw (eq-eqb x y e)

pub apart_other : (E : ℕ → ℕ → Bool) (x y : ℕ) → (x ≡ y → ⊥) → E x y ≡ apart E x y
unfolding apart ◌and◌
apart_other E x y e = rw (ne_eqb x y e)

-- ---- how many words

pair-words : (f : ℕ → ℕ) (x : ℕ) (l : List ℕ) → length (flat (pair_words f x) l) ≡ 2 * length l
unfolding flat
pair-words f x [] = refl
pair-words f x (y ∷ l) = omega (arith, pair-words f x l)

row-length : (f : ℕ → ℕ) (E : ℕ → ℕ → Bool) (n x : ℕ) → length (row_words f E n x) ≡ 2 * length (seconds_of E n x)
unfolding row_words
row-length f E n x = pair-words f x (seconds_of E n x)

pairs-upto : (f : ℕ → ℕ) (E : ℕ → ℕ → Bool) (n k : ℕ) → length (flat (row_words f E n) (up_to k)) ≡ 2 * pairs_below E n k
unfolding flat Rattle.lists.specs.Lists.tab
pairs-upto f E n zero = refl
pairs-upto f E n (suc k) =
    omega (
      arith,
      ap (λ (i : ℕ). length (flat (row_words f E n) (up_to i))) (add-one k),
      ap (λ (i : ℕ). pairs_below E n i) (add-one k),
      ap length (blocks-suc (row_words f E n) k),
      ap length (blocks-suc (seconds_of E n) k),
      length-append (flat (row_words f E n) (up_to k)) (row_words f E n k),
      length-append (flat (seconds_of E n) (up_to k)) (seconds_of E n k),
      row-length f E n k,
      pairs-upto f E n k,
    )

-- the count, one first more: c is what was counted, d what `count_row` found
pub pairs-none : (E : ℕ → ℕ → Bool) (n : ℕ) → pairs_below E n 0 ≡ 0
unfolding flat Rattle.lists.specs.Lists.tab
pairs-none E n = refl

pub pairs-more : (E : ℕ → ℕ → Bool) (n k c d : ℕ) → c ≡ pairs_below E n k → d ≡ count (apart E k) n → c + d ≡ pairs_below E n (k + 1)
pairs-more E n k c d e q =
    omega (arith, ap length (blocks-suc (seconds_of E n) k), length-append (flat (seconds_of E n) (up_to k)) (seconds_of E n k), chosen-count (apart E k) n)

-- ---- one row, written: after the seconds below y

pub record Row (f : ℕ → ℕ) (p : ℕ → Bool) (x : ℕ) (d₀ : List ℕ) (y i : ℕ) (d : List ℕ) : Type 0 where
  pub is : d ≡ over (flat (pair_words f x) (chosen p y)) d₀
  pub ends : i ≡ 2 * count p y
  pub same : length d ≡ length d₀

pub row-none : (f : ℕ → ℕ) (p : ℕ → Bool) (x : ℕ) (d₀ : List ℕ) → Row f p x d₀ 0 0 d₀
unfolding flat
row-none f p x d₀ = record { is = rw (chosen_none p) (sym (over_none d₀)); ends = refl; same = refl }

module _ {f : ℕ → ℕ} {p : ℕ → Bool} {x : ℕ} {d₀ : List ℕ} {y i : ℕ} {d : List ℕ} (w : Row f p x d₀ y i d) where
  pub row_room : (n : ℕ) → y < n → p y ≡ true → 2 * count p n ≤ length d₀ → i + 2 ≤ length d
  row_room n l e r = omega (arith, w.ends, w.same, count-below p n y l e)

  pub row-yes : {a b j : ℕ} {d' : List ℕ} → p y ≡ true → i + 2 ≤ length d → a ≡ f x → b ≡ f y → j ≡ i + 2 → d' ≡ set (set d i a) (i + 1) b → Row f p x d₀ (y + 1) j d'
  row-yes {a} {b} {j} {d'} e r ea eb ej ed =
      let q : List ℕ = flat (pair_words f x) (chosen p y) in
      let s : length q ≡ i = pair-words f x (chosen p y) ∙ ap (λ (k : ℕ). 2 * k) (chosen-count p y) ∙ sym w.ends in
      let u : set (over q d₀) i (f x) ≡ over (q ++ (f x ∷ [])) d₀ = over-more q d₀ (f x) i s (omega (arith, w.same)) in
      let z : set (over (q ++ (f x ∷ [])) d₀) (i + 1) (f y) ≡ over ((q ++ (f x ∷ [])) ++ (f y ∷ [])) d₀ =
      over-more (q ++ (f x ∷ [])) d₀ (f y) (i + 1) (omega (arith, length-append q (f x ∷ []))) (omega (arith, w.same)) in
      record {
        is = ed ∙ rw (ea, eb, w.is, u, z) (ap (λ (l : List ℕ). over l d₀) (append_assoc q (f x ∷ []) (f y ∷ []) ∙ sym (flat-snoc (pair_words f x) (chosen p y) y) ∙ ap (flat (pair_words f x)) (sym (chosen-in p y e))));
        ends = omega (arith, ej, w.ends, sym (chosen-count p (y + 1)) ∙ ap length (chosen-in p y e), length-append (chosen p y) (y ∷ []), chosen-count p y);
        same = rw (ed, length-set, length-set) w.same;
      }

  pub row-no : {j : ℕ} {d' : List ℕ} → p y ≡ false → j ≡ i → d' ≡ d → Row f p x d₀ (y + 1) j d'
  row-no {j} {d'} e ej ed = record {
    is = ed ∙ rw (chosen-out p y e) w.is;
    ends = omega (arith, ej, w.ends, sym (chosen-count p (y + 1)) ∙ ap length (chosen-out p y e), chosen-count p y);
    same = rw ed w.same;
  }

pub row-end : {f : ℕ → ℕ} (E : ℕ → ℕ → Bool) {x : ℕ} {d₀ : List ℕ} {y i : ℕ} {d : List ℕ} (n : ℕ) → Row f (apart E x) x d₀ y i d → y ≤ n → n ≤ y → Wrote (row_words f E n x) d₀ i d
unfolding row_words
row-end {f} E {x} {d₀} {y} {i} n w a b =
    let e : y ≡ n = le_antisymm a b in
    record {
      wrote = w.is ∙ ap (λ (k : ℕ). over (flat (pair_words f x) (chosen (apart E x) k)) d₀) e;
      words = w.ends ∙ ap (λ (k : ℕ). 2 * count (apart E x) k) e ∙ sym (pair-words f x (seconds_of E n x) ∙ ap (λ (k : ℕ). 2 * k) (chosen-count (apart E x) n));
    }

pub row_fits : (f : ℕ → ℕ) (E : ℕ → ℕ → Bool) (n x : ℕ) (d : List ℕ) → length (row_words f E n x) ≤ length d → 2 * count (apart E x) n ≤ length d
row_fits f E n x d l = omega (arith, row-length f E n x, chosen-count (apart E x) n)

-- ---- all pairs: c is what `count_pairs` found

module _ (f : ℕ → ℕ) (E : ℕ → ℕ → Bool) (n c : ℕ) (e : c ≡ pairs_below E n n) where
  needed : 2 * c ≡ length (pairs_words f E n)
  needed = omega (arith, pairs-upto f E n n)

  pub pairs-over : (out : List ℕ) → length out < 2 * c → result_of (Err (NoRoom (2 * c))) out ≡ listed (pairs_words f E n) out
  pairs-over out l = listed-over (pairs_words f E n) out (2 * c) needed l

  pub pairs-fit : (out exit : List ℕ) → 2 * c ≤ length out → exit ≡ over (pairs_words f E n) out → result_of (Ok (2 * c)) exit ≡ listed (pairs_words f E n) out
  pairs-fit out exit l w = listed-fits (pairs_words f E n) out (2 * c) needed exit l w

  pub pairs-room : (out : List ℕ) → 2 * c ≤ length out → length (pairs_words f E n) ≤ length out
  pairs-room out l = omega (arith, needed)

-- ---- pairs see of a relation what it says of the numbers below n

module _ (f : ℕ → ℕ) (E F : ℕ → ℕ → Bool) (n : ℕ) (h : (i j : ℕ) → i < n → j < n → E i j ≡ F i j) where
  row-ext : (x : ℕ) → x < n → row_words f E n x ≡ row_words f F n x
  unfolding row_words apart
  row-ext x l = ap (flat (pair_words f x)) (chosen-ext (apart E x) (apart F x) n (λ y k. ap (λ (b : Bool). not (eqb x y) and b) (h x y l k)))

  pub pairs-ext : pairs_words f E n ≡ pairs_words f F n
  pairs-ext = blocks-ext (row_words f E n) (row_words f F n) n row-ext
