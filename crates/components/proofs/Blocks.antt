-- Lists of words one after the other, each written into the part of a slice after the one before; and the words of all classes. Assumes nothing.
use Rattle.std.specs.Prelude.{Ok, Err}
use mathlib.Core.Path.{◌≡◌, refl, sym, ap, ap₂, ◌∙◌}
use mathlib.Core.Bool.{Bool}
use mathlib.Core.List.{List, [], ◌∷◌, ◌++◌, map}
use Prim.Native.Nat.{ℕ, zero, suc, ◌+◌, ◌-◌, ◌≤◌, ◌<◌}
use native.Mathlib.Nat.{le_antisymm}
use native.Mathlib.Numerals.{add-one}
use native.Mathlib.Omega.{arith}
use lib.Dec.{eqb, leb}
use lib.ListN.{length, get_or, take, drop, set, length-append, length-set, length-drop}
use borrow.Author.Tests.{eq-eqb, ne_eqb, le-leb, lt-leb}
use Rattle.lists.specs.Tests.{bit, count, chosen}
use Rattle.lists.specs.Lists.{flat, over, counted, up_to}
use Rattle.lists.specs.Inner.{Wrote}
use Rattle.lists.proofs.Cases.{on_same, on_below}
use Rattle.lists.proofs.Tab.{tab-suc, map-tab}
use Rattle.lists.proofs.Flat.{flat-snoc, tab-getD}
use Rattle.lists.proofs.Parts.{part-tail, back-tail}
use Rattle.lists.proofs.Count.{count-all, count_none}
use Rattle.lists.proofs.Chosen.{chosen-ext, over_none, over-more, over-part, over-length}
use Rattle.layout.specs.declared.Refusal.TheVariants.{NoRoom}
use Rattle.layout.specs.Answers.{result_of, listed}
use Rattle.layout.proofs.Answers.{listed-over, listed-fits}
use Rattle.marks.proofs.Marked.{picked-length}
use Rattle.components.specs.Classes.{class, roots_of, classes}
use Rattle.components.specs.Parts.{in_class, Filled, Partition, class_words, part_words}

-- ---- blocks: h k is the k-th

pub flat_map : {A B : Type 0} (g : B → List ℕ) (f : A → B) (l : List A) → flat g (map f l) ≡ flat (λ x. g (f x)) l
unfolding flat
flat_map g f [] = refl
flat_map g f (x ∷ l) = ap (λ (r : List ℕ). g (f x) ++ r) (flat_map g f l)

pub blocks-suc : (h : ℕ → List ℕ) (k : ℕ) → flat h (up_to (k + 1)) ≡ flat h (up_to k) ++ h k
blocks-suc h k = rw (add-one k, tab-suc (λ i. i) k) (flat-snoc h (up_to k) k)

blocks-upto : (h : ℕ → List ℕ) (n k : ℕ) → k ≤ n → length (flat h (up_to k)) ≤ length (flat h (up_to n))
blocks-upto h zero k l = let e : k ≡ 0 = omega arith in rw e (omega arith)
blocks-upto h (suc n) k l =
    on_same k (suc n)
    (λ e. rw e (omega arith))
    (λ e. omega (arith, blocks-upto h n k (omega arith), ap (λ (i : ℕ). length (flat h (up_to i))) (add-one n), ap length (blocks-suc h n), length-append (flat h (up_to n)) (h n)))

pub blocks-ext : (g h : ℕ → List ℕ) (n : ℕ) → ((k : ℕ) → k < n → g k ≡ h k) → flat g (up_to n) ≡ flat h (up_to n)
unfolding flat Rattle.lists.specs.Lists.tab
blocks-ext g h zero e = refl
blocks-ext g h (suc n) e =
    ap (λ (i : ℕ). flat g (up_to i)) (sym (add-one n)) ∙ blocks-suc g n
    ∙ ap₂ (λ (a b : List ℕ). a ++ b) (blocks-ext g h n (λ k l. e k (omega arith))) (e n (omega arith))
    ∙ sym (blocks-suc h n) ∙ ap (λ (i : ℕ). flat h (up_to i)) (add-one n)

-- a block for each element of a list, by its place
pub blocks-list : (g : ℕ → List ℕ) (l : List ℕ) → flat (λ k. g (get_or l k 0)) (up_to (length l)) ≡ flat g l
blocks-list g l = sym (flat_map g (λ k. get_or l k 0) (up_to (length l))) ∙ ap (flat g) (map-tab (λ k. get_or l k 0) (λ i. i) (length l) ∙ tab-getD l 0)

-- the first k are written
pub record Blocks (h : ℕ → List ℕ) (a₀ : List ℕ) (k at : ℕ) (a : List ℕ) : Type 0 where
  pub is : a ≡ over (flat h (up_to k)) a₀
  pub ends : at ≡ length (flat h (up_to k))

pub blocks-first : (h : ℕ → List ℕ) (a₀ : List ℕ) → Blocks h a₀ 0 0 a₀
unfolding flat Rattle.lists.specs.Lists.tab
blocks-first h a₀ = record { is = sym (over_none a₀); ends = refl }

module _ {h : ℕ → List ℕ} {a₀ : List ℕ} {k at : ℕ} {a : List ℕ} (w : Blocks h a₀ k at a) (n : ℕ) (fits : length (flat h (up_to n)) ≤ length a₀) where
  pub blocks-long : k ≤ n → length a ≡ length a₀
  blocks-long l = ap length w.is ∙ over-length (flat h (up_to k)) a₀ (omega (arith, blocks-upto h n k l))

  pub blocks_at : k ≤ n → at ≤ length a
  blocks_at l = omega (arith, blocks-long l, w.ends, blocks-upto h n k l)

  pub blocks-room : k < n → at + length (h k) ≤ length a
  blocks-room l =
      omega (arith, blocks-long (omega arith), w.ends, blocks-upto h n (k + 1) (omega arith), ap length (blocks-suc h k), length-append (flat h (up_to k)) (h k))

  pub blocks-lent : k < n → length (h k) ≤ length (take (length a - at) (drop at a))
  blocks-lent l = rw (part-tail at a) (omega (arith, blocks-room l, length-drop at a))

  -- b is what came back of the part from `at` on, and j how much of it is written
  pub blocks_more : (b : List ℕ) (j : ℕ) → Wrote (h k) (take (length a - at) (drop at a)) j b
      → Blocks h a₀ (k + 1) (at + j) (take at a ++ (b ++ drop (length a - at) (drop at a)))
  blocks_more b j g = record {
    is = back-tail at a b ∙ ap (λ (x : List ℕ). take at a ++ x) (g.wrote ∙ ap (over (h k)) (part-tail at a))
        ∙ ap (λ (x : List ℕ). take at x ++ over (h k) (drop at x)) w.is ∙ over-part (flat h (up_to k)) (h k) a₀ at (sym w.ends)
        ∙ ap (λ (x : List ℕ). over x a₀) (sym (blocks-suc h k));
    ends = omega (arith, w.ends, g.words, ap length (blocks-suc h k), length-append (flat h (up_to k)) (h k));
  }

  pub blocks_end : k ≤ n → n ≤ k → a ≡ over (flat h (up_to n)) a₀
  blocks_end l m = w.is ∙ ap (λ (i : ℕ). over (flat h (up_to i)) a₀) (le_antisymm l m)

-- ---- one class: its length, then its members in the part after it

pub class-length : (f : ℕ → ℕ) (ids : List ℕ) (n k : ℕ) → length (class_words f ids n k) ≡ suc (count (in_class ids (k + 1)) n)
unfolding class_words
class-length f ids n k = ap suc (picked-length (in_class ids (k + 1)) f n)

pub class-as : (f : ℕ → ℕ) (ids : List ℕ) (n k : ℕ) {d d' : List ℕ} {at : ℕ} → Wrote (counted (map f (chosen (in_class ids (k + 1)) n))) d at d' → Wrote (class_words f ids n k) d at d'
unfolding class_words
class-as f ids n k w = w

pub class-lent : (p : ℕ → Bool) (n s : ℕ) (d : List ℕ) → suc (count p n) ≤ length d → count p n ≤ length (take (length (set d 0 s) - 1) (drop 1 (set d 0 s)))
class-lent p n s d l = rw (part-tail 1 (set d 0 s)) (omega (arith, length-drop 1 (set d 0 s), length-set d 0 s))

-- s is what `class_size` found, b what came back of the part from 1 on
module _ (f : ℕ → ℕ) (p : ℕ → Bool) (n s : ℕ) (e : s ≡ count p n) (d : List ℕ) (l : suc (count p n) ≤ length d) (b : List ℕ) (q : b ≡ over (map f (chosen p n)) (take (length (set d 0 s) - 1) (drop 1 (set d 0 s)))) where
  pub class-written : Wrote (counted (map f (chosen p n))) d (s + 1) (take 1 (set d 0 s) ++ (b ++ drop (length (set d 0 s) - 1) (drop 1 (set d 0 s))))
  class-written =
      let m : s ≡ length (map f (chosen p n)) = e ∙ sym (picked-length p f n) in
      let w : set d 0 s ≡ over (s ∷ []) d = ap (λ (x : List ℕ). set x 0 s) (sym (over_none d)) ∙ over-more [] d s 0 refl (omega arith) in
      record {
        wrote = back-tail 1 (set d 0 s) b ∙ ap (λ (x : List ℕ). take 1 (set d 0 s) ++ x) (q ∙ ap (over (map f (chosen p n))) (part-tail 1 (set d 0 s)))
            ∙ ap (λ (x : List ℕ). take 1 x ++ over (map f (chosen p n)) (drop 1 x)) w ∙ over-part (s ∷ []) (map f (chosen p n)) d 1 refl
            ∙ ap (λ (x : ℕ). over (x ∷ map f (chosen p n)) d) m;
        words = omega (arith, m);
      }

  pub class_same : length (take 1 (set d 0 s) ++ (b ++ drop (length (set d 0 s) - 1) (drop 1 (set d 0 s)))) ≡ length d
  class_same = ap length class-written.wrote ∙ over-length (counted (map f (chosen p n))) d (omega (arith, picked-length p f n))

-- ---- all classes: a length for each, and every number once

count-split : (p q r : ℕ → Bool) (n : ℕ) → ((i : ℕ) → i < n → bit (r i) ≡ bit (p i) + bit (q i)) → count r n ≡ count p n + count q n
count-split p q r zero h = refl
count-split p q r (suc n) h = omega (arith, h n (omega arith), count-split p q r n (λ i l. h i (omega arith)))

-- one of the first k classes
abbrev is_within : List ℕ → ℕ → ℕ → Bool
is_within ids k v = leb (get_or ids v 0) k

within-next : (i k : ℕ) → bit (leb i (suc k)) ≡ bit (leb i k) + bit (eqb i (suc k))
within-next i k =
    on_same i (suc k)
    (λ e. rw (eq-eqb i (suc k) e, le-leb i (suc k) (omega arith), lt-leb i k (omega arith)))
    (λ e. rw (ne_eqb i (suc k) e) (on_below i (suc k)
    (λ l. rw (le-leb i (suc k) (omega arith), le-leb i k (omega arith)))
    (λ l. rw (lt-leb i (suc k) (omega arith), lt-leb i k (omega arith)))))

module _ (f : ℕ → ℕ) (ids : List ℕ) (n c : ℕ) (h : Filled n c ids) where
  words-upto : (k : ℕ) → length (part_words f ids n k) ≡ k + count (is_within ids k) n
  unfolding flat Rattle.lists.specs.Lists.tab
  words-upto zero = omega (arith, count_none (is_within ids 0) n (λ v l. lt-leb (get_or ids v 0) 0 (h v l).0))
  words-upto (suc k) =
      omega (
        arith,
        ap (λ (i : ℕ). length (part_words f ids n i)) (add-one k),
        ap length (blocks-suc (class_words f ids n) k),
        length-append (part_words f ids n k) (class_words f ids n k),
        class-length f ids n k,
        words-upto k,
        ap (λ (i : ℕ). count (in_class ids i) n) (add-one k),
        count-split (is_within ids k) (in_class ids (suc k)) (is_within ids (suc k)) n (λ v l. within-next (get_or ids v 0) k),
      )

  words-number : n + c ≡ length (part_words f ids n c)
  words-number = omega (arith, words-upto c, count-all (is_within ids c) n (λ v l. le-leb (get_or ids v 0) c (h v l).1))

  -- need is what the code counted
  pub classes-over : (out : List ℕ) (need : ℕ) → need ≡ n + c → length out < need → result_of (Err (NoRoom need)) out ≡ listed (part_words f ids n c) out
  classes-over out need e l = listed-over (part_words f ids n c) out need (e ∙ words-number) l

  pub classes-fit : (out : List ℕ) (need : ℕ) → need ≡ n + c → need ≤ length out → (exit : List ℕ) → exit ≡ over (part_words f ids n c) out → result_of (Ok need) exit ≡ listed (part_words f ids n c) out
  classes-fit out need e l exit w = listed-fits (part_words f ids n c) out need (e ∙ words-number) exit l w

  pub classes-room : (out : List ℕ) (need : ℕ) → need ≡ n + c → need ≤ length out → length (part_words f ids n c) ≤ length out
  classes-room out need e l = omega (arith, words-number)

-- ---- the words of a partition are those of its classes

pub partition-words : (f : ℕ → ℕ) {P : ℕ → ℕ → Bool} {n : ℕ} {order ids : List ℕ} {c : ℕ} → Partition P n order ids c
    → part_words f ids n c ≡ flat counted (map (map f) (classes P n order))
unfolding classes class_words
partition-words f {P} {n} {order} {ids} {c} h =
    let roots : List ℕ = roots_of P order in
    let words : ℕ → List ℕ = λ r. counted (map f (class P n r)) in
    ap (λ (i : ℕ). flat (class_words f ids n) (up_to i)) h.parted.number
    ∙ blocks-ext (class_words f ids n) (λ k. words (get_or roots k 0)) (length roots)
    (λ k l. ap (λ (m : List ℕ). counted (map f m)) (chosen-ext (in_class ids (k + 1)) (P (get_or roots k 0)) n (λ v lv. rw (add-one k) (h.parted.is k v l lv))))
    ∙ blocks-list words roots
    ∙ sym (flat_map counted (map f) (map (class P n) roots) ∙ flat_map (λ m. counted (map f m)) (class P n) roots)
