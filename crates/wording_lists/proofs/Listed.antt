-- Laws of rows, of numbers in a line, and of lists with their counts. Assumes nothing.
use mathlib.Core.Path.{◌≡◌, refl, sym, ap, ap₂, ◌∙◌}
use mathlib.Core.List.{List, [], ◌∷◌, ◌++◌, append-nil}
use Prim.Native.Nat.{ℕ, zero, suc, ◌+◌, ◌*◌, ◌-◌, ◌/◌, ◌≤◌, ◌<◌}
use native.Mathlib.Nat.{not-suc-le-zero, le_refl, mul-le-mul_right, div-mul-le_self}
use native.Mathlib.Numerals.{add-one}
use native.Mathlib.Omega.{arith}
use lib.ListN.{length, take, drop, length-drop, drop_of_length-le}
use lib.Seq.{drop-cons, drop-drop, take_all}
use Rattle.lists.specs.Lists.{word_at, flat}
use Rattle.lists.proofs.Parts.{part_count}
use Rattle.wording.specs.Texts.{decimal}
use Rattle.wording.specs.Pages.{Page, page, write_byte, write}
use Rattle.wording.specs.Forms.{filled, row_at, row_filled, joined, number_line, list_lines, listed}
use Rattle.wording_lists.specs.Parts.{after_blank, numbers_or, ListEnd}
use Rattle.wording.proofs.Writing.{one_byte, nothing_written, then, left-more}

-- ---- rows

-- row i lies within the words
pub row_within : (k i : ℕ) (ws : List ℕ) → i < length ws / k → i * k + k ≤ length ws
row_within k i ws h = omega (arith, mul-le-mul_right k h, div-mul-le_self (length ws) k)

pub row_put : (form : List ℕ) (k i : ℕ) (ws : List ℕ) (p : Page) (c : List ℕ) (q : ℕ) → page c q ≡ write (filled form (take (i * k + k - i * k) (drop (i * k) ws)) []) p
    → page c q ≡ write (row_filled form k ws i) p
unfolding row_filled row_at
row_put form k i ws p c q e = rw part_count at e

-- ---- numbers in a line

-- the first, and a blank before each of the others
joined_is : (n : ℕ) (ns : List ℕ) → joined (n ∷ ns) ≡ decimal n ++ flat after_blank ns
unfolding joined flat after_blank
joined_is n [] = sym (append-nil (decimal n))
joined_is n (m ∷ ns) = ap (λ (l : List ℕ). decimal n ++ (32 ∷ l)) (joined_is m ns)

module _ (p : Page) (c : List ℕ) (q : ℕ) where
  pub blank-first : (n : ℕ) (b : List ℕ) (r : ℕ) → page b r ≡ write_byte 32 p → page c q ≡ write (decimal n) (page b r) → page c q ≡ write (after_blank n) p
  unfolding after_blank
  blank-first n b r e f = then p b c (32 ∷ []) (decimal n) r q (e ∙ sym (one_byte 32 p)) f

  pub joined-some : (ns b : List ℕ) (n r : ℕ) → (length ns ≡ 0 → ⊥) → n ≡ word_at ns 0 → page b r ≡ write (decimal n) p
      → page c q ≡ write (flat after_blank (drop 1 ns)) (page b r) → page c q ≡ write (joined ns) p
  joined-some [] b n r ne h e f = absurd (ne refl)
  joined-some (m ∷ ns) b n r ne h e f = rw (joined_is m ns, ← h) (then p b c (decimal n) (flat after_blank ns) r q e f)

  pub or-none : (none ns : List ℕ) → length ns ≡ 0 → page c q ≡ write none p → page c q ≡ write (numbers_or none ns) p
  unfolding numbers_or
  or-none none [] z e = e
  or-none none (n ∷ ns) z e = absurd (omega arith)

  pub or_some : (none ns : List ℕ) → (length ns ≡ 0 → ⊥) → page c q ≡ write (joined ns) p → page c q ≡ write (numbers_or none ns) p
  unfolding numbers_or
  or_some none [] ne e = absurd (ne refl)
  or_some none (n ∷ ns) ne e = e

pub joined-none : (ns b : List ℕ) (at : ℕ) → length ns ≡ 0 → page b at ≡ write (joined ns) (page b at)
unfolding joined
joined-none [] b at z = nothing_written b at
joined-none (n ∷ ns) b at z = absurd (omega arith)

line-is : (opening none ns : List ℕ) → number_line opening none ns ≡ opening ++ (numbers_or none ns ++ (10 ∷ []))
unfolding number_line numbers_or
line-is opening none [] = refl
line-is opening none (n ∷ ns) = refl

pub line-put : (opening none ns : List ℕ) (p : Page) (b c d : List ℕ) (r q s : ℕ) → page b r ≡ write opening p → page c q ≡ write (numbers_or none ns) (page b r)
    → page d s ≡ write_byte 10 (page c q) → page d s ≡ write (number_line opening none ns) p
line-put opening none ns p b c d r q s e f g =
    rw (line-is opening none ns) (then p b d opening (numbers_or none ns ++ (10 ∷ [])) r s e (then (page b r) c d (numbers_or none ns) (10 ∷ []) q s f (g ∙ sym (one_byte 10 (page c q)))))

-- ---- lists

-- a count that is larger than what is left, and one that is not
module _ (ws : List ℕ) (i count : ℕ) (h : i < length ws) (e : count ≡ word_at ws i) where
  pub end-cut : length ws - i ≤ count → ListEnd ws i (length ws)
  end-cut l = record {
    ahead = h;
    inside = le_refl (length ws);
    words = take_all (length ws - (i + 1)) (drop (i + 1) ws) (rw length-drop (omega arith)) ∙ sym (take_all (word_at ws i) (drop (i + 1) ws) (rw (length-drop, ← e) (omega arith)));
    others = drop_of_length-le ws {i = length ws} (le_refl (length ws)) ∙ sym (drop_of_length-le (drop (i + 1) ws) {i = word_at ws i} (rw (length-drop, ← e) (omega arith)));
  }

  pub end_whole : count < length ws - i → ListEnd ws i (i + 1 + count)
  end_whole l =
      let f : i + 1 + count - (i + 1) ≡ count = omega arith in
      record {
        ahead = omega arith;
        inside = omega arith;
        words = rw (f, e);
        others = rw e (sym (drop-drop (word_at ws i) (i + 1) ws));
      }

-- fuel for every word is enough
lines-enough : (f g : ℕ) (first rest none ws : List ℕ) → length ws ≤ f → length ws ≤ g → list_lines f first rest none ws ≡ list_lines g first rest none ws
unfolding list_lines
lines-enough zero zero first rest none ws h l = refl
lines-enough zero (suc g) first rest none [] h l = refl
lines-enough zero (suc g) first rest none (k ∷ ws) h l = absurd (not-suc-le-zero h)
lines-enough (suc f) zero first rest none [] h l = refl
lines-enough (suc f) zero first rest none (k ∷ ws) h l = absurd (not-suc-le-zero l)
lines-enough (suc f) (suc g) first rest none [] h l = refl
lines-enough (suc f) (suc g) first rest none (k ∷ ws) h l =
    ap (λ (t : List ℕ). number_line first none (take k ws) ++ t) (lines-enough f g rest rest none (drop k ws) (rw length-drop (omega arith)) (rw length-drop (omega arith)))

listed_cons : (first rest none : List ℕ) (k : ℕ) (ws : List ℕ) → listed first rest none (k ∷ ws) ≡ number_line first none (take k ws) ++ listed rest rest none (drop k ws)
unfolding listed list_lines
listed_cons first rest none k ws =
    ap (λ (t : List ℕ). number_line first none (take k ws) ++ t)
    (lines-enough (length ws) (length (drop k ws)) rest rest none (drop k ws) (rw length-drop (omega arith)) (le_refl (length (drop k ws))))

-- the list at place i, which ends at e, and those behind it
listed_at : (first rest none ws : List ℕ) (i e : ℕ) → i < length ws → ListEnd ws i e
    → listed first rest none (drop i ws) ≡ number_line first none (take (e - (i + 1)) (drop (i + 1) ws)) ++ listed rest rest none (drop e ws)
listed_at first rest none ws i e h l =
    let d : drop i ws ≡ word_at ws i ∷ drop (i + 1) ws = drop-cons ws i 0 h ∙ rw (add-one i) in
    ap (listed first rest none) d ∙ listed_cons first rest none (word_at ws i) (drop (i + 1) ws)
    ∙ sym (ap₂ (λ (x y : List ℕ). number_line first none x ++ listed rest rest none y) l.words l.others)

module _ (rest none ws b : List ℕ) (i r : ℕ) (w : Page) where
  pub left-list : (e : ℕ) (c : List ℕ) (q : ℕ) → i < length ws → ListEnd ws i e → write (listed rest rest none (drop i ws)) (page b r) ≡ w
      → page c q ≡ write (number_line rest none (take (e - (i + 1)) (drop (i + 1) ws))) (page b r) → write (listed rest rest none (drop e ws)) (page c q) ≡ w
  left-list e c q h l f g = left-more w b c _ _ r q (rw (listed_at rest rest none ws i e h l) at f) g

  pub left-no-list : length ws ≤ i → write (listed rest rest none (drop i ws)) (page b r) ≡ w → page b r ≡ w
  unfolding listed list_lines write
  left-no-list h f = rw (drop_of_length-le ws {i = i} h) at f

pub listed-none : (first rest none ws b : List ℕ) (at : ℕ) → length ws ≡ 0 → page b at ≡ write (listed first rest none ws) (page b at)
unfolding listed list_lines
listed-none first rest none [] b at z = nothing_written b at
listed-none first rest none (k ∷ ws) b at z = absurd (omega arith)

-- the first list, and the others
pub listed-some : (first rest none ws : List ℕ) (p : Page) (e : ℕ) (b c : List ℕ) (r q : ℕ) → (length ws ≡ 0 → ⊥) → ListEnd ws 0 e
    → page b r ≡ write (number_line first none (take (e - 1) (drop 1 ws))) p → page c q ≡ write (listed rest rest none (drop e ws)) (page b r)
    → page c q ≡ write (listed first rest none ws) p
listed-some first rest none ws p e b c r q ne l f g = rw (listed_at first rest none ws 0 e (omega arith) l) (then p b c _ _ r q f g)
