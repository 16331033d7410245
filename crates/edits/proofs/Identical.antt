-- The same list, and an identical hyperedge. Assumes nothing.
use Rattle.std.specs.Prelude.{Option, Some, None, Ok}
use mathlib.Core.Path.{◌≡◌, refl, sym, ap, ◌∙◌}
use mathlib.Core.Bool.{Bool, true, false}
use mathlib.Core.List.{List, [], ◌∷◌}
use Prim.Native.Nat.{ℕ, suc, ◌+◌, ◌≤◌, ◌<◌}
use native.Mathlib.Numerals.{add-one}
use native.Mathlib.Omega.{arith}
use lib.Dec.{eqb}
use lib.Pointwise.{pointwise}
use lib.ListN.{length, get_or, drop, drop_of_length-le}
use lib.Seq.{drop-cons}
use borrow.Author.Tests.{eq-eqb, ne_eqb}
use Rattle.lists.specs.Tests.{◌and◌}
use Rattle.lists.specs.Lists.{same_list}
use Rattle.lists.proofs.Cases.{on, and_right, and-true, and-false-right}
use Rattle.layout.specs.Layout.{limit, hyperedge_limit, hyperedge_word, members_at, hyperedge_at, read_hyperedges, read}
use Rattle.layout.specs.Inner.{Formed}
use Rattle.layout.specs.Answers.{Result, result_of}
use Rattle.edits.specs.Results.{identical, first_passing}
use Rattle.edits.specs.Stages.{add_new_result, add_judged_result}
use Rattle.edits.proofs.Passing.{passing-within, on-passing, on-none-passing}

-- ---- the same list: a loop over i, with `drop i a` and `drop i b` left

same_length : (a b : List ℕ) → same_list a b ≡ true → length a ≡ length b
unfolding same_list
same_length [] [] e = refl
same_length [] (y ∷ ys) e = absurd (let z : ◌≡◌ {A = ℕ} 0 1 = cc in omega arith)
same_length (x ∷ xs) [] e = absurd (let z : ◌≡◌ {A = ℕ} 0 1 = cc in omega arith)
same_length (x ∷ xs) (y ∷ ys) e = ap suc (same_length xs ys (and_right _ _ e))

pub same-not-long : (a b : List ℕ) → (length a ≡ length b → ⊥) → false ≡ same_list a b
same-not-long a b ne = on (same_list a b) (λ e. absurd (ne (same_length a b e))) (λ e. sym e)

module _ (a b : List ℕ) (i : ℕ) (whole : Bool) (inv : same_list (drop i a) (drop i b) ≡ whole) (e : length a ≡ length b) where
  pub same-on : i < length a → get_or a i 0 ≡ get_or b i 0 → same_list (drop (i + 1) a) (drop (i + 1) b) ≡ whole
  unfolding same_list ◌and◌
  same-on h q = rw add-one (rw (drop-cons a i 0 h, drop-cons b i 0 (omega arith), eq-eqb (get_or a i 0) (get_or b i 0) q) at inv)

  pub same-no : i < length a → (get_or a i 0 ≡ get_or b i 0 → ⊥) → false ≡ whole
  unfolding same_list ◌and◌
  same-no h ne = rw (drop-cons a i 0 h, drop-cons b i 0 (omega arith), ne_eqb (get_or a i 0) (get_or b i 0) ne) at inv

  pub same_end : length a ≤ i → true ≡ whole
  unfolding same_list
  same_end h = rw (drop_of_length-le a {i = i} h, drop_of_length-le b {i = i} (omega arith)) at inv

-- what `==` answers
pub same-pointwise : (a b : List ℕ) → pointwise eqb a b ≡ same_list a b
unfolding same_list ◌and◌
same-pointwise [] [] = refl
same-pointwise [] (y ∷ ys) = refl
same-pointwise (x ∷ xs) [] = refl
same-pointwise (x ∷ xs) (y ∷ ys) = rw (same-pointwise xs ys) refl

-- ---- an identical record: x is its weight, ks its members

module _ (ms : List ℕ) (w : ℕ) (ws : List ℕ) (j x : ℕ) (e : x ≡ get_or ws (hyperedge_word limit j + 1) 0) where
  pub identical-weight : (x ≡ w → ⊥) → false ≡ identical ms w (hyperedge_at limit ws j)
  unfolding identical
  identical-weight ne = sym (and-false-right _ _ (ne_eqb w (get_or ws (hyperedge_word limit j + 1) 0) (λ q. ne (e ∙ sym q))))

  pub identical-members : (ks : List ℕ) (r : Bool) → x ≡ w → ks ≡ members_at limit ws j → r ≡ same_list ms ks → r ≡ identical ms w (hyperedge_at limit ws j)
  unfolding identical
  identical-members ks r q k s =
      s ∙ ap (same_list ms) k ∙ sym (ap (λ (b : Bool). same_list ms (members_at limit ws j) and b) (eq-eqb w (get_or ws (hyperedge_word limit j + 1) 0) (sym q ∙ e)) ∙ and-true _)

-- ---- what is answered: p is what `find_identical` found

module _ (ms : List ℕ) (w : ℕ) (ws : List ℕ) (p : Option ℕ) (e : p ≡ first_passing (identical ms w) (read_hyperedges limit ws)) where
  pub identical-within : (j : ℕ) → p ≡ Some j → Formed limit ws → j < hyperedge_limit
  identical-within j h f = passing-within (identical ms w) ws p e j h f

  pub on-identical : (j : ℕ) → p ≡ Some j → (x : ℕ) → x ≡ get_or ws (hyperedge_word limit j) 0 → result_of (Ok x) ws ≡ add_judged_result ms w ws (read limit ws)
  unfolding add_judged_result
  on-identical j h x q = on-passing (identical ms w) ws p e j h Ok ws _ x q

  pub on-new : (y : Result) → p ≡ None → y ≡ add_new_result ms w ws (read limit ws) → y ≡ add_judged_result ms w ws (read limit ws)
  unfolding add_judged_result
  on-new y h q = q ∙ on-none-passing (identical ms w) ws p e Ok ws _ h
