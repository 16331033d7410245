-- Releases in turn, one more at a time, and what they leave. Assumes nothing.
use Rattle.std.specs.Prelude.{Ok, Err, IsErrAnd}
use mathlib.Core.Path.{◌≡◌, refl, sym, ap, ◌∙◌}
use mathlib.Core.Bool.{true, false, cond}
use mathlib.Core.List.{List, ◌∷◌}
use Prim.Native.Nat.{ℕ, ◌+◌, ◌≤◌, ◌<◌}
use native.Mathlib.Numerals.{add-one}
use lib.Dec.{eqb}
use lib.ListN.{length, get_or, drop, drop_of_length-le}
use lib.Seq.{drop-cons}
use Rattle.lists.specs.Inner.{over_at}
use Rattle.layout.specs.Answers.{Answer}
use Rattle.layout.specs.declared.Refusal.{Refusal}
use Rattle.layout.proofs.Answers.{passed_on}
use Rattle.desk_states.proofs.Turns.{done-by}
use Rattle.layout.specs.Content.{Table}
use Rattle.layout.specs.Layout.{vertex_limit}
use Rattle.layout.specs.Answers.{number, Result, result_of}
use Rattle.desk.specs.Releases.{release_result}
use Rattle.desk_numbers.specs.Numbers.{in_turn, all_or_none, release_numbers_result}
use Rattle.desk_numbers.proofs.Copies.{copied}

refused-number : (a : Answer) (f : Refusal) → a ≡ Err f → eqb (number a) 0 ≡ false
refused-number a f q = ap (λ (b : Answer). eqb (number b) 0) q ∙ sym (done-by (Err f) false refl)

-- ---- the loop: what is left of the releases gives what all of them give

module _ (vs : List ℕ) (t : Table) (whole : Result) (ss : List ℕ) (i : ℕ) (inv : in_turn (drop i vs) ss t ≡ whole) where
  -- `release_formed` answered a and left the states ss'
  module _ (h : i < length vs) (a : Answer) (ss' : List ℕ) (e : result_of a ss' ≡ release_result (get_or vs i 0) ss t) where
    next : cond (eqb (number a) 0) (in_turn (drop (i + 1) vs) ss' t) (result_of a ss') ≡ whole
    unfolding in_turn
    next =
        ap (λ (x : Result). cond (eqb x.number 0) (in_turn (drop (i + 1) vs) x.lent t) x) e
        ∙ ap (λ (k : ℕ). in_turn (get_or vs i 0 ∷ drop k vs) ss t) (add-one i)
        ∙ ap (λ (xs : List ℕ). in_turn xs ss t) (sym (drop-cons vs i 0 h)) ∙ inv

    pub turn-refused : (f : Refusal) (x : Answer) → a ≡ Err f → IsErrAnd x (λ y. y ≡ f) → result_of x ss' ≡ whole
    turn-refused f x q by =
        let z : eqb (number a) 0 ≡ false = refused-number a f q in
        ap (λ (b : Answer). result_of b ss') (passed_on f x by ∙ sym q) ∙ (rw z at next)

    pub turn_more : (n : ℕ) → a ≡ Ok n → in_turn (drop (i + 1) vs) ss' t ≡ whole
    turn_more n q = let z : eqb (number a) 0 ≡ true = ap (λ (b : Answer). eqb (number b) 0) q in rw z at next

  pub turns-done : length vs ≤ i → result_of (Ok 0) ss ≡ whole
  unfolding in_turn
  turns-done h = rw (drop_of_length-le vs h) at inv

-- ---- on a copy ss' of the states ss `release_in_turn` answered a and left ss''

module _ (vs ss : List ℕ) (t : Table) (ss' : List ℕ) (a : Answer) (ss'' : List ℕ)
    (c : ss' ≡ ss) (e : result_of a ss'' ≡ in_turn vs ss' t) where
  turned : result_of a ss'' ≡ in_turn vs ss t
  turned = e ∙ ap (λ (xs : List ℕ). in_turn vs xs t) c

  pub none-released : (f : Refusal) (x : Answer) → a ≡ Err f → IsErrAnd x (λ y. y ≡ f) → result_of x ss ≡ release_numbers_result vs ss t
  unfolding release_numbers_result all_or_none
  none-released f x q by =
      let z : eqb (number a) 0 ≡ false = refused-number a f q in
      ap (λ (b : Answer). result_of b ss) (passed_on f x by ∙ sym q) ∙ rw (← turned, z)

  pub all-released : (n : ℕ) → a ≡ Ok n → (exit : List ℕ) → exit ≡ over_at 0 ss'' ss
      → length exit ≡ length ss → length ss ≡ vertex_limit → length ss'' ≡ vertex_limit
      → result_of (Ok n) exit ≡ release_numbers_result vs ss t
  unfolding release_numbers_result all_or_none
  all-released n q exit s m l l'' =
      let z : eqb (number a) 0 ≡ true = ap (λ (b : Answer). eqb (number b) 0) q in
      ap (λ (b : Answer). result_of b exit) (sym q) ∙ rw (← turned, z) (ap (result_of a) (copied vertex_limit ss'' ss exit s l'' (m ∙ l)))
