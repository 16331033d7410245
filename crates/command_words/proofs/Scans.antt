-- The words of a line, one after the other, and their numbers stored. Assumes nothing.
use mathlib.Core.Path.{◌≡◌, refl, sym, ap, ap₂, ◌∙◌}
use mathlib.Core.Bool.{true, false}
use mathlib.Core.List.{List, [], ◌∷◌, ◌++◌, append_assoc, append-nil}
use Prim.Native.Nat.{ℕ, suc, ◌+◌, ◌-◌, ◌≤◌, ◌<◌}
use native.Mathlib.Numerals.{add-one}
use native.Mathlib.Omega.{arith}
use lib.Dec.{eqb}
use lib.ListN.{length, set, take, drop, length-append, length-take, length-drop, drop_of_length-le}
use lib.Seq.{drop-cons, drop-drop, take_all, take-append-le}
use borrow.Author.Tests.{leb-true, lt-ltb, le-ltb}
use Rattle.lists.specs.Tests.{◌and◌}
use Rattle.lists.specs.Lists.{all, over}
use Rattle.lists.proofs.Cases.{on, on_below, and_right}
use Rattle.lists.proofs.Chosen.{over_none, over-more, over-length}
use Rattle.commands.specs.Words.{blank, onto, split, words_behind, largest, value_of, is_number, leading}
use Rattle.commands.specs.Commands.{most_numbers}
use Rattle.command_words.specs.Scans.{first_word, worth, stored, fault_in, Scanning}

-- ---- a number stored

pub store_in : (xs : List ℕ) (i x : ℕ) → i < most_numbers → set xs i x ≡ stored xs i x
unfolding stored
store_in xs i x h = rw (lt-ltb i most_numbers h)

pub store_out : (xs : List ℕ) (i x : ℕ) → most_numbers ≤ i → xs ≡ stored xs i x
unfolding stored
store_out xs i x h = rw (le-ltb i most_numbers h)

store-over : (xs lent : List ℕ) (x : ℕ) → length lent ≡ most_numbers → stored (over (take most_numbers xs) lent) (length xs) x ≡ over (take most_numbers (xs ++ (x ∷ []))) lent
store-over xs lent x l = on_below (length xs) most_numbers
    (λ h.
    sym (store_in (over (take most_numbers xs) lent) (length xs) x h)
    ∙ ap (λ (ys : List ℕ). set (over ys lent) (length xs) x) (take_all most_numbers xs (omega arith))
    ∙ over-more xs lent x (length xs) refl (omega arith)
    ∙ ap (λ (ys : List ℕ). over ys lent) (sym (take_all most_numbers (xs ++ (x ∷ [])) (omega (arith, length-append xs (x ∷ []))))))
    (λ h.
    sym (store_out (over (take most_numbers xs) lent) (length xs) x h)
    ∙ ap (λ (ys : List ℕ). over ys lent) (sym (take-append-le most_numbers xs (x ∷ []) h)))

-- ---- the first word, and those behind it

split-first : (xs : List ℕ) → split xs ≡ first_word xs ∷ words_behind (drop (length (first_word xs)) xs)
unfolding split first_word words_behind onto
split-first [] = refl
split-first (c ∷ cs) = on (eqb c blank) (λ b. rw b) (λ b. rw (b, split-first cs))

first-take : (xs : List ℕ) → take (length (first_word xs)) xs ≡ first_word xs
unfolding first_word
first-take [] = refl
first-take (c ∷ cs) = on (eqb c blank) (λ b. rw b) (λ b. rw b (ap (λ (w : List ℕ). c ∷ w) (first-take cs)))

first_fits : (xs : List ℕ) → length (first_word xs) ≤ length xs
unfolding first_word
first_fits [] = omega arith
first_fits (c ∷ cs) = on (eqb c blank) (λ b. rw b (omega arith)) (λ b. rw b (omega (arith, first_fits cs)))

-- ---- the value of a word

number_small : (w : List ℕ) → is_number w ≡ true → value_of w ≤ largest
unfolding is_number
number_small w q = leb-true (value_of w) largest (and_right _ _ (and_right _ _ q))

module _ (w : List ℕ) (x : ℕ) (e : x ≡ worth w) where
  worth-none : largest < x → is_number w ≡ false
  unfolding worth
  worth-none h = on (is_number w) (λ q. absurd (let z : x ≡ value_of w = rw q at e in omega (arith, number_small w q))) (λ q. q)

  worth-is : x ≤ largest → (is_number w ≡ true) × (x ≡ value_of w)
  unfolding worth
  worth-is h = on (is_number w) (λ q. (q, rw q at e)) (λ q. absurd (let z : x ≡ suc largest = rw q at e in omega arith))

-- ---- a loop over the words: those behind `at` are left, and so many numbers were seen

pub record Reading (ws : List (List ℕ)) (line lent numbers : List ℕ) (at seen : ℕ) : Type 0 where
  pub done : List ℕ
  pub count : seen ≡ length done
  pub few : seen ≤ at
  pub within : at ≤ length line
  pub sized : length lent ≡ most_numbers
  pub found : leading ws ≡ done ++ leading (words_behind (drop at line))
  pub tested : all is_number ws ≡ all is_number (words_behind (drop at line))
  pub stores : numbers ≡ over (take most_numbers done) lent

pub reading-first : (line lent : List ℕ) (at : ℕ) → length lent ≡ most_numbers → at ≤ length line → Reading (words_behind (drop at line)) line lent lent at 0
reading-first line lent at l h = record {
  done = [];
  count = refl;
  few = omega arith;
  within = h;
  sized = l;
  found = refl;
  tested = refl;
  stores = sym (over_none lent);
}

pub reading-length : {ws : List (List ℕ)} {line lent numbers : List ℕ} {at seen : ℕ} → Reading ws line lent numbers at seen → length numbers ≡ most_numbers
reading-length {lent = lent} g =
    ap length g.stores
    ∙ over-length (take most_numbers g.done) lent (omega (arith, length-take most_numbers g.done, g.sized))
    ∙ g.sized

module _ {ws : List (List ℕ)} {line lent numbers : List ℕ} {at seen : ℕ} (g : Reading ws line lent numbers at seen) where
  -- no number is left
  module _ (none : leading (words_behind (drop at line)) ≡ []) where
    all_done : leading ws ≡ g.done
    all_done = g.found ∙ ap (λ (l : List ℕ). g.done ++ l) none ∙ append-nil g.done

    scanned : (fault : ℕ) → fault ≡ fault_in ws → Scanning ws lent (record { seen = seen; fault = fault }) numbers
    scanned fault e = record {
      seen = g.count ∙ ap length (sym all_done);
      fault = e;
      numbers = g.stores ∙ ap (λ (l : List ℕ). over (take most_numbers l) lent) (sym all_done);
    }

  pub reading-end : length line ≤ at → Scanning ws lent (record { seen = seen; fault = 0 }) numbers
  unfolding words_behind leading all fault_in
  reading-end h =
      let e : drop at line ≡ [] = drop_of_length-le line {i = at} h in
      scanned (rw e) 0 (rw (g.tested, e))

  module _ (h : at < length line) (end : ℕ) (e : end ≡ at + 1 + length (first_word (drop (at + 1) line))) where
    pub end_fits : end ≤ length line
    end_fits = omega (arith, first_fits (drop (at + 1) line), length-drop (at + 1) line)

    word : List ℕ
    word = take (end - (at + 1)) (drop (at + 1) line)

    behind : words_behind (drop at line) ≡ split (drop (at + 1) line)
    unfolding words_behind
    behind = rw (drop-cons line at 0 h, add-one at)

    is-first : first_word (drop (at + 1) line) ≡ word
    unfolding word
    is-first =
        let l : length (first_word (drop (at + 1) line)) ≡ end - (at + 1) = omega arith in
        sym (first-take (drop (at + 1) line)) ∙ ap (λ (k : ℕ). take k (drop (at + 1) line)) l

    here : words_behind (drop at line) ≡ word ∷ words_behind (drop end line)
    here =
        behind
        ∙ split-first (drop (at + 1) line)
        ∙ ap₂ (λ (w l : List ℕ). w ∷ words_behind l) is-first
        (drop-drop (length (first_word (drop (at + 1) line))) (at + 1) line ∙ ap (λ (k : ℕ). drop k line) (sym e))

    module _ (x : ℕ) (ex : x ≡ worth (take (end - (at + 1)) (drop (at + 1) line))) where
      pub reading-fault : largest < x → Scanning ws lent (record { seen = seen; fault = seen + 1 }) numbers
      unfolding word leading all fault_in ◌and◌
      reading-fault o =
          let q : is_number word ≡ false = worth-none word x ex o in
          let n : leading (words_behind (drop at line)) ≡ [] = rw (here, q) in
          scanned n (seen + 1) (rw (g.tested, here, q, all_done n, ← g.count, add-one))

      pub reading-more : (later : List ℕ) → x ≤ largest → later ≡ stored numbers seen x → Reading ws line lent later end (seen + 1)
      unfolding word leading all ◌and◌
      reading-more later o el =
          let q = worth-is word x ex o in
          record {
            done = g.done ++ (x ∷ []);
            count = omega (arith, length-append g.done (x ∷ []), g.count);
            few = omega (arith, g.few);
            within = end_fits;
            sized = g.sized;
            found = g.found ∙ rw (here, q.0, ← q.1) (sym (append_assoc g.done (x ∷ []) (leading (words_behind (drop end line)))));
            tested = g.tested ∙ rw (here, q.0);
            stores = el ∙ ap₂ (λ (l : List ℕ) (i : ℕ). stored l i x) g.stores g.count ∙ store-over g.done lent x g.sized;
          }
