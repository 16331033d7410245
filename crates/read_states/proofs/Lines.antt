-- The line that begins at a place, as it is sought. Assumes nothing.
use mathlib.Core.Path.{◌≡◌, sym, ap, ap₂, ◌∙◌}
use mathlib.Core.Bool.{false}
use mathlib.Core.List.{List, [], ◌∷◌, ◌++◌}
use Prim.Native.Nat.{ℕ, suc, ◌+◌, ◌-◌, ◌≤◌, ◌<◌}
use native.Mathlib.Numerals.{add-one}
use native.Mathlib.Omega.{arith}
use lib.ListN.{length, get_or, take, drop, length-drop, take-append-drop, drop_of_length-le}
use lib.Seq.{take-suc, take_all, drop-cons, drop-drop, get_or-drop}
use Rattle.lists.specs.Lists.{memb}
use Rattle.lists.proofs.Memb.{memb-snoc-other}
use Rattle.states_text.specs.Reading.{feed, lines}
use Rattle.states_text.proofs.Lines.{lines_more, lines-last}
use Rattle.read_states.specs.Noting.{LineAt}

pub line_first : (text : List ℕ) (p : ℕ) → memb feed (take (p - p) (drop p text)) ≡ false
line_first text p = let z : p - p ≡ 0 = omega arith in rw z

-- no line feed stands from p up to i
module _ (text : List ℕ) (p i : ℕ) (le : p ≤ i) (plain : memb feed (take (i - p) (drop p text)) ≡ false) where
  behind : p + (i - p) ≡ i
  behind = omega arith

  here : get_or (drop p text) (i - p) 0 ≡ get_or text i 0
  here = get_or-drop p text (i - p) 0 ∙ ap (λ (k : ℕ). get_or text k 0) behind

  module _ (h : i < length text) where
    part-more : take (i + 1 - p) (drop p text) ≡ take (i - p) (drop p text) ++ (get_or text i 0 ∷ [])
    part-more =
        let s : i + 1 - p ≡ suc (i - p) = omega arith in
        rw (s, take-suc (drop p text) (i - p) 0 (omega (arith, length-drop p text)), here)

    pub line_on : (get_or text i 0 ≡ feed → ⊥) → memb feed (take (i + 1 - p) (drop p text)) ≡ false
    line_on ne = ap (memb feed) part-more ∙ memb-snoc-other feed (get_or text i 0) (take (i - p) (drop p text)) (λ q. ne (sym q)) ∙ plain

    pub line-feed : get_or text i 0 ≡ feed → LineAt text p (i + 1)
    line-feed e =
        let rest : drop (i - p) (drop p text) ≡ feed ∷ drop (i + 1) text =
        drop-drop (i - p) p text ∙ ap (λ (k : ℕ). drop k text) behind ∙ drop-cons text i 0 h ∙ ap₂ (λ (c : ℕ) (k : ℕ). c ∷ drop k text) e (sym (add-one i)) in
        record {
          on = omega arith;
          within = omega arith;
          first =
              ap lines (sym (take-append-drop (i - p) (drop p text)) ∙ ap (λ (r : List ℕ). take (i - p) (drop p text) ++ r) rest)
              ∙ lines_more (take (i - p) (drop p text)) (drop (i + 1) text) plain
              ∙ ap (λ (l : List ℕ). l ∷ lines (drop (i + 1) text)) (sym (part-more ∙ ap (λ (c : ℕ). take (i - p) (drop p text) ++ (c ∷ [])) e));
        }

  pub line-last : p < length text → length text ≤ i → i ≤ length text → LineAt text p (length text)
  unfolding lines
  line-last b h k =
      let here : length text ≡ i = omega arith in
      let all : take (i - p) (drop p text) ≡ drop p text = take_all (i - p) (drop p text) (omega (arith, length-drop p text)) in
      rw here (record {
        on = omega arith;
        within = k;
        first =
            lines-last (drop p text) (omega (arith, length-drop p text)) (ap (memb feed) (sym all) ∙ plain)
            ∙ ap₂ (λ (l : List ℕ) (r : List ℕ). l ∷ lines r) (sym all) (sym (drop_of_length-le text {i = i} h));
      })
