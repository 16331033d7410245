-- Laws of words written over others. Assumes nothing.
use mathlib.Core.Path.{◌≡◌, refl, sym, ap, ap₂, ◌∙◌}
use mathlib.Core.List.{List, [], ◌∷◌, ◌++◌, append_assoc}
use Prim.Native.Nat.{ℕ, ◌+◌, ◌-◌, ◌≤◌, ◌<◌}
use native.Mathlib.Numerals.{add-one}
use native.Mathlib.Omega.{arith}
use lib.ListN.{length, get_or, set, take, drop, length-append, length-drop, take-append-drop, get_or-append}
use lib.Seq.{take-append-add, drop-append-add, get_or-append-add, drop-drop, set_split, set-get_or, length-take-le, get_or-take, get_or-drop}
use Rattle.lists.specs.Lists.{over}
use Rattle.lists.specs.Inner.{over_at}
use Rattle.lists.proofs.Chosen.{over_none, over-part, over-length}

pub over-at-none : (a : ℕ) (ws : List ℕ) → over_at a [] ws ≡ ws
unfolding over_at
over-at-none a ws = ap (λ (r : List ℕ). take a ws ++ r) (over_none (drop a ws)) ∙ take-append-drop a ws

-- what stands before, the words, and what stands behind them
pub over-at-split : (a : ℕ) (xs ws : List ℕ) → over_at a xs ws ≡ take a ws ++ (xs ++ drop (a + length xs) ws)
unfolding over_at over
over-at-split a xs ws = ap (λ (r : List ℕ). take a ws ++ (xs ++ r)) (drop-drop (length xs) a ws)

-- one word
pub set-over-at : (ws : List ℕ) (a x : ℕ) → a < length ws → set ws a x ≡ over_at a (x ∷ []) ws
unfolding over_at over
set-over-at ws a x h =
    set_split ws a x h ∙ ap (λ (r : List ℕ). take a ws ++ (x ∷ r)) (ap (λ (k : ℕ). drop k ws) (sym (add-one a)) ∙ sym (drop-drop 1 a ws))

module _ (a : ℕ) (xs ws : List ℕ) (h : a + length xs ≤ length ws) where
  front : length (take a ws) ≡ a
  front = length-take-le a ws (omega arith)

  pub length-over-at : length (over_at a xs ws) ≡ length ws
  unfolding over_at
  length-over-at =
      length-append (take a ws) (over xs (drop a ws))
      ∙ omega (arith, front, over-length xs (drop a ws) (rw length-drop (omega arith)), length-drop a ws)

  -- a word before, one of those written, and one behind
  pub over-at-before : (p : ℕ) → p < a → get_or (over_at a xs ws) p 0 ≡ get_or ws p 0
  unfolding over_at
  over-at-before p l = get_or-append (take a ws) (over xs (drop a ws)) 0 p (omega (arith, front)) ∙ get_or-take a ws p 0 l

  within : (q : ℕ) → get_or (over_at a xs ws) (a + q) 0 ≡ get_or (over xs (drop a ws)) q 0
  unfolding over_at
  within q = ap (λ (k : ℕ). get_or (take a ws ++ over xs (drop a ws)) (k + q) 0) (sym front) ∙ get_or-append-add (take a ws) (over xs (drop a ws)) q 0

  pub over-at-in : (r : ℕ) → r < length xs → get_or (over_at a xs ws) (a + r) 0 ≡ get_or xs r 0
  unfolding over
  over-at-in r l = within r ∙ get_or-append xs (drop (length xs) (drop a ws)) 0 r l

  pub over-at-after : (p : ℕ) → a + length xs ≤ p → get_or (over_at a xs ws) p 0 ≡ get_or ws p 0
  unfolding over
  over-at-after p l =
      let k : ℕ = p - (a + length xs) in
      let e : p ≡ a + (length xs + k) = omega arith in
      let g : a + (length xs + k) ≡ a + length xs + k = omega arith in
      ap (λ (i : ℕ). get_or (over_at a xs ws) i 0) e ∙ within (length xs + k) ∙ get_or-append-add xs (drop (length xs) (drop a ws)) k 0
      ∙ get_or-drop (length xs) (drop a ws) k 0 ∙ get_or-drop a ws (length xs + k) 0 ∙ ap (λ (i : ℕ). get_or ws i 0) (sym e)

  -- more, right behind
  pub over-at-join : (ys : List ℕ) → over_at (a + length xs) ys (over_at a xs ws) ≡ over_at a (xs ++ ys) ws
  unfolding over_at
  over-at-join ys =
      let F : List ℕ = take a ws in
      let Q : List ℕ = over xs (drop a ws) in
      let k : ℕ = length xs in
      ap (λ (b : ℕ). take (b + k) (F ++ Q) ++ over ys (drop (b + k) (F ++ Q))) (sym front)
      ∙ ap₂ (λ (l r : List ℕ). l ++ over ys r) (take-append-add F Q k) (drop-append-add F Q k)
      ∙ append_assoc F (take k Q) (over ys (drop k Q))
      ∙ ap (λ (r : List ℕ). F ++ r) (over-part xs ys (drop a ws) k refl)

  pub over-at-more : (x : ℕ) → a + length xs < length ws → set (over_at a xs ws) (a + length xs) x ≡ over_at a (xs ++ (x ∷ [])) ws
  over-at-more x l = set-over-at (over_at a xs ws) (a + length xs) x (rw length-over-at l) ∙ over-at-join (x ∷ [])

-- two words
pub over-at-pair : (ws : List ℕ) (a x y : ℕ) → a + 2 ≤ length ws → set (set ws a x) (a + 1) y ≡ over_at a (x ∷ y ∷ []) ws
over-at-pair ws a x y h =
    ap (λ (l : List ℕ). set l (a + 1) y) (set-over-at ws a x (omega arith)) ∙ over-at-more a (x ∷ []) ws (omega arith) y (omega arith)

-- two words, and more right behind them
pub over-at-two : (ws : List ℕ) (a x w : ℕ) (ys : List ℕ) → a + 2 ≤ length ws → over_at (a + 2) ys (set (set ws a x) (a + 1) w) ≡ over_at a (x ∷ w ∷ ys) ws
over-at-two ws a x w ys h =
    ap (over_at (a + 2) ys) (over-at-pair ws a x w h) ∙ over-at-join a (x ∷ w ∷ []) ws h ys

-- the two words before are as they were
pub over-at-keep : (ws : List ℕ) (a : ℕ) (ys : List ℕ) → a + 2 ≤ length ws → over_at (a + 2) ys ws ≡ over_at a (get_or ws a 0 ∷ get_or ws (a + 1) 0 ∷ ys) ws
over-at-keep ws a ys h =
    ap (over_at (a + 2) ys) (sym (set-get_or ws (a + 1) 0) ∙ ap (λ (l : List ℕ). set l (a + 1) (get_or ws (a + 1) 0)) (sym (set-get_or ws a 0)))
    ∙ over-at-two ws a (get_or ws a 0) (get_or ws (a + 1) 0) ys h
