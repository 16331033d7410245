-- Words laid over as many others are a copy. Assumes nothing.
use mathlib.Core.Path.{◌≡◌, sym, ap, ◌∙◌}
use mathlib.Core.List.{List, ◌++◌, append-nil}
use Prim.Native.Nat.{ℕ, ◌≤◌}
use native.Mathlib.Omega.{arith}
use lib.ListN.{length, drop, drop_of_length-le, length-append, length-drop}
use Rattle.lists.specs.Lists.{over}
use Rattle.lists.specs.Inner.{over_at}

over-all : (xs ws : List ℕ) → length (over_at 0 xs ws) ≡ length xs → over_at 0 xs ws ≡ xs
unfolding over_at over
over-all xs ws e =
    let m : length ws ≤ length xs = omega (arith, e, length-append xs (drop (length xs) ws), length-drop (length xs) ws) in
    ap (λ (r : List ℕ). xs ++ r) (drop_of_length-le ws m) ∙ append-nil xs

-- r is what `store` left of ws
pub copied : (n : ℕ) (xs ws r : List ℕ) → r ≡ over_at 0 xs ws → length xs ≡ n → length r ≡ n → r ≡ xs
copied n xs ws r e m l = e ∙ over-all xs ws (ap length (sym e) ∙ l ∙ sym m)
