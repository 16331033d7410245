-- Words that were put, word by word. Assumes nothing.
use mathlib.Core.Path.{◌≡◌, ap, ◌∙◌}
use mathlib.Core.List.{List}
use Prim.Native.Nat.{ℕ, ◌+◌, ◌≤◌, ◌<◌}
use native.Mathlib.Omega.{arith}
use lib.ListN.{length, get_or}
use Rattle.lists.proofs.OverAt.{over-at-before, over-at-in}
use Rattle.frames.specs.Put.{Put}

module _ {at n q : ℕ} {xs a b : List ℕ} (p : Put at n xs a b q) where
  room : at + length xs ≤ length a
  room = omega (arith, p.sized, p.fits)

  pub put-before : (i : ℕ) → i < at → get_or b i 0 ≡ get_or a i 0
  put-before i h = ap (λ (l : List ℕ). get_or l i 0) p.wrote ∙ over-at-before at xs a room i h

  pub put_in : (i : ℕ) → i < n → get_or b (at + i) 0 ≡ get_or xs i 0
  put_in i h = ap (λ (l : List ℕ). get_or l (at + i) 0) p.wrote ∙ over-at-in at xs a room i (omega (arith, p.sized))
