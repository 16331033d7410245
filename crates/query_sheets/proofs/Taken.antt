-- The first words of a slice: as many as are asked for, or all. Assumes nothing.
use mathlib.Core.Path.{◌≡◌, sym}
use mathlib.Core.List.{List}
use Prim.Native.Nat.{ℕ, ◌≤◌, ◌<◌}
use native.Mathlib.Omega.{arith}
use lib.ListN.{length, take}
use lib.Seq.{length-take-le, take_all}

pub count-taken : (n : ℕ) (ws : List ℕ) → n < length ws → n ≡ length (take n ws)
count-taken n ws h = sym (length-take-le n ws (omega arith))

pub all-taken : (n : ℕ) (ws : List ℕ) → length ws ≤ n → ws ≡ take n ws
all-taken n ws h = sym (take_all n ws h)
