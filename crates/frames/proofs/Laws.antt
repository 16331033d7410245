-- Laws of bytes put one after the other. Assumes nothing.
use mathlib.Core.Path.{◌≡◌, ap, ◌∙◌}
use mathlib.Core.List.{List, ◌++◌}
use Prim.Native.Nat.{ℕ, ◌+◌}
use native.Mathlib.Omega.{arith}
use lib.ListN.{length, length-append}
use Rattle.lists.specs.Lists.{over}
use Rattle.lists.specs.Inner.{over_at}
use Rattle.lists.proofs.OverAt.{length-over-at, over-at-join}
use Rattle.frames.specs.Put.{Put}

pub put-length : {at n : ℕ} {xs before after : List ℕ} {next : ℕ} → Put at n xs before after next → length after ≡ length before
put-length {at} {n} {xs} {before} p = ap length p.wrote ∙ length-over-at at xs before (omega (arith, p.sized, p.fits))

pub put-append : {at n m p q : ℕ} {xs ys a b c : List ℕ} → Put at n xs a b p → Put p m ys b c q → Put at (n + m) (xs ++ ys) a c q
put-append {at} {n} {m} {p} {q} {xs} {ys} {a} {b} {c} f g = record {
  sized = omega (arith, length-append xs ys, f.sized, g.sized);
  fits = omega (arith, f.fits, g.fits, f.reached, put-length f);
  reached = omega (arith, f.reached, g.reached);
  wrote =
      let e : p ≡ at + length xs = omega (arith, f.reached, f.sized) in
      g.wrote ∙ rw (e, f.wrote) (over-at-join at xs a (omega (arith, f.sized, f.fits)) ys);
}

-- the same bytes, by another name
pub put_as : {at n m q : ℕ} {xs ys a b : List ℕ} → n ≡ m → xs ≡ ys → Put at n xs a b q → Put at m ys a b q
put_as d e p = rw (← d, ← e) p

-- from the front on
pub put-over : {n : ℕ} {xs before after : List ℕ} {next : ℕ} → Put 0 n xs before after next → after ≡ over xs before
unfolding over_at
put-over p = p.wrote
