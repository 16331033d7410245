-- The Rust adds the weights as f64: below 2 to the 53rd those sums are the whole numbers that `total_weight` and `first_greater` go by. Assumes nothing.
use Rattle.std.proofs.Common.{◌≡◌, ℕ, ◌+◌, ◌*◌, ◌^◌, ◌≤◌, true, false, List, [], ◌∷◌, sym, refl, ap, ◌∙◌, add-zero, add_assoc, mul_assoc, mul_comm, add-mul, mul-pos, mul-one, arith, lit<}
use lib.Ieee.{Float, nan, inf, fin, binary64, up, down, round, of_int, sum, add}
use lib.Ieee.Fits.{down_pos}
use lib.Ieee.Exact.{HasValue}
use lib.Ieee.Back.{round_whole}
use lib.Ieee.Scale.{round_same}
use Rattle.lists.specs.Lists.{sum_over}
use Rattle.lists.proofs.Cases.{clash}
use Rattle.layout.specs.Content.{Hyperedge}
use Rattle.walk.specs.Walk.{float, total_weight}

rounded : (n : ℕ) → float n ≡ round binary64 false n 1
unfolding of_int
rounded n = refl

value : (n : ℕ) → n ≤ 2 ^ 53 → HasValue (float n) false n 1
value n h = rw (rounded n) (round_whole binary64 false n h)

cross : (x y u v a b : ℕ) → x ≡ a * u → y ≡ b * v → x * v + y * u ≡ (a + b) * (u * v)
cross x y u v a b p q =
    rw (p, q, add-mul) (ap (λ (z : ℕ). z + b * v * u) (mul_assoc a u v) ∙ ap (λ (z : ℕ). a * (u * v) + z) (mul_assoc b v u ∙ ap (λ (z : ℕ). b * z) (mul_comm v u)))

-- the sum of two floats that have whole numbers' values is the sum, rounded once
sum-rounded : (x y : Float) (a b : ℕ) → HasValue x false a 1 → HasValue y false b 1 → add binary64 x y ≡ round binary64 false (a + b) 1
unfolding add sum
sum-rounded nan y a b h k = absurd h
sum-rounded (inf s) y a b h k = absurd h
sum-rounded (fin s m e) nan a b h k = absurd k
sum-rounded (fin s m e) (inf t) a b h k = absurd k
sum-rounded (fin true m e) (fin t n d) a b h k = clash refl h.0
sum-rounded (fin false m e) (fin true n d) a b h k = clash refl k.0
sum-rounded (fin false m e) (fin false n d) a b h k =
    round_same binary64 false (m * up e * down d + n * up d * down e) (down e * down d) (a + b) 1 (mul-pos (down_pos e) (down_pos d)) (lit< tt)
    (mul-one _ ∙ cross (m * up e) (n * up d) (down e) (down d) a b (sym (mul-one _) ∙ h.1) (sym (mul-one _) ∙ k.1))

sum-exact : (a b : ℕ) → a ≤ 2 ^ 53 → b ≤ 2 ^ 53 → add binary64 (float a) (float b) ≡ float (a + b)
sum-exact a b h k = sum-rounded _ _ a b (value a h) (value b k) ∙ sym (rounded (a + b))

-- the weights added one after the other, as f64
unfoldable pub float_sum : Float → List Hyperedge → Float
float_sum s [] = s
float_sum s (e ∷ es) = float_sum (add binary64 s (float e.weight)) es

pub float-sums-are-whole : (s : ℕ) (es : List Hyperedge) → s + total_weight es ≤ 2 ^ 53 → float_sum (float s) es ≡ float (s + total_weight es)
unfolding float_sum sum_over
float-sums-are-whole s [] h = ap float (sym (add-zero s))
float-sums-are-whole s (e ∷ es) h =
    let more : s + e.weight + total_weight es ≡ s + (e.weight + total_weight es) = add_assoc s e.weight (total_weight es) in
    ap (λ (x : Float). float_sum x es) (sum-exact s e.weight (omega arith) (omega arith))
    ∙ float-sums-are-whole (s + e.weight) es (rw more h) ∙ ap float more
