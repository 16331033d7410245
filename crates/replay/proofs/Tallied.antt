-- Laws of the tally. Assumes nothing.
use Rattle.std.proofs.Common.{◌≡◌, ℕ, ◌+◌, ◌/◌, ◌%◌, ◌^◌, ◌<◌, ◌≤◌, Bool, true, false, not, List, length, get_or, set, sym, refl, ◌∙◌, add-one, arith, le-ltb, lt-ltb}
use lib.ListN.{get_or-eq_default}
use lib.Seq.{set_out}
use borrow.Author.Tests.{not-true, not-false}
use Rattle.replay.specs.Judging.{one_more, counted_in, total_count}

pub none-there : (ws : List ℕ) (k : ℕ) → length ws ≤ k → 0 ≡ get_or ws k 0
none-there ws k h = sym (get_or-eq_default ws 0 h)

pub one_more_lem : (ws : List ℕ) (i x : ℕ) → x ≡ (get_or ws i 0 + 1) % 2 ^ 32 → set ws i x ≡ one_more i ws
unfolding one_more
one_more_lem ws i x e = rw e

pub none_more : (ws : List ℕ) (i : ℕ) → length ws ≤ i → ws ≡ one_more i ws
unfolding one_more
none_more ws i h = sym (set_out ws i _ h)

module _ (f : ℕ) (same : Bool) (ws : List ℕ) where
  pub count-differing : (once twice : List ℕ) → f < length ws / 2 → not same ≡ true → once ≡ one_more f ws → twice ≡ one_more (length ws / 2 + f) once → twice ≡ counted_in f same ws
  unfolding counted_in
  count-differing once twice h e p q = rw (q, p, lt-ltb f (length ws / 2) h, not-true same e)

  pub count_same : (once : List ℕ) → f < length ws / 2 → not same ≡ false → once ≡ one_more f ws → once ≡ counted_in f same ws
  unfolding counted_in
  count_same once h e p = rw (p, lt-ltb f (length ws / 2) h, not-false same e)

  pub count-nothing : length ws / 2 ≤ f → ws ≡ counted_in f same ws
  unfolding counted_in
  count-nothing h = rw (le-ltb f (length ws / 2) h)

-- ---- sums of counts

pub total-none : (ws : List ℕ) → 0 ≡ total_count ws 0
unfolding total_count
total-none ws = refl

module _ (ws : List ℕ) (sum k : ℕ) (e : sum ≡ total_count ws k) where
  pub total-more : (x y : ℕ) → x ≡ get_or ws k 0 → y ≡ (sum + x) % 2 ^ 32 → y ≡ total_count ws (k + 1)
  unfolding total_count
  total-more x y f g = rw (g, f, e, add-one k)

  pub total-all : (n : ℕ) → k ≤ n → n ≤ k → sum ≡ total_count ws n
  total-all n p q = let same : k ≡ n = omega arith in e ∙ rw same
