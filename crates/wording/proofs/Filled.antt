-- Laws of forms: what a byte stands for, and what is left of a form. Assumes nothing.
use mathlib.Core.Path.{◌≡◌, sym}
use mathlib.Core.Bool.{true, false}
use mathlib.Core.List.{List}
use Prim.Native.Nat.{ℕ, ◌+◌, ◌*◌, ◌-◌, ◌≤◌, ◌<◌}
use native.Mathlib.Numerals.{add-one}
use native.Mathlib.Omega.{arith}
use lib.Dec.{ltb, leb}
use lib.ListN.{length, get_or-eq_default}
use borrow.Author.Tests.{lt-ltb, le-ltb, le-leb, lt-leb, eq-eqb, ne_eqb}
use Rattle.lists.specs.Lists.{word_at}
use Rattle.lists.proofs.Cases.{and_both, and-false-left, and-false-right}
use Rattle.wording.specs.Texts.{decimal}
use Rattle.wording.specs.Pages.{Page, page, write_byte, write}
use Rattle.wording.specs.Forms.{within, wide_at, meant}
use Rattle.wording.proofs.Writing.{one_byte}

-- ---- a word, or two

pub word_none : (ns : List ℕ) (i : ℕ) → length ns ≤ i → 0 ≡ word_at ns i
word_none ns i h = sym (get_or-eq_default ns 0 {n = i} h)

pub wide_is : (ns : List ℕ) (i low high : ℕ) → low ≡ word_at ns i → high ≡ word_at ns (i + 1) → low + 4294967296 * high ≡ wide_at ns i
unfolding wide_at
wide_is ns i low high e f = rw (e, f, add-one i)

-- ---- a byte of a form

inside : (low high c : ℕ) → low ≤ c → c < high → within low high c ≡ true
unfolding within
inside low high c h l = and_both (leb low c) (ltb c high) (le-leb low c h) (lt-ltb c high l)

below : (low high c : ℕ) → c < low → within low high c ≡ false
unfolding within
below low high c h = and-false-left (leb low c) (ltb c high) (lt-leb low c h)

above : (low high c : ℕ) → high ≤ c → within low high c ≡ false
unfolding within
above low high c h = and-false-right (leb low c) (ltb c high) (le-ltb c high h)

module _ (ns name : List ℕ) (c : ℕ) (p : Page) (e : List ℕ) (q : ℕ) where
  pub meant-below : c < 65 → page e q ≡ write_byte c p → page e q ≡ write (meant ns name c) p
  unfolding meant
  meant-below h w =
      rw (below 65 75 c h, below 75 85 c (omega arith), ne_eqb c 85 (λ f. omega arith), one_byte) w

  pub meant_word : (n : ℕ) → 65 ≤ c → c < 75 → n ≡ word_at ns (c - 65) → page e q ≡ write (decimal n) p → page e q ≡ write (meant ns name c) p
  unfolding meant
  meant_word n h l f w = rw (inside 65 75 c h l, ← f) w

  pub meant-wide : (n : ℕ) → 75 ≤ c → c < 85 → n ≡ wide_at ns (c - 75) → page e q ≡ write (decimal n) p → page e q ≡ write (meant ns name c) p
  unfolding meant
  meant-wide n h l f w = rw (above 65 75 c h, inside 75 85 c h l, ← f) w

  pub meant-name : c ≡ 85 → page e q ≡ write name p → page e q ≡ write (meant ns name c) p
  unfolding meant
  meant-name h w = rw (above 65 75 c (omega arith), above 75 85 c (omega arith), eq-eqb c 85 h) w

  pub meant-above : 85 ≤ c → (c ≡ 85 → ⊥) → page e q ≡ write_byte c p → page e q ≡ write (meant ns name c) p
  unfolding meant
  meant-above h ne w = rw (above 65 75 c (omega arith), above 75 85 c h, ne_eqb c 85 ne, one_byte) w
