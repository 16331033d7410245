-- Laws of the pairs of an inclusion, as words. Assumes nothing.
use mathlib.Core.Path.{◌≡◌, sym, ap, ap₂, ◌∙◌, subst}
use mathlib.Core.Bool.{Bool, true, false, not}
use mathlib.Core.List.{List, [], ◌∷◌}
use Prim.Native.Nat.{ℕ, ◌*◌, ◌≤◌}
use native.Mathlib.Omega.{arith}
use lib.ListN.{length, set}
use borrow.Author.Tests.{not-true, not-false}
use Rattle.lists.proofs.Cases.{on}
use Rattle.layout.specs.Content.{Hyperedge, Table}
use Rattle.layout.specs.Layout.{hyperedge_limit, hyperedge_count, hyperedge_at, read}
use Rattle.layout.specs.Inner.{Formed}
use Rattle.properties.specs.Properties.{is_within, pair, pairs_of}
use Rattle.lists.specs.Inner.{Wrote}
use Rattle.properties.proofs.Blocks.{flat-most, wrote_none, wrote-two}

pub pair-most : (t : Table) (a b : Hyperedge) → length (pair t a b) ≤ 2
unfolding pair
pair-most t a b = on (is_within t a b) (λ e. rw e (omega arith)) (λ e. rw e (omega arith))

pub pairs-most : (L : ℕ) (ws : List ℕ) → Formed L ws → (a : Hyperedge) → length (pairs_of (read L ws) a) ≤ hyperedge_limit * 2
unfolding pairs_of
pairs-most L ws f a = omega (arith, f.shape.hyperedges-le, flat-most (pair (read L ws) a) (hyperedge_at L ws) 2 (hyperedge_count ws) (λ i h. pair-most (read L ws) a (hyperedge_at L ws i)))

-- r is what `strictly_within` found, and the code tested `!r`
module _ (t : Table) (a b : Hyperedge) (r : Bool) (e : r ≡ is_within t a b) where
  pair-no : not r ≡ true → pair t a b ≡ []
  unfolding pair
  pair-no h = rw (← e, not-true r h)

  pair-yes : not r ≡ false → pair t a b ≡ a.number ∷ b.number ∷ []
  unfolding pair
  pair-yes h = rw (← e, not-false r h)

  pub pair-none : not r ≡ true → 0 ≡ length (pair t a b)
  pair-none h = sym (ap length (pair-no h))

  pub pair-two : not r ≡ false → 2 ≡ length (pair t a b)
  pair-two h = sym (ap length (pair-yes h))

  pub pair-kept : (out : List ℕ) → not r ≡ true → Wrote (pair t a b) out 0 out
  pair-kept out h = subst (λ (xs : List ℕ). Wrote xs out 0 out) (sym (pair-no h)) (wrote_none out)

  pub pair-wrote : (out : List ℕ) (x y : ℕ) → not r ≡ false → length (pair t a b) ≤ length out → x ≡ a.number → y ≡ b.number
      → Wrote (pair t a b) out 2 (set (set out 0 x) 1 y)
  pair-wrote out x y h l p q =
      subst (λ (xs : List ℕ). Wrote xs out 2 (set (set out 0 x) 1 y)) (ap₂ (λ (u v : ℕ). u ∷ v ∷ []) p q ∙ sym (pair-yes h))
      (wrote-two x y out (omega (arith, pair-two h)))
