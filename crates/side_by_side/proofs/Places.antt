-- Two vertices side by side in a list: at a place, and at some place. Assumes nothing.
use mathlib.Core.Path.{◌≡◌, refl, sym, ap, ap₂, ◌∙◌}
use mathlib.Core.Bool.{Bool, true, false, not, ◌&&◌, ◌||◌}
use mathlib.Core.List.{List, [], ◌∷◌}
use Prim.Native.Nat.{ℕ}
use lib.Dec.{eqb}
use borrow.Author.Tests.{not-true}
use Rattle.lists.specs.Tests.{◌and◌}
use Rattle.lists.specs.Lists.{any, memb}
use Rattle.lists.proofs.Cases.{eqb_comm, and-false-left, and-false-right, or-false-left, or-false-right}
use Rattle.layout.specs.Layout.{limit, members_at, hyperedge_at}
use Rattle.layout.specs.Steps.{Step, steps_of, is_step, makes_step}
use Rattle.lookups.specs.Lookups.{places}
use Rattle.lookups.proofs.Full.{any-places}
use Rattle.edits.specs.Results.{side_by_side}
use Rattle.side_by_side.specs.Places.{step_of, joins}

-- ---- one place: the code compared x and y with v and w

and_is : (a b : Bool) → (a && b) ≡ (a and b)
unfolding ◌and◌
and_is true b = refl
and_is false b = refl

pub joins-by : (x y v w : ℕ) → ((eqb x v && eqb y w) || (eqb x w && eqb y v)) ≡ joins v w (step_of x y)
unfolding joins is_step
joins-by x y v w = ap₂ ◌||◌ (and_is (eqb x v) (eqb y w)) (and_is (eqb x w) (eqb y v))

-- ---- the list of record j

or_swap : (a b c d : Bool) → ((a || b) || (c || d)) ≡ ((a || c) || (b || d))
or_swap true b c d = refl
or_swap false true true d = refl
or_swap false true false d = refl
or_swap false false c d = refl

-- one order or the other at some place: one order at some place, or the other at some place
either-some : (v w : ℕ) (ss : List Step) → any (joins v w) ss ≡ (any (is_step v w) ss || any (is_step w v) ss)
unfolding any joins
either-some v w [] = refl
either-some v w (s ∷ ss) =
    ap (λ (b : Bool). (is_step v w s || is_step w v s) || b) (either-some v w ss)
    ∙ or_swap (is_step v w s) (is_step w v s) (any (is_step v w) ss) (any (is_step w v) ss)

-- where w is nowhere, nothing stands beside it
none_beside : (v w : ℕ) (ms : List ℕ) → memb w ms ≡ false → any (joins v w) (steps_of ms) ≡ false
unfolding any steps_of joins is_step
none_beside v w [] e = refl
none_beside v w (x ∷ []) e = refl
none_beside v w (x ∷ y ∷ ms) e =
    let rest = or-false-right (eqb w x) (memb w (y ∷ ms)) e in
    let not-x : eqb x w ≡ false = eqb_comm x w ∙ or-false-left (eqb w x) (memb w (y ∷ ms)) e in
    let not-y : eqb y w ≡ false = eqb_comm y w ∙ or-false-left (eqb w y) (memb w ms) rest in
    ap₂ ◌||◌
    (ap₂ ◌||◌ (and-false-right (eqb x v) (eqb y w) not-y) (and-false-left (eqb x w) (eqb y v) not-x))
    (none_beside v w (y ∷ ms) rest)

-- for `search`: ms is what `members_formed` gave, r what `holds` said of it, n what `places_beside` counted
module _ (v w : ℕ) (ws : List ℕ) (j : ℕ) (ms : List ℕ) (em : ms ≡ members_at limit ws j) where
  beside-some : any (joins v w) (steps_of ms) ≡ side_by_side v w (hyperedge_at limit ws j)
  unfolding side_by_side makes_step
  beside-some = ap (λ (l : List ℕ). any (joins v w) (steps_of l)) em ∙ either-some v w (steps_of (members_at limit ws j))

  pub beside_none : (r : Bool) → r ≡ memb w ms → not r ≡ true → false ≡ side_by_side v w (hyperedge_at limit ws j)
  beside_none r er h = sym (none_beside v w ms (sym er ∙ not-true r h)) ∙ beside-some

  pub beside-counted : (n : ℕ) → n ≡ places (joins v w) ms → not (eqb n 0) ≡ side_by_side v w (hyperedge_at limit ws j)
  unfolding places
  beside-counted n e = ap (λ (k : ℕ). not (eqb k 0)) e ∙ sym (any-places (joins v w) (steps_of ms)) ∙ beside-some
